-- Room for a circuit in a small table.
use Rattle.std.proofs.Common.{◌≡◌, ℕ, ◌+◌, ◌*◌, ◌^◌, ◌≤◌, arith, mul_assoc}
use Rattle.std.proofs.lemmas.Nat.{mul-le}

pub room_of : (n w v : ℕ) → v ≡ w → w ≤ 128 → n ≤ 1000 → n + (14 * v * v + 24 * v) ≤ 2 ^ 29
room_of n w v e l few =
    let most : v * v ≤ 128 * 128 = mul-le v v 128 128 (omega arith) (omega arith) in
    let same : 14 * v * v ≡ 14 * (v * v) = mul_assoc 14 v v in
    omega arith
