-- Sums of 64 bits: what is added may have been capped before.
use Rattle.std.proofs.Common.{ℕ, ◌≡◌, ◌+◌, ◌-◌, ◌^◌, ◌≤◌, min, arith}
use Rattle.stk_weights.specs.Sums.{capped}

-- a number that isn't greater is itself
pub uncapped : (n : ℕ) → n ≤ 2 ^ 32 → capped n ≡ n
uncapped n h = omega arith

pub capped_left : (a b : ℕ) → min (capped a + b) (2 ^ 64 - 1) ≡ capped (a + b)
capped_left a b = omega arith

pub capped_both : (a b : ℕ) → min (capped a + capped b) (2 ^ 64 - 1) ≡ capped (a + b)
capped_both a b = omega arith

pub ruleset capping = (uncapped, capped_left, capped_both)
