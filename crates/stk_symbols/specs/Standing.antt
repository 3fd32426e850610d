-- The sign and the magnitude of the number that bits stand for.
use Rattle.std.specs.Prelude.{ℕ, ◌-◌, ◌%◌, ◌^◌, Bool, true, false, not, nat_lt, if◌then◌else◌}

-- whether the top one of w bits is 0
abbrev pub is_plus : ℕ → ℕ → Bool
is_plus w n = nat_lt n (2 ^ (w - 1))

-- the bits of the number, or of the number with its sign turned
abbrev pub turned_bits : ℕ → Bool → ℕ → ℕ
turned_bits w p n = if p then n else (2 ^ w - n) % 2 ^ w

-- the magnitude of the signed number of w bits
abbrev pub magnitude : ℕ → ℕ → ℕ
magnitude w n = turned_bits w (is_plus w n) n

-- whether two truths are one
abbrev pub same : Bool → Bool → Bool
same true b = b
same false b = not b
