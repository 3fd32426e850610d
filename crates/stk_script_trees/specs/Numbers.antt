-- Numbers of at most 128 bits.
use Rattle.std.specs.Prelude.{ℕ, ◌^◌, nat_lt, Option, Some, None, if◌then◌else◌}

-- a number where it is below 2 to 128
abbrev pub small : ℕ → Option ℕ
small n = if nat_lt n (2 ^ 128) then Some n else None
