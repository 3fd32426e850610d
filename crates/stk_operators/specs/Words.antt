-- The range of the numbers of a run.
use Rattle.std.specs.Prelude.{◌-◌, ◌^◌, ℤ, pos, negsuc, ◌≤ℤ◌}

-- from -2^63, the least number of `long`, to 2^64 - 1, the greatest one of `unsigned long` (C11 6.2.5; LP64)
abbrev pub IsWord : ℤ → Type 0
IsWord z = (negsuc (2 ^ 63 - 1) ≤ℤ z) × (z ≤ℤ pos (2 ^ 64 - 1))
