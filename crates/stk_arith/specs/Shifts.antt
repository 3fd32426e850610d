-- Shifts of numbers of w bits.
use Rattle.std.specs.Prelude.{ℕ, ◌-◌, ◌*◌, ◌/◌, ◌%◌, ◌^◌, Bool, if◌then◌else◌, nat_le}

-- a shift to the left: what leaves the w bits is lost
abbrev pub shifted_left : ℕ → ℕ → ℕ → ℕ
shifted_left w n count = n * 2 ^ count % 2 ^ w

-- whether the highest of w bits is 1
abbrev pub is_negative : ℕ → ℕ → Bool
is_negative w n = nat_le (2 ^ (w - 1)) n

-- a number of w bits, each bit inverted where the sign is set
abbrev pub signed_bits : Bool → ℕ → ℕ → ℕ
signed_bits sign w n = if sign then 2 ^ w - 1 - n else n

-- a shift to the right that fills with the sign: the bits are inverted before and behind it where the sign is set
abbrev pub shifted_right : Bool → ℕ → ℕ → ℕ → ℕ
shifted_right sign w n count = signed_bits sign w (signed_bits sign w n / 2 ^ count)
