-- Digits, and the numbers that they write (C11 6.4.4.1).
use Rattle.std.specs.Prelude.{ℕ, ◌+◌, ◌-◌, ◌*◌, ◌^◌, Bool, ◌&&◌, List, [], ◌∷◌, Option, Some, None, nat_lt, nat_le, if◌then◌else◌}

-- whether a byte is from one byte to another
abbrev pub is_between : ℕ → ℕ → ℕ → Bool
is_between low high c = nat_le low c && nat_le c high

-- the value of a digit, decimal or hexadecimal; 16 for any other byte
abbrev pub digit_value : ℕ → ℕ
digit_value c = if is_between 48 57 c then c - 48 else (if is_between 97 102 c then c - 87 else (if is_between 65 70 c then c - 55 else 16))

-- whether a byte is a digit in a base
abbrev pub is_digit : ℕ → ℕ → Bool
is_digit base c = nat_lt (digit_value c) base

-- the digits that a text begins with
abbrev pub leading : ℕ → List ℕ → List ℕ
leading base [] = []
leading base (c ∷ cs) = if is_digit base c then c ∷ leading base cs else []

-- what comes behind them
abbrev pub behind : ℕ → List ℕ → List ℕ
behind base [] = []
behind base (c ∷ cs) = if is_digit base c then behind base cs else c ∷ cs

-- the number that digits write behind a number
abbrev pub written_behind : ℕ → ℕ → List ℕ → ℕ
written_behind base n [] = n
written_behind base n (c ∷ cs) = written_behind base (n * base + digit_value c) cs

-- the number that digits write
abbrev pub written : ℕ → List ℕ → ℕ
written base cs = written_behind base 0 cs

-- a number where it is below 2^64
abbrev pub capped : ℕ → Option ℕ
capped n = if nat_lt n (2 ^ 64) then Some n else None
