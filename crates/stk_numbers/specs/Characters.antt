-- Character constants and string literals (C11 6.4.4.4, 6.4.5).
use Rattle.std.specs.Prelude.{ℕ, List, [], ◌∷◌, Option, Some, None, ℤ, pos, nat_lt, nat_eq, take, drop, length, if◌then◌else◌}
use Rattle.std.specs.Option.{option_map}
use Rattle.stk_ctype.specs.declared.kind.IntKind.TheVariants as kind
use Rattle.stk_numbers.specs.Kinds.{wrap}
use Rattle.stk_numbers.specs.Digits.{leading, behind, written}
use Rattle.stk_numbers.specs.Integers.{is_nothing}

-- the byte of an escape of one letter or mark
abbrev pub simple_escape : ℕ → Option ℕ
simple_escape c = if nat_eq c 39 then Some 39 else (if nat_eq c 34 then Some 34 else (if nat_eq c 63 then Some 63 else (if nat_eq c 92 then Some 92 else (if nat_eq c 97 then Some 7 else (if nat_eq c 98 then Some 8 else (if nat_eq c 102 then Some 12 else (if nat_eq c 110 then Some 10 else (if nat_eq c 114 then Some 13 else (if nat_eq c 116 then Some 9 else (if nat_eq c 118 then Some 11 else None))))))))))

-- a value with what comes behind it, where it is a byte
abbrev pub as_byte : ℕ → List ℕ → Option (ℕ × List ℕ)
as_byte n rest = if nat_lt n 256 then Some (n, rest) else None

-- what digits of a base write, with what comes behind them; there is at least one digit
abbrev pub numeric_escape : ℕ → List ℕ → List ℕ → Option (ℕ × List ℕ)
numeric_escape base digits rest = if is_nothing digits then None else as_byte (written base digits) rest

-- the octal digits that a text begins with, at most three
abbrev pub octal_digits : List ℕ → List ℕ
octal_digits text = leading 8 (take 3 text)

-- an escape, behind its backslash: a letter or mark, one to three octal digits, or x and hexadecimal digits
abbrev pub escape_on : Option ℕ → ℕ → List ℕ → Option (ℕ × List ℕ)
escape_on (Some n) c rest = Some (n, rest)
escape_on None c rest = if nat_eq c 120 then numeric_escape 16 (leading 16 rest) (behind 16 rest) else numeric_escape 8 (octal_digits (c ∷ rest)) (drop (length (octal_digits (c ∷ rest))) (c ∷ rest))

abbrev pub escape_at : List ℕ → Option (ℕ × List ℕ)
escape_at [] = None
escape_at (c ∷ rest) = escape_on (simple_escape c) c rest

-- the byte that a text begins with, as itself or as an escape, and what comes behind it
abbrev pub byte_at : List ℕ → Option (ℕ × List ℕ)
byte_at [] = None
byte_at (c ∷ rest) = if nat_eq c 92 then escape_at rest else Some (c, rest)

-- the text between two quotes of a kind
abbrev pub without_last : ℕ → List ℕ → Option (List ℕ)
without_last quote [] = None
without_last quote (a ∷ []) = if nat_eq a quote then Some [] else None
without_last quote (a ∷ b ∷ rest) = option_map (λ t. a ∷ t) (without_last quote (b ∷ rest))

abbrev pub between : ℕ → List ℕ → Option (List ℕ)
between quote [] = None
between quote (a ∷ rest) = if nat_eq a quote then without_last quote rest else None

-- the number of a character constant: the byte of its one character, as a `char`
abbrev pub only : Option (ℕ × List ℕ) → Option ℤ
only None = None
only (Some (n, [])) = Some (wrap kind.Char (pos n))
only (Some (n, a ∷ rest)) = None

abbrev pub character_on : Option (List ℕ) → Option ℤ
character_on None = None
character_on (Some text) = only (byte_at text)

abbrev pub character_constant : List ℕ → Option ℤ
character_constant text = character_on (between 39 text)
