-- Words that are numbers.
use Rattle.std.specs.Prelude.{ℕ, ◌^◌, Bool, false, not, ◌&&◌, nat_eq, nat_lt, nat_le, if◌then◌else◌, List, [], ◌∷◌, Option, Some, None, length}
use Rattle.std.specs.List.{list_all}
use Rattle.stk_base.specs.Text.{decimal}

-- a decimal digit
abbrev pub is_digit : ℕ → Bool
is_digit b = nat_le 48 b && nat_le b 57

-- whether a word of two or more bytes begins with 0
abbrev pub has_leading_zero : List ℕ → Bool
has_leading_zero [] = false
has_leading_zero (b ∷ bs) = nat_eq b 48 && not (nat_eq (length bs) 0)

-- one or more decimal digits without a leading zero
abbrev pub is_numeral : List ℕ → Bool
is_numeral [] = false
is_numeral (b ∷ bs) = not (has_leading_zero (b ∷ bs)) && list_all is_digit (b ∷ bs)

-- the number that a word is: decimal digits, without a sign or a leading zero, of a number below 2^31
abbrev pub number_in : List ℕ → Option ℕ
number_in w = if is_numeral w && nat_lt (decimal w) (2 ^ 31) then Some (decimal w) else None
