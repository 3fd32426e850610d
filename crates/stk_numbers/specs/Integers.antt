-- Integer constants (C11 6.4.4.1).
use Rattle.std.specs.Prelude.{ℕ, Bool, true, false, ◌&&◌, ◌||◌, List, [], ◌∷◌, Option, Some, None, nat_eq, if◌then◌else◌}
use Rattle.std.specs.Option.{option_map}
use Rattle.stk_ctype.specs.declared.kind.IntKind.{IntKind}
use Rattle.stk_numbers.specs.declared.suffixes.Suffix.{Suffix}
use Rattle.stk_numbers.specs.declared.suffixes.Suffix.TheVariants as suffix
use Rattle.stk_numbers.specs.Suffixes.{constant_kind}
use Rattle.stk_numbers.specs.Digits.{leading, behind, written}

-- whether a byte is `u` or `U`
abbrev pub is_u : ℕ → Bool
is_u c = nat_eq c 117 || nat_eq c 85

-- whether a byte is `l` or `L`
abbrev pub is_l : ℕ → Bool
is_l c = nat_eq c 108 || nat_eq c 76

-- whether a byte is `x` or `X`
abbrev pub is_x : ℕ → Bool
is_x c = nat_eq c 120 || nat_eq c 88

-- the suffix that a text is
abbrev pub suffix_of : List ℕ → Option Suffix
suffix_of [] = Some suffix.None
suffix_of (a ∷ []) = if is_u a then Some suffix.U else (if is_l a then Some suffix.L else None)
suffix_of (a ∷ b ∷ []) = if (is_u a && is_l b) || (is_l a && is_u b) then Some suffix.UL else (if is_l a && nat_eq a b then Some suffix.LL else None)
suffix_of (a ∷ b ∷ c ∷ []) = if (is_u a && is_l b && nat_eq b c) || (is_l a && nat_eq a b && is_u c) then Some suffix.ULL else None
suffix_of (a ∷ b ∷ c ∷ d ∷ rest) = None

-- what comes behind `0x` or `0X`, where a text begins so
abbrev pub behind_hexadecimal : List ℕ → Option (List ℕ)
behind_hexadecimal [] = None
behind_hexadecimal (a ∷ []) = None
behind_hexadecimal (a ∷ b ∷ rest) = if nat_eq a 48 && is_x b then Some rest else None

-- whether a text begins with 0
abbrev pub begins_with_zero : List ℕ → Bool
begins_with_zero [] = false
begins_with_zero (a ∷ rest) = nat_eq a 48

-- whether there is nothing in a text
abbrev pub is_nothing : List ℕ → Bool
is_nothing [] = true
is_nothing (a ∷ rest) = false

-- a number of a constant with the kind that it has
abbrev pub kind_on : Bool → ℕ → Option Suffix → Option (IntKind × ℕ)
kind_on decimal n None = None
kind_on decimal n (Some s) = option_map (λ k. (k, n)) (constant_kind decimal s n)

-- the kind and the number of a constant in a base: at least one digit, then a suffix
abbrev pub in_base : Bool → ℕ → List ℕ → Option (IntKind × ℕ)
in_base decimal base text = if is_nothing (leading base text) then None else kind_on decimal (written base (leading base text)) (suffix_of (behind base text))

-- a constant is hexadecimal behind `0x` or `0X`, octal where it begins with 0, and else decimal
abbrev pub by_prefix : List ℕ → Option (List ℕ) → Option (IntKind × ℕ)
by_prefix text (Some digits) = in_base false 16 digits
by_prefix text None = if begins_with_zero text then in_base false 8 text else in_base true 10 text

-- the kind and the number of an integer constant
abbrev pub integer_constant : List ℕ → Option (IntKind × ℕ)
integer_constant text = by_prefix text (behind_hexadecimal text)
