-- Constants and string literals as expressions (C11 6.4.4, 6.4.5, 6.5.1).
use Rattle.std.specs.Prelude.{ℕ, ◌+◌, nat_le, if◌then◌else◌, List, length, map, Option, Some, None, ℤ, pos}
use Rattle.stk_base.specs.declared.span.Span.{Span}
use Rattle.stk_base.specs.Text.{text_of}
use Rattle.stk_ctype.specs.declared.kind.IntKind.{IntKind}
use Rattle.stk_ctype.specs.declared.kind.IntKind.TheVariants.{Char, Int}
use Rattle.stk_ctype.specs.Types.{integer_type, array_type}
use Rattle.stk_ctype.specs.Structs.{size_limit}
use Rattle.stk_numbers.specs.Integers.{integer_constant}
use Rattle.stk_numbers.specs.Characters.{character_constant}
use Rattle.stk_numbers.specs.Strings.{string_bytes}
use Rattle.stk_type_rules.specs.Facts.{Ruled, Breaks, Fits, place, literal}

-- an integer constant, where the text is one
abbrev pub number_as : Option (IntKind × ℕ) → Ruled
number_as None = Breaks 11
number_as (Some p) = Fits (literal (integer_type p.0) (pos p.1))

abbrev pub number_rule : List ℕ → Ruled
number_rule text = number_as (integer_constant text)

-- a character constant, where the text is one
abbrev pub character_as : Option ℤ → Ruled
character_as None = Breaks 11
character_as (Some z) = Fits (literal (integer_type Int) z)

abbrev pub character_rule : List ℕ → Ruled
character_rule text = character_as (character_constant text)

-- an array of one `char` more than a string has bytes, an lvalue
abbrev pub string_of : ℕ → Ruled
string_of n = if nat_le (n + 1) size_limit then Fits (place (array_type (integer_type Char) (Some (n + 1)))) else Breaks 5

abbrev pub text_as : Option (List ℕ) → Ruled
text_as None = Breaks 11
text_as (Some ns) = string_of (length ns)

-- string literals in a row
abbrev pub text_rule : List ℕ → List Span → Ruled
text_rule bytes parts = text_as (string_bytes (map (text_of bytes) parts))
