-- Which initialisers fit an object of a type (C11 6.7.9p11, p13, p14, p16): an expression a scalar; a string literal an
-- array of characters; braces an array or a struct. The items of braces aren't matched with members in this profile.
use Rattle.std.specs.Prelude.{ℕ, Bool, true, false, ◌&&◌, if◌then◌else◌, Option, Some, None}
use Rattle.stk_ctype.specs.declared.kind.IntKind.{IntKind}
use Rattle.stk_ctype.specs.declared.kind.IntKind.TheVariants as kind
use Rattle.stk_ctype.specs.Types.{TypeTree, void_type, integer_type, pointer_type, array_type, struct_type, function_type}
use Rattle.stk_tree.specs.Syntax.{ExprTree, ExprFormTree, InitTree}
use Rattle.stk_tree.specs.Syntax as s
use Rattle.stk_typing.specs.declared.initialiser_leaves.Leaves.{Leaves}

-- `char`, `signed char` or `unsigned char` (C11 6.2.5p15)
abbrev pub is_character : IntKind → Bool
is_character kind.Bool = false
is_character kind.Char = true
is_character kind.SChar = true
is_character kind.UChar = true
is_character kind.Short = false
is_character kind.UShort = false
is_character kind.Int = false
is_character kind.UInt = false
is_character kind.Long = false
is_character kind.ULong = false
is_character kind.LLong = false
is_character kind.ULLong = false

-- a character type
abbrev pub holds_characters : TypeTree → Bool
holds_characters void_type = false
holds_characters (integer_type k) = is_character k
holds_characters (pointer_type t) = false
holds_characters (array_type t count) = false
holds_characters (struct_type id) = false
holds_characters (function_type f) = false

-- string literals, without parentheses
abbrev pub is_text_form : ExprFormTree → Bool
is_text_form (s.text parts) = true
is_text_form other = false

abbrev pub is_text : ExprTree → Bool
is_text (s.expression n f) = is_text_form f

-- an expression fits this type
abbrev pub takes_expression : TypeTree → Bool → Bool
takes_expression void_type text = true
takes_expression (integer_type k) text = true
takes_expression (pointer_type t) text = true
takes_expression (array_type t count) text = text && holds_characters t
takes_expression (struct_type id) text = false
takes_expression (function_type f) text = true

-- braces fit this type
abbrev pub takes_braces : TypeTree → Bool
takes_braces void_type = true
takes_braces (integer_type k) = false
takes_braces (pointer_type t) = false
takes_braces (array_type t count) = true
takes_braces (struct_type id) = true
takes_braces (function_type f) = true

-- an initialiser fits a type, so far as its form tells
abbrev pub fits : TypeTree → InitTree → Bool
fits t (s.plain e) = takes_expression t (is_text e)
fits t (s.braces is comma) = takes_braces t

-- the rule that an initialiser of a type breaks, the lowest first: each of its expressions is a scalar (rule 6), or a
-- struct, which can't be used as a value (9); it fits (16)
abbrev pub initial_refused : TypeTree → InitTree → Leaves → Option ℕ
initial_refused t i leaves = if leaves.has_other then Some 6 else (if leaves.has_struct then Some 9 else (if fits t i then None else Some 16))
