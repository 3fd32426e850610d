-- The functions of the library whose calls have values and conditions of their own: `abs`, `labs`, `llabs` (C11
-- 7.22.6.1) and `memcpy` (C11 7.24.2.1).
use Rattle.std.specs.Prelude.{ℕ, ◌==◌, Bool, false, ◌&&◌, not, if◌then◌else◌, List, [], ◌∷◌, Option, Some, None, option_and_then}
use Rattle.stk_base.specs.declared.span.Span.{Span}
use Rattle.stk_base.specs.Text.{text_of, same_text}
use Rattle.stk_ctype.specs.declared.kind.IntKind.{IntKind}
use Rattle.stk_ctype.specs.declared.kind.IntKind.TheVariants as kind
use Rattle.stk_ctype.specs.Types.{TypeTree, void_type, integer_type, pointer_type, array_type, struct_type, function_type, TypeTrees, no_types, then_type, SignatureTree, signature}
use Rattle.stk_tree.specs.Syntax.{ExprTree}
use Rattle.stk_tree.specs.Syntax as s
use Rattle.stk_tree.specs.Parts.{name_in}
use Rattle.stk_numbers.specs.Kinds.{rank, is_signed}
use Rattle.stk_type_rules.specs.Types.{is_void}
use Rattle.stk_meaning.specs.Typings.{Typing}

-- the absolute value in a kind; a copy of bytes
pub data Library : Type 0 where
  absolute_in : IntKind → Library
  copy_bytes : Library

-- whether a type is the integer type of a kind, which its rank and its sign tell of `int` and the kinds above it
abbrev pub is_of_kind : IntKind → TypeTree → Bool
is_of_kind k void_type = false
is_of_kind k (integer_type j) = rank k == rank j && (if is_signed k then is_signed j else not (is_signed j))
is_of_kind k (pointer_type t) = false
is_of_kind k (array_type t count) = false
is_of_kind k (struct_type id) = false
is_of_kind k (function_type f) = false

-- whether a type is `void *`
abbrev pub is_void_pointer : TypeTree → Bool
is_void_pointer void_type = false
is_void_pointer (integer_type k) = false
is_void_pointer (pointer_type t) = is_void t
is_void_pointer (array_type t count) = false
is_void_pointer (struct_type id) = false
is_void_pointer (function_type f) = false

-- whether parameters are one integer of a kind
abbrev pub takes_number : IntKind → TypeTrees → Bool
takes_number k no_types = false
takes_number k (then_type t no_types) = is_of_kind k t
takes_number k (then_type t (then_type u ts)) = false

-- whether parameters are those of `memcpy`
abbrev pub takes_copy : TypeTrees → Bool
takes_copy no_types = false
takes_copy (then_type t no_types) = false
takes_copy (then_type t (then_type u no_types)) = false
takes_copy (then_type t (then_type u (then_type v no_types))) = is_void_pointer t && (is_void_pointer u && is_of_kind kind.ULong v)
takes_copy (then_type t (then_type u (then_type v (then_type x ts)))) = false

-- whether a function goes from a number of a kind to one, without further arguments
abbrev pub is_absolute : IntKind → SignatureTree → Bool
is_absolute k (signature result params more no_return) = not more && (takes_number k params && is_of_kind k result)

-- whether a function has the type of `memcpy`, without further arguments
abbrev pub is_copy : SignatureTree → Bool
is_copy (signature result params more no_return) = not more && (takes_copy params && is_void_pointer result)

-- what a function of this name and type is in the library
abbrev pub library_named : List ℕ → SignatureTree → Option Library
library_named name f =
    if same_text name (97 ∷ 98 ∷ 115 ∷ []) && is_absolute kind.Int f then Some (absolute_in kind.Int)
    else (if same_text name (108 ∷ 97 ∷ 98 ∷ 115 ∷ []) && is_absolute kind.Long f then Some (absolute_in kind.Long)
    else (if same_text name (108 ∷ 108 ∷ 97 ∷ 98 ∷ 115 ∷ []) && is_absolute kind.LLong f then Some (absolute_in kind.LLong)
    else (if same_text name (109 ∷ 101 ∷ 109 ∷ 99 ∷ 112 ∷ 121 ∷ []) && is_copy f then Some copy_bytes
    else None)))

-- the name that a call calls: a function is called by its name (C11 6.5.2.2)
abbrev pub called_name : ExprTree → Option Span
called_name (s.expression n f) = name_in f

-- the signature of what a call calls
abbrev pub called_signature : Typing → ExprTree → Option SignatureTree
called_signature ty e = option_and_then (λ at. ty.signature_at at) (called_name e)

-- what a call calls in the library
abbrev pub library_at : Typing → Option Span → Option SignatureTree → Option Library
library_at ty (Some at) (Some f) = library_named (text_of ty.bytes at) f
library_at ty (Some at) None = None
library_at ty None f = None

abbrev pub called_library : Typing → ExprTree → Option Library
called_library ty e = library_at ty (called_name e) (called_signature ty e)

-- the result, the parameters and the mark of not returning of what a call calls
abbrev pub result_in : Option SignatureTree → TypeTree
result_in None = void_type
result_in (Some (signature result params more no_return)) = result

abbrev pub parameters_in : Option SignatureTree → TypeTrees
parameters_in None = no_types
parameters_in (Some (signature result params more no_return)) = params

abbrev pub never_returns : Option SignatureTree → Bool
never_returns None = false
never_returns (Some (signature result params more no_return)) = no_return
