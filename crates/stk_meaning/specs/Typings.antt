-- What the definitions of runs ask of typing, by the numbers of nodes (C11 6.2.5, 6.3.2.1, 6.5).
use Rattle.std.specs.Prelude.{ℕ, ◌==◌, Bool, true, false, ◌||◌, List, [], ◌∷◌, Option, Some, None, ℤ, unwrap_or, option_and_then}
use Rattle.std.specs.Option.{option_map_or}
use Rattle.stk_base.specs.declared.span.Span.{Span}
use Rattle.stk_base.specs.Text.{text_of}
use Rattle.stk_ctype.specs.declared.kind.IntKind.{IntKind}
use Rattle.stk_ctype.specs.declared.kind.IntKind.TheVariants as kind
use Rattle.stk_ctype.specs.declared.symbol.Symbol.{Symbol}
use Rattle.stk_ctype.specs.declared.symbol.Symbol.TheVariants as symbol
use Rattle.stk_ctype.specs.declared.symbol.NameEntry.{NameEntry}
use Rattle.stk_ctype.specs.Types.{TypeTree, void_type, integer_type, pointer_type, array_type, struct_type, function_type, SignatureTree, signature_of}
use Rattle.stk_ctype.specs.Structs.{member_of, structs_of}
use Rattle.stk_ctype.specs.Structs as structs
use Rattle.stk_ctype.specs.Names.{find}
use Rattle.stk_tree.specs.Syntax.{ExprTree, DeclrTree, StmtTree}
use Rattle.stk_tree.specs.Syntax as s
use Rattle.stk_numbers.specs.Kinds.{wrap}
use Rattle.stk_type_rules.specs.Facts.{Fact, fact_at}
use Rattle.stk_type_rules.specs.Types.{pointee}

-- The bytes of the input; of a node the type, the declarator of the parameter or local object that a name means, and
-- the number of a constant, an enumerator's name, a `sizeof` or the expression of a case label; whether the name of a
-- declarator is an operand of `&`; the size of a type, where it is a complete object type, the offset of a member of a
-- struct type, and the signature of the function that a name calls.
pub record Typing : Type 0 where
  pub bytes : List ℕ
  pub type_at : ℕ → TypeTree
  pub means : ℕ → Option ℕ
  pub number_at : ℕ → Option ℤ
  pub is_taken : ℕ → Bool
  pub size_of : TypeTree → Option ℕ
  pub offset_of : TypeTree → Span → ℕ
  pub signature_at : Span → Option SignatureTree

-- whether a number is one of these
abbrev pub is_among : ℕ → List ℕ → Bool
is_among k [] = false
is_among k (j ∷ js) = k == j || is_among k js

-- the signature of a function
abbrev pub signature_in : Symbol → Option SignatureTree
signature_in (symbol.TypeDef t) = None
signature_in (symbol.Object t) = None
signature_in (symbol.Function f) = Some (signature_of f)
signature_in (symbol.Enumerator v) = None

-- what typing a function under these entries of file scope answers, with these declarators whose names are operands of
-- `&`
abbrev pub typing_of : List ℕ → List NameEntry → List ℕ → List Fact → Typing
typing_of bytes entries taken facts = record {
  bytes = bytes;
  type_at = λ k. (fact_at facts k).ty;
  means = λ k. (fact_at facts k).means;
  number_at = λ k. (fact_at facts k).number;
  is_taken = λ k. is_among k taken;
  size_of = λ t. structs.size_of (structs_of entries) t;
  offset_of = λ t at. option_map_or (λ found. found.0) (member_of (structs_of entries) t (text_of bytes at)) 0;
  signature_at = λ at. option_and_then signature_in (find (text_of bytes at) entries);
}

-- the number of an expression's node
abbrev pub node_of : ExprTree → ℕ
node_of (s.expression n f) = n.number

-- the number of a statement's node
abbrev pub statement_node : StmtTree → ℕ
statement_node (s.statement n f) = n.number

-- the number of a declarator's node
abbrev pub declarator_node : DeclrTree → ℕ
declarator_node (s.declarator n count at tail init) = n.number

-- the type of an expression
abbrev pub type_in : Typing → ExprTree → TypeTree
type_in ty e = ty.type_at (node_of e)

-- the kind in which a value of a type is a number: an address is an `unsigned long`
abbrev pub number_kind : TypeTree → IntKind
number_kind void_type = kind.ULong
number_kind (integer_type k) = k
number_kind (pointer_type t) = kind.ULong
number_kind (array_type t count) = kind.ULong
number_kind (struct_type id) = kind.ULong
number_kind (function_type f) = kind.ULong

-- a number converted to a type (C11 6.3.1.2, 6.3.1.3, 6.3.2.3): any scalar converts to any scalar; what is `void` has
-- no number
abbrev pub converted : TypeTree → ℤ → ℤ
converted t x = wrap (number_kind t) x

-- whether a type is an array
abbrev pub is_array : TypeTree → Bool
is_array void_type = false
is_array (integer_type k) = false
is_array (pointer_type t) = false
is_array (array_type t count) = true
is_array (struct_type id) = false
is_array (function_type f) = false

-- how many elements an array has, where it is one and they are known
abbrev pub element_count : TypeTree → Option ℕ
element_count void_type = None
element_count (integer_type k) = None
element_count (pointer_type t) = None
element_count (array_type t count) = count
element_count (struct_type id) = None
element_count (function_type f) = None

-- the type that a pointer points to, or that an array's elements have
abbrev pub pointed : TypeTree → TypeTree
pointed t = unwrap_or (pointee t) void_type

-- the bytes of an object of a type: one of unknown size counts as 1
abbrev pub object_size : Typing → TypeTree → ℕ
object_size ty t = unwrap_or (ty.size_of t) 1

-- by how many bytes a number moves a pointer of this type (C11 6.5.6p8); one to `void` by 1
abbrev pub stride_in : Typing → TypeTree → ℕ
stride_in ty t = object_size ty (pointed t)
