-- What is asked of a function where a path run is to show what an execution does: nodes are numbered children first,
-- and typing agrees with the tree, node by node: a name has the type of the register or object that it means, what is
-- read is a scalar or an array, what is stored to is a scalar, and members lie within their struct (C11 6.3.2.1, 6.5.1,
-- 6.5.2.3, 6.5.2.4, 6.5.16, 6.7.9p11, p16).
use Rattle.std.specs.Prelude.{ℕ, ◌+◌, ◌≤◌, ◌≡◌, ◌⊎◌, ◌&&◌, ◌||◌, Bool, true, false, List, ◌++◌, map, Option, Some, None, ℤ, get_or}
use Rattle.std.specs.Option.{is_some}
use Rattle.stk_base.specs.declared.span.Span.{Span}
use Rattle.stk_ctype.specs.declared.kind.IntKind.{IntKind}
use Rattle.stk_ctype.specs.Kinds.{bytes_of}
use Rattle.stk_ctype.specs.Types.{TypeTree}
use Rattle.stk_tree.specs.declared.expression.UnaryOp.{UnaryOp}
use Rattle.stk_tree.specs.declared.expression.UnaryOp.TheVariants as unary
use Rattle.stk_tree.specs.Syntax.{ExprTree, ExprFormTree, MaybeInitTree, FunctionTree}
use Rattle.stk_tree.specs.Syntax as s
use Rattle.stk_numbers.specs.declared.conditions.Kinds.{Kinds}
use Rattle.stk_type_rules.specs.Types.{is_scalar, is_struct}
use Rattle.stk_meaning.specs.Typings.{Typing, type_in, number_kind, is_array, declarator_node, object_size}
use Rattle.stk_meaning.specs.Libraries.{called_signature, result_in}
use Rattle.stk_meaning.specs.Places.{Setting, Target, in_register, in_kept, in_object, unnamed, object_named, target_at}
use Rattle.stk_meaning.specs.Visits.{Use, read, accessed, taken, Role, Visit, at_expression, at_declarator, at_statement, at_section}
use Rattle.stk_meaning.specs.Keys.{Object, parameters_of, objects_of, setting_of, function_visits}
use Rattle.stk_run_laws.specs.Visits.{IsIn, Ascends, nodes_of, EachVisit}

-- the node of a kept object by its position, and the kind of its numbers
abbrev pub kept_node : Setting → ℕ → ℕ
kept_node g q = get_or g.kept q 0

abbrev pub kept_kind : Setting → ℕ → IntKind
kept_kind g q = number_kind (g.typing.type_at (kept_node g q))

-- a place that is read is a scalar, or an array, whose address is its value
abbrev pub IsReadWhole : TypeTree → Use → Type 0
IsReadWhole t read = (is_scalar t || is_array t) ≡ true
IsReadWhole t accessed = Unit {0}
IsReadWhole t taken = Unit {0}

-- a memory object, which has a name where its type is a scalar or a struct
pub record IsNamedObject (ty : Typing) (objects : List Object) (o : ℕ) : Type 0 where
  pub object : Object
  pub among : IsIn object objects
  pub node : object.node ≡ o
  pub plain : (is_scalar (ty.type_at o) || is_struct (ty.type_at o)) ≡ true → object.is_plain ≡ true

abbrev pub MeansObject : Typing → List Object → ℕ → Target → Type 0
MeansObject ty objects o (in_register i) = Unit {0}
MeansObject ty objects o (in_kept q) = IsNamedObject ty objects o
MeansObject ty objects o (in_object p) = IsNamedObject ty objects o
MeansObject ty objects o unnamed = IsNamedObject ty objects o

-- a name has the type of what it means; but an array has no size yet in the initialiser that counts its elements (C11
-- 6.7.9p22)
abbrev pub HasTypeOf : TypeTree → TypeTree → Type 0
HasTypeOf t u = (t ≡ u) ⊎ ((is_array t && is_array u) ≡ true)

-- a name means a register or a memory object
pub record NameMeans (g : Setting) (objects : List Object) (k o : ℕ) : Type 0 where
  pub type : HasTypeOf (g.typing.type_at k) (g.typing.type_at o)
  pub means : MeansObject g.typing objects o (target_at g o)

-- the same of a name that is a place by itself or by its members, whose type is then no array
pub record NameAgrees (g : Setting) (objects : List Object) (k o : ℕ) : Type 0 where
  pub type : g.typing.type_at k ≡ g.typing.type_at o
  pub means : MeansObject g.typing objects o (target_at g o)

-- a place by name: parentheses have the type of what they hold, and a member lies within its struct
abbrev mutual
  pub PlaceAgrees : Setting → List Object → ExprTree → Type 0
  PlaceAgrees g objects (s.expression n f) = FormAgrees g objects n.number f

  pub FormAgrees : Setting → List Object → ℕ → ExprFormTree → Type 0
  FormAgrees g objects k (s.name at) = NameAgrees g objects k (object_named g k at)
  FormAgrees g objects k (s.number at) = Unit {0}
  FormAgrees g objects k (s.character at) = Unit {0}
  FormAgrees g objects k (s.text parts) = Unit {0}
  FormAgrees g objects k (s.paren e) = (g.typing.type_at k ≡ type_in g.typing e) × PlaceAgrees g objects e
  FormAgrees g objects k (s.index a b) = Unit {0}
  FormAgrees g objects k (s.call e es) = Unit {0}
  FormAgrees g objects k (s.dot e at) =
      (is_struct (type_in g.typing e) ≡ true)
      × (g.typing.offset_of (type_in g.typing e) at + object_size g.typing (g.typing.type_at k) ≤ object_size g.typing (type_in g.typing e))
      × PlaceAgrees g objects e
  FormAgrees g objects k (s.arrow e at) = Unit {0}
  FormAgrees g objects k (s.step op e) = Unit {0}
  FormAgrees g objects k (s.unary op e) = Unit {0}
  FormAgrees g objects k (s.size_expression e) = Unit {0}
  FormAgrees g objects k (s.size_name t) = Unit {0}
  FormAgrees g objects k (s.cast t e) = Unit {0}
  FormAgrees g objects k (s.binary op a b) = Unit {0}
  FormAgrees g objects k (s.choice a b c) = Unit {0}
  FormAgrees g objects k (s.assign op a b) = Unit {0}

-- an enumerator's name means its number
abbrev pub IsTypedName : Setting → List Object → ℕ → Role → ℕ → Option ℤ → Type 0
IsTypedName g objects k role o (Some z) = Unit {0}
IsTypedName g objects k role o None = NameMeans g objects k o × IsReadWhole (g.typing.type_at k) role.use_of

abbrev pub IsTypedUnary : Typing → ℕ → Role → UnaryOp → Type 0
IsTypedUnary ty k role unary.Address = Unit {0}
IsTypedUnary ty k role unary.Deref = IsReadWhole (ty.type_at k) role.use_of
IsTypedUnary ty k role unary.Plus = Unit {0}
IsTypedUnary ty k role unary.Minus = Unit {0}
IsTypedUnary ty k role unary.Flip = Unit {0}
IsTypedUnary ty k role unary.Not = Unit {0}

-- the forms: a string is an array, a call has its function's result, and what `++`, `--` and assignments store to is a
-- scalar
abbrev pub IsTypedForm : Setting → List Object → ℕ → Role → ExprFormTree → Type 0
IsTypedForm g objects k role (s.name at) = IsTypedName g objects k role (object_named g k at) (g.typing.number_at k)
IsTypedForm g objects k role (s.number at) = Unit {0}
IsTypedForm g objects k role (s.character at) = Unit {0}
IsTypedForm g objects k role (s.text parts) = is_array (g.typing.type_at k) ≡ true
IsTypedForm g objects k role (s.paren e) = Unit {0}
IsTypedForm g objects k role (s.index a b) = IsReadWhole (g.typing.type_at k) role.use_of
IsTypedForm g objects k role (s.call e es) = g.typing.type_at k ≡ result_in (called_signature g.typing e)
IsTypedForm g objects k role (s.dot e at) = IsReadWhole (g.typing.type_at k) role.use_of
IsTypedForm g objects k role (s.arrow e at) = IsReadWhole (g.typing.type_at k) role.use_of
IsTypedForm g objects k role (s.step op e) = (is_scalar (type_in g.typing e) ≡ true) × PlaceAgrees g objects e
IsTypedForm g objects k role (s.unary op e) = IsTypedUnary g.typing k role op
IsTypedForm g objects k role (s.size_expression e) = Unit {0}
IsTypedForm g objects k role (s.size_name t) = Unit {0}
IsTypedForm g objects k role (s.cast t e) = Unit {0}
IsTypedForm g objects k role (s.binary op a b) = Unit {0}
IsTypedForm g objects k role (s.choice a b c) = Unit {0}
IsTypedForm g objects k role (s.assign op a b) = (is_scalar (type_in g.typing a) ≡ true) × PlaceAgrees g objects a

-- braces initialise an array or a struct
abbrev pub IsBracedWell : TypeTree → MaybeInitTree → Type 0
IsBracedWell t s.no_initialiser = Unit {0}
IsBracedWell t (s.some_initialiser (s.plain e)) = Unit {0}
IsBracedWell t (s.some_initialiser (s.braces items comma)) = is_scalar t ≡ false

-- a local object has a name
abbrev pub IsTypedDeclarator : Typing → ℕ → Bool → Option Span → MaybeInitTree → Type 0
IsTypedDeclarator ty k true at init = Unit {0}
IsTypedDeclarator ty k false at init = (is_some at ≡ true) × IsBracedWell (ty.type_at k) init

abbrev pub IsTypedVisit : Setting → List Object → Visit → Type 0
IsTypedVisit g objects (at_expression k role f) = IsTypedForm g objects k role f
IsTypedVisit g objects (at_declarator k static at init) = IsTypedDeclarator g.typing k static at init
IsTypedVisit g objects (at_statement k arm f) = Unit {0}
IsTypedVisit g objects (at_section k ls) = Unit {0}

-- What is asked of a function, whichever kinds are taken out: nodes are numbered children first, so those of the
-- parameters and the evaluated ones of the body ascend; typing agrees with each evaluated node; and it knows the sizes
-- of scalars (C11 6.2.6.1; LP64).
pub record IsTypedTree (ty : Typing) (without : Kinds) (f : FunctionTree) : Type 0 where
  pub numbered : Ascends (map declarator_node (parameters_of f) ++ nodes_of (function_visits ty f))
  pub visits : EachVisit (IsTypedVisit (setting_of ty without f) (objects_of ty without f)) (function_visits ty f)
  pub sizes : (t : TypeTree) → is_scalar t ≡ true → ty.size_of t ≡ Some (bytes_of (number_kind t))
