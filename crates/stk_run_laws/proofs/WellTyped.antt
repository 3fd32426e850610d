-- What the laws over parts of a function ask of typing: it follows from what is asked of the function.
use Rattle.std.specs.Prelude.{ℕ, ◌+◌, ◌≤◌, ◌≡◌, Bool, true, false, List, map, Option, Some, None, ℤ}
use Rattle.stk_ctype.specs.Kinds.{bytes_of}
use Rattle.stk_ctype.specs.Types.{TypeTree}
use Rattle.stk_tree.specs.declared.expression.UnaryOp.{UnaryOp}
use Rattle.stk_tree.specs.declared.expression.UnaryOp.TheVariants as unary
use Rattle.stk_tree.specs.Syntax.{ExprTree, ExprFormTree, MaybeInitTree, FunctionTree}
use Rattle.stk_tree.specs.Syntax as s
use Rattle.stk_tree.specs.Parts.{bare}
use Rattle.stk_type_rules.specs.Types.{is_scalar}
use Rattle.stk_meaning.specs.Typings.{Typing, type_in, number_kind, is_array, is_among}
use Rattle.stk_meaning.specs.Libraries.{called_signature, result_in}
use Rattle.stk_meaning.specs.Places.{Setting, Target, in_register, in_kept, in_object, unnamed, object_named, target_at, target_of}
use Rattle.stk_meaning.specs.Visits.{Role, Visit, at_expression, at_declarator, at_statement, at_section}
use Rattle.stk_meaning.specs.Keys.{Object}
use Rattle.stk_run_laws.specs.Visits.{IsIn}
use Rattle.stk_run_laws.specs.TypedTree.{kept_kind, IsReadWhole, IsBracedWell}

-- where a place by name begins in its object: behind the offsets of the members that it names
abbrev mutual
  pub offset_in : Typing → ExprTree → ℕ
  offset_in ty (s.expression n f) = form_offset ty f

  pub form_offset : Typing → ExprFormTree → ℕ
  form_offset ty (s.name at) = 0
  form_offset ty (s.number at) = 0
  form_offset ty (s.character at) = 0
  form_offset ty (s.text parts) = 0
  form_offset ty (s.paren e) = offset_in ty e
  form_offset ty (s.index a b) = 0
  form_offset ty (s.call e es) = 0
  form_offset ty (s.dot e at) = offset_in ty e + ty.offset_of (type_in ty e) at
  form_offset ty (s.arrow e at) = 0
  form_offset ty (s.step op e) = 0
  form_offset ty (s.unary op e) = 0
  form_offset ty (s.size_expression e) = 0
  form_offset ty (s.size_name t) = 0
  form_offset ty (s.cast t e) = 0
  form_offset ty (s.binary op a b) = 0
  form_offset ty (s.choice a b c) = 0
  form_offset ty (s.assign op a b) = 0

-- bytes at an offset lie in a memory object that has a name and a scalar or struct type
pub record IsPart (objects : List Object) (o offset size : ℕ) : Type 0 where
  pub object : Object
  pub among : IsIn object objects
  pub node : object.node ≡ o
  pub plain : object.is_plain ≡ true
  pub within : offset + size ≤ object.size

-- a number of a type may be stored to a place: a register or a kept object of its kind, or a part of another object
abbrev pub Suits : Setting → List Object → Target → ℕ → TypeTree → Type 0
Suits g objects (in_register i) offset t = number_kind t ≡ number_kind (g.typing.type_at i)
Suits g objects (in_kept q) offset t = number_kind t ≡ kept_kind g q
Suits g objects (in_object o) offset t = IsPart objects o offset (bytes_of (number_kind t))
Suits g objects unnamed offset t = Unit {0}

-- an operand that is stored to
pub record IsStored (g : Setting) (objects : List Object) (e : ExprTree) : Type 0 where
  pub scalar : is_scalar (type_in g.typing (bare e)) ≡ true
  pub same : type_in g.typing e ≡ type_in g.typing (bare e)
  pub suits : Suits g objects (target_of g e) (offset_in g.typing e) (type_in g.typing e)

-- the number of a memory object's node
abbrev pub IsObject : List Object → ℕ → Type 0
IsObject objects k = is_among k (map (λ (o : Object). o.node) objects) ≡ true

-- a name means a register, or a memory object: a kept one of its kind, or another
abbrev pub MeansWell : Setting → List Object → ℕ → ℕ → Target → Type 0
MeansWell g objects k object (in_register i) = Unit {0}
MeansWell g objects k object (in_kept q) = IsObject objects object × (number_kind (g.typing.type_at k) ≡ kept_kind g q)
MeansWell g objects k object (in_object o) = IsObject objects object
MeansWell g objects k object unnamed = IsObject objects object

-- an enumerator's name means its number
abbrev pub IsWellName : Setting → List Object → ℕ → Role → ℕ → Option ℤ → Type 0
IsWellName g objects k role object (Some z) = Unit {0}
IsWellName g objects k role object None = MeansWell g objects k object (target_at g object) × IsReadWhole (g.typing.type_at k) role.use_of

abbrev pub IsWellUnary : Setting → ℕ → Role → UnaryOp → Type 0
IsWellUnary g k role unary.Address = Unit {0}
IsWellUnary g k role unary.Deref = IsReadWhole (g.typing.type_at k) role.use_of
IsWellUnary g k role unary.Plus = Unit {0}
IsWellUnary g k role unary.Minus = Unit {0}
IsWellUnary g k role unary.Flip = Unit {0}
IsWellUnary g k role unary.Not = Unit {0}

abbrev pub IsWellForm : Setting → List Object → ℕ → Role → ExprFormTree → Type 0
IsWellForm g objects k role (s.name at) = IsWellName g objects k role (object_named g k at) (g.typing.number_at k)
IsWellForm g objects k role (s.number at) = Unit {0}
IsWellForm g objects k role (s.character at) = Unit {0}
IsWellForm g objects k role (s.text parts) = (is_array (g.typing.type_at k) ≡ true) × IsObject objects k
IsWellForm g objects k role (s.paren e) = Unit {0}
IsWellForm g objects k role (s.index a b) = IsReadWhole (g.typing.type_at k) role.use_of
IsWellForm g objects k role (s.call e es) = g.typing.type_at k ≡ result_in (called_signature g.typing e)
IsWellForm g objects k role (s.dot e at) = IsReadWhole (g.typing.type_at k) role.use_of
IsWellForm g objects k role (s.arrow e at) = IsReadWhole (g.typing.type_at k) role.use_of
IsWellForm g objects k role (s.step op e) = IsStored g objects e
IsWellForm g objects k role (s.unary op e) = IsWellUnary g k role op
IsWellForm g objects k role (s.size_expression e) = Unit {0}
IsWellForm g objects k role (s.size_name t) = Unit {0}
IsWellForm g objects k role (s.cast t e) = Unit {0}
IsWellForm g objects k role (s.binary op a b) = Unit {0}
IsWellForm g objects k role (s.choice a b c) = Unit {0}
IsWellForm g objects k role (s.assign op a b) = IsStored g objects a

-- a scalar object that is declared suits its own type
abbrev pub IsWellDeclarator : Setting → List Object → Bool → ℕ → MaybeInitTree → Type 0
IsWellDeclarator g objects true k init = Unit {0}
IsWellDeclarator g objects false k init = (is_scalar (g.typing.type_at k) ≡ true → Suits g objects (target_at g k) 0 (g.typing.type_at k)) × IsBracedWell (g.typing.type_at k) init

abbrev pub IsWellVisit : Setting → List Object → Visit → Type 0
IsWellVisit g objects (at_expression k role f) = IsWellForm g objects k role f
IsWellVisit g objects (at_declarator k static at init) = IsWellDeclarator g objects static k init
IsWellVisit g objects (at_statement k arm f) = Unit {0}
IsWellVisit g objects (at_section k ls) = Unit {0}
