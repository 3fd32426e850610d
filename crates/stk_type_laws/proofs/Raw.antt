-- What typing gives of each evaluated node of a function, before it is known which objects there are: a name means a
-- declarator that is visited, a parameter or an object of file scope, and the rest is as it is asked of a typed tree.
use Rattle.std.proofs.Common.{◌≡◌, ℕ, ◌+◌, ◌≤◌, ◌⊎◌, Bool, true, false, ◌||◌, List, Option, Some, None, refl, sym, subst, inl, inr}
use Rattle.std.specs.Prelude.{ℤ}
use Rattle.stk_base.specs.declared.span.Span.{Span}
use Rattle.stk_base.specs.Text.{text_of}
use Rattle.stk_ctype.specs.declared.ctype.CType.{CType}
use Rattle.stk_ctype.specs.declared.symbol.Symbol.TheVariants as symbol
use Rattle.stk_ctype.specs.declared.symbol.NameEntry.{NameEntry}
use Rattle.stk_ctype.specs.Types.{TypeTree, void_type, integer_type, pointer_type, array_type, struct_type, function_type, type_of}
use Rattle.stk_ctype.specs.Names.{find}
use Rattle.stk_tree.specs.declared.node.Node.{Node}
use Rattle.stk_tree.specs.Syntax.{ExprTree, ExprFormTree, TailTree, MaybeInitTree, DeclrTree}
use Rattle.stk_tree.specs.Syntax as s
use Rattle.stk_type_rules.specs.Types.{is_scalar, is_struct}
use Rattle.stk_meaning.specs.Typings.{Typing, type_in, is_array, object_size}
use Rattle.stk_meaning.specs.Libraries.{called_signature, result_in}
use Rattle.stk_meaning.specs.Visits.{Use, read, accessed, taken, Role, Visit, at_expression, at_declarator, at_statement, at_section, Visits, no_visit, one_visit, both_visits, scope, unevaluated}
use Rattle.stk_run_laws.specs.Visits.{IsIn, EachVisit}
use Rattle.stk_run_laws.specs.TypedTree.{HasTypeOf, IsReadWhole, IsTypedUnary, IsTypedDeclarator}
use Rattle.stk_type_laws.specs.Orderly.{is_object_type}

-- ---- what is evaluated

-- a visit among what is visited and evaluated
abbrev pub Occurs : Visit → Visits → Type 0
Occurs x no_visit = ⊥
Occurs x (one_visit y) = x ≡ y
Occurs x (both_visits a b) = Occurs x a ⊎ Occurs x b
Occurs x (scope ks a) = Occurs x a
Occurs x (unevaluated a) = ⊥

-- what is evaluated in a part is evaluated in the whole
pub record Part (a b : Visits) : Type 0 where
  pub by : (x : Visit) → Occurs x a → Occurs x b

pub part_left : {w : Visits} (a b : Visits) → Part (both_visits a b) w → Part a w
part_left a b p = record { by = λ x o. p.by x (inl o) }

pub part_right : {w : Visits} (a b : Visits) → Part (both_visits a b) w → Part b w
part_right a b p = record { by = λ x o. p.by x (inr o) }

pub part_scope : {w : Visits} (ks : List ℕ) (a : Visits) → Part (scope ks a) w → Part a w
part_scope ks a p = record { by = λ x o. p.by x o }

pub part_all : (a : Visits) → Part a a
part_all a = record { by = λ x o. o }

pub each_at : (P : Visit → Type 0) (x : Visit) (v : Visits) → EachVisit P v → Occurs x v → P x
each_at P x no_visit h o = absurd o
each_at P x (one_visit y) h o = subst P (sym o) h
each_at P x (both_visits a b) h (inl o) = each_at P x a h.0 o
each_at P x (both_visits a b) h (inr o) = each_at P x b h.1 o
each_at P x (scope ks a) h o = each_at P x a h o
each_at P x (unevaluated a) h o = absurd o

pub each_mapped : (P Q : Visit → Type 0) (v : Visits) → ((x : Visit) → P x → Q x) → EachVisit P v → EachVisit Q v
each_mapped P Q no_visit g h = tt
each_mapped P Q (one_visit y) g h = g y h
each_mapped P Q (both_visits a b) g h = (each_mapped P Q a g h.0, each_mapped P Q b g h.1)
each_mapped P Q (scope ks a) g h = each_mapped P Q a g h
each_mapped P Q (unevaluated a) g h = tt

-- ---- what names mean

-- typing, the names of file scope, the parameters and all that is visited
pub record Ground : Type 0 where
  pub ty : Typing
  pub entries : List NameEntry
  pub params : List DeclrTree
  pub whole : Visits

-- a local's declarator that is visited, or a parameter's: either has a name
pub data Origin (c : Ground) (k : ℕ) : Type 0 where
  local_origin : (static : Bool) (at : Span) (init : MaybeInitTree) → Occurs (at_declarator k static (Some at) init) c.whole → Origin c k
  parameter_origin : (n : Node) (count : ℕ) (at : Span) (tail : TailTree) (init : MaybeInitTree) → n.number ≡ k → IsIn (s.declarator n count (Some at) tail init) c.params → Origin c k

-- an evaluated name means a parameter or a local, or an object of file scope
pub data Means (c : Ground) (k : ℕ) (at : Span) : Type 0 where
  means_local : (o : ℕ) → c.ty.means k ≡ Some o → HasTypeOf (c.ty.type_at k) (c.ty.type_at o) → Origin c o → Means c k at
  means_outside : (t : CType) (role : Role) → c.ty.means k ≡ None → c.ty.number_at k ≡ None → c.ty.type_at k ≡ type_of t → find (text_of c.ty.bytes at) c.entries ≡ Some (symbol.Object t)
      → Occurs (at_expression k role (s.name at)) c.whole → Means c k at

-- ---- visits

-- a place by name that is a scalar or a struct
abbrev mutual
  pub RawPlace : Ground → ExprTree → Type 0
  RawPlace c (s.expression n f) = RawPlaceForm c n.number f

  pub RawPlaceForm : Ground → ℕ → ExprFormTree → Type 0
  RawPlaceForm c k (s.name at) = ((is_scalar (c.ty.type_at k) || is_struct (c.ty.type_at k)) ≡ true) × Means c k at
  RawPlaceForm c k (s.number at) = Unit {0}
  RawPlaceForm c k (s.character at) = Unit {0}
  RawPlaceForm c k (s.text parts) = Unit {0}
  RawPlaceForm c k (s.paren e) = (c.ty.type_at k ≡ type_in c.ty e) × RawPlace c e
  RawPlaceForm c k (s.index a b) = Unit {0}
  RawPlaceForm c k (s.call e es) = Unit {0}
  RawPlaceForm c k (s.dot e at) =
      (is_struct (type_in c.ty e) ≡ true)
      × (c.ty.offset_of (type_in c.ty e) at + object_size c.ty (c.ty.type_at k) ≤ object_size c.ty (type_in c.ty e))
      × RawPlace c e
  RawPlaceForm c k (s.arrow e at) = Unit {0}
  RawPlaceForm c k (s.step op e) = Unit {0}
  RawPlaceForm c k (s.unary op e) = Unit {0}
  RawPlaceForm c k (s.size_expression e) = Unit {0}
  RawPlaceForm c k (s.size_name t) = Unit {0}
  RawPlaceForm c k (s.cast t e) = Unit {0}
  RawPlaceForm c k (s.binary op a b) = Unit {0}
  RawPlaceForm c k (s.choice x y z) = Unit {0}
  RawPlaceForm c k (s.assign op a b) = Unit {0}

abbrev pub RawName : Ground → ℕ → Role → Span → Option ℤ → Type 0
RawName c k role at (Some z) = Unit {0}
RawName c k role at None = Means c k at × IsReadWhole (c.ty.type_at k) role.use_of

abbrev pub RawForm : Ground → ℕ → Role → ExprFormTree → Type 0
RawForm c k role (s.name at) = RawName c k role at (c.ty.number_at k)
RawForm c k role (s.number at) = Unit {0}
RawForm c k role (s.character at) = Unit {0}
RawForm c k role (s.text parts) = is_array (c.ty.type_at k) ≡ true
RawForm c k role (s.paren e) = Unit {0}
RawForm c k role (s.index a b) = IsReadWhole (c.ty.type_at k) role.use_of
RawForm c k role (s.call e es) = c.ty.type_at k ≡ result_in (called_signature c.ty e)
RawForm c k role (s.dot e at) = IsReadWhole (c.ty.type_at k) role.use_of
RawForm c k role (s.arrow e at) = IsReadWhole (c.ty.type_at k) role.use_of
RawForm c k role (s.step op e) = (is_scalar (type_in c.ty e) ≡ true) × RawPlace c e
RawForm c k role (s.unary op e) = IsTypedUnary c.ty k role op
RawForm c k role (s.size_expression e) = Unit {0}
RawForm c k role (s.size_name t) = Unit {0}
RawForm c k role (s.cast t e) = Unit {0}
RawForm c k role (s.binary op a b) = Unit {0}
RawForm c k role (s.choice x y z) = Unit {0}
RawForm c k role (s.assign op a b) = (is_scalar (type_in c.ty a) ≡ true) × RawPlace c a

abbrev pub RawVisit : Ground → Visit → Type 0
RawVisit c (at_expression k role f) = RawForm c k role f
RawVisit c (at_declarator k static at init) = IsTypedDeclarator c.ty k static at init
RawVisit c (at_statement k arm f) = Unit {0}
RawVisit c (at_section k ls) = Unit {0}

-- ---- uses

-- what is read is no struct (C11 6.3.2.1p2; a struct isn't used as a value)
abbrev pub Suits : Use → TypeTree → Type 0
Suits read t = is_struct t ≡ false
Suits accessed t = Unit {0}
Suits taken t = Unit {0}

whole_of : (t : TypeTree) → is_object_type t ≡ true → is_struct t ≡ false → (is_scalar t || is_array t) ≡ true
whole_of void_type o n = absurd cc
whole_of (integer_type k) o n = refl
whole_of (pointer_type t) o n = refl
whole_of (array_type t count) o n = refl
whole_of (struct_type id) o n = absurd cc
whole_of (function_type f) o n = absurd cc

pub read_whole : (u : Use) (t : TypeTree) → is_object_type t ≡ true → Suits u t → IsReadWhole t u
read_whole read t o n = whole_of t o n
read_whole accessed t o n = tt
read_whole taken t o n = tt

pub suits_any : (u : Use) (t : TypeTree) → is_struct t ≡ false → Suits u t
suits_any read t n = n
suits_any accessed t n = tt
suits_any taken t n = tt
