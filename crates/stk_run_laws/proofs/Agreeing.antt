-- What parts of a function ask of typing, from what is asked of its nodes.
use Rattle.std.proofs.Common.{◌≡◌, ℕ, ◌+◌, ◌≤◌, Bool, true, false, ◌&&◌, ◌||◌, List, [], ◌∷◌, ℤ, Option, Some, None, refl, sym, ap, ◌∙◌, subst, inl, inr, arith}
use Rattle.std.specs.Prelude.{if◌then◌else◌, map, unwrap_or}
use Rattle.std.specs.Option.{is_some}
use Rattle.stk_base.specs.declared.span.Span.{Span}
use Rattle.stk_ctype.specs.declared.kind.IntKind.TheVariants as kind
use Rattle.stk_ctype.specs.Kinds.{bytes_of}
use Rattle.stk_ctype.specs.Types.{TypeTree, void_type, integer_type, pointer_type, array_type, struct_type, function_type}
use Rattle.stk_tree.specs.declared.expression.UnaryOp.{UnaryOp}
use Rattle.stk_tree.specs.declared.expression.UnaryOp.TheVariants as unary
use Rattle.stk_tree.specs.Syntax.{ExprTree, ExprFormTree, MaybeInitTree, FunctionTree}
use Rattle.stk_tree.specs.Syntax as s
use Rattle.stk_tree.specs.Parts.{bare}
use Rattle.stk_numbers.specs.declared.conditions.Kinds.{Kinds}
use Rattle.stk_type_rules.specs.Types.{is_scalar, is_struct}
use Rattle.stk_meaning.specs.Typings.{Typing, type_in, number_kind, is_among, declarator_node, object_size, is_array}
use Rattle.stk_meaning.specs.Places.{Setting, Target, in_register, in_kept, in_object, unnamed, object_named, position_behind, object_target, target_at, member_target, target_of, form_target}
use Rattle.stk_meaning.specs.Visits.{Role, Visit, at_expression, at_declarator, at_statement, at_section, Visits, no_visit, one_visit, both_visits, scope, unevaluated, collected, head_visits, statement_visits}
use Rattle.stk_meaning.specs.Keys.{address_key, KeyInfo, address_info, declarator_keys, visit_keys, Object, object_of, key_objects, objects_in, keys_of, objects_of, setting_of, parameters_of, head_of, body_of, function_visits}
use Rattle.stk_meaning.specs.Executions.{ExecutionStart}
use Rattle.stk_meaning.specs.Maps.{IsValidStart}
use Rattle.stk_run_laws.specs.Visits.{IsIn, nodes_of, EachVisit}
use Rattle.stk_run_laws.proofs.Nodes.{in_left, in_right, ascends_right, distinct_of}
use Rattle.stk_run_laws.specs.TypedOperands.{IsNoArray, HasScalarOperand, VisitHasScalarOperand}
use Rattle.stk_run_laws.specs.Shown.{OneConditionServesAll}
use Rattle.stk_run_laws.specs.TypedTree.{kept_node, HasTypeOf, IsNamedObject, MeansObject, PlaceAgrees, FormAgrees, IsTypedName, IsTypedUnary, IsTypedForm, IsTypedDeclarator, IsTypedVisit, IsTypedTree}
use Rattle.stk_run_laws.proofs.WellTyped.{offset_in, form_offset, Suits, IsStored, IsObject, MeansWell, IsWellName, IsWellUnary, IsWellForm, IsWellDeclarator, IsWellVisit}
use Rattle.stk_run_laws.proofs.Maps.{Good}
use Rattle.stk_run_laws.proofs.KeyLists.{in_map}
use Rattle.stk_run_laws.proofs.Objects.{among_of}
use Rattle.stk_run_laws.proofs.Places.{position_is}
use Rattle.stk_run_laws.proofs.Grounds.{ground_of, body_listed, object_bytes, is_ground}

-- a memory object of the keys
key_in_objects : (ty : Typing) (xs : List KeyInfo) (x : KeyInfo) (k : ℕ) → IsIn x xs → x.key ≡ address_key k → IsIn (object_of ty x.name k x.size) (objects_in ty xs)
key_in_objects ty [] x k h e = absurd h
key_in_objects ty (y ∷ xs) x k (inl same) e =
    in_left (object_of ty x.name k x.size) (key_objects ty y.name y.size y.key) (objects_in ty xs)
    (subst (λ z. IsIn (object_of ty x.name k x.size) (key_objects ty z.name z.size z.key)) same
    (subst (λ key. IsIn (object_of ty x.name k x.size) (key_objects ty x.name x.size key)) (sym e) (inl refl)))
key_in_objects ty (y ∷ xs) x k (inr h) e = in_right (object_of ty x.name k x.size) (key_objects ty y.name y.size y.key) (objects_in ty xs) (key_in_objects ty xs x k h e)

-- what a declarator or a first mention stands for has its node
abbrev HasNode : Setting → ℕ → Target → Type 0
HasNode g k (in_register i) = i ≡ k
HasNode g k (in_kept q) = kept_node g q ≡ k
HasNode g k (in_object o) = o ≡ k
HasNode g k unnamed = Unit {0}

object_node : (g : Setting) (k : ℕ) (p : Option ℕ) → position_behind 0 k g.kept ≡ p → HasNode g k (object_target k p)
object_node g k None e = refl
object_node g k (Some q) e =
    let a = position_is 0 k g.kept q e in
    let same : a.place ≡ q = let from : q ≡ 0 + a.place = a.from in omega arith in
    ap (λ z. kept_node g z) (sym same) ∙ a.is

target_node : (g : Setting) (k : ℕ) → HasNode g k (target_at g k)
target_node g k = by (is_among k g.registers)
  where
    by : (b : Bool) → HasNode g k (if b then in_register k else object_target k (position_behind 0 k g.kept))
    by true = refl
    by false = object_node g k (position_behind 0 k g.kept) refl

scalar_first : (a b : Bool) → a ≡ true → a || b ≡ true
scalar_first true b h = refl
scalar_first false b h = absurd cc

struct_second : (a b : Bool) → b ≡ true → a || b ≡ true
struct_second true b h = refl
struct_second false b h = h

-- the kind of the address of an array, whatever its size
array_kind : (t : TypeTree) → is_array t ≡ true → number_kind t ≡ kind.ULong
array_kind void_type p = refl
array_kind (integer_type k) p = absurd cc
array_kind (pointer_type t) p = refl
array_kind (array_type t count) p = refl
array_kind (struct_type id) p = refl
array_kind (function_type x) p = refl

both_hold : (a b : Bool) → a && b ≡ true → (a ≡ true) × (b ≡ true)
both_hold true true p = (refl, refl)
both_hold true false p = absurd cc
both_hold false b p = absurd cc

same_kind : (t u : TypeTree) → HasTypeOf t u → number_kind t ≡ number_kind u
same_kind t u (inl e) = ap number_kind e
same_kind t u (inr arrays) = let b = both_hold (is_array t) (is_array u) arrays in array_kind t b.0 ∙ sym (array_kind u b.1)

module _ (ty : Typing) (without : Kinds) (f : FunctionTree) (h : IsTypedTree ty without f) where
  abbrev g : Setting
  g = setting_of ty without f

  abbrev objects : List Object
  objects = objects_of ty without f

  -- ---- places by name

  -- bytes of a type at an offset of a memory object
  record LiesIn (o offset : ℕ) (t : TypeTree) : Type 0 where
    object : Object
    among : IsIn object (objects_of ty without f)
    node : object.node ≡ o
    plain : (is_scalar t || is_struct t) ≡ true → object.is_plain ≡ true
    within : offset + object_size ty t ≤ object.size

  abbrev PlaceFits : Target → ℕ → TypeTree → Type 0
  PlaceFits (in_register i) offset t = t ≡ ty.type_at i
  PlaceFits (in_kept q) offset t = t ≡ ty.type_at (kept_node (setting_of ty without f) q)
  PlaceFits (in_object o) offset t = LiesIn o offset t
  PlaceFits unnamed offset t = Unit {0}

  name_fits : (k o : ℕ) (t : Target) → HasNode (setting_of ty without f) o t → ty.type_at k ≡ ty.type_at o → MeansObject ty (objects_of ty without f) o t → PlaceFits t 0 (ty.type_at k)
  name_fits k o (in_register i) n e m = e ∙ ap ty.type_at (sym n)
  name_fits k o (in_kept q) n e m = e ∙ ap ty.type_at (sym n)
  name_fits k o (in_object p) n e m = record {
    object = m.object;
    among = m.among;
    node = m.node ∙ sym n;
    plain = λ i. m.plain (subst (λ t. (is_scalar t || is_struct t) ≡ true) e i);
    within =
        let bytes : m.object.size ≡ object_size ty (ty.type_at o) = subst (λ z. m.object.size ≡ object_size ty (ty.type_at z)) m.node (object_bytes ty without f h m.object m.among) in
        let same : object_size ty (ty.type_at k) ≡ object_size ty (ty.type_at o) = ap (object_size ty) e in
        omega arith;
  }
  name_fits k o unnamed n e m = tt

  member_fits : (t : Target) (offset d : ℕ) (whole part : TypeTree) → is_struct whole ≡ true → d + object_size ty part ≤ object_size ty whole → PlaceFits t offset whole → PlaceFits (member_target t) (offset + d) part
  member_fits (in_register i) offset d whole part struct l p = tt
  member_fits (in_kept q) offset d whole part struct l p = tt
  member_fits (in_object o) offset d whole part struct l p = record {
    object = p.object;
    among = p.among;
    node = p.node;
    plain = λ i. p.plain (struct_second (is_scalar whole) (is_struct whole) struct);
    within = let w : offset + object_size ty whole ≤ p.object.size = p.within in omega arith;
  }
  member_fits unnamed offset d whole part struct l p = tt

  mutual
    place_fits : (e : ExprTree) → PlaceAgrees (setting_of ty without f) (objects_of ty without f) e → PlaceFits (target_of (setting_of ty without f) e) (offset_in ty e) (type_in ty e)
    place_fits (s.expression n x) a = form_fits n.number x a

    form_fits : (k : ℕ) (x : ExprFormTree) → FormAgrees (setting_of ty without f) (objects_of ty without f) k x → PlaceFits (form_target (setting_of ty without f) k x) (form_offset ty x) (ty.type_at k)
    form_fits k (s.name at) a = name_fits k (object_named (setting_of ty without f) k at) (target_at (setting_of ty without f) (object_named (setting_of ty without f) k at)) (target_node (setting_of ty without f) (object_named (setting_of ty without f) k at)) a.type a.means
    form_fits k (s.paren e) a = subst (PlaceFits (target_of (setting_of ty without f) e) (offset_in ty e)) (sym a.0) (place_fits e a.1)
    form_fits k (s.dot e at) a = member_fits (target_of (setting_of ty without f) e) (offset_in ty e) (ty.offset_of (type_in ty e) at) (type_in ty e) (ty.type_at k) a.0 a.1 (place_fits e a.2)
    form_fits k x a = tt

  bare_type : (e : ExprTree) → PlaceAgrees (setting_of ty without f) (objects_of ty without f) e → type_in ty e ≡ type_in ty (bare e)
  bare_type (s.expression n (s.paren e)) a = a.0 ∙ bare_type e a.1
  bare_type (s.expression n x) a = refl

  suits_of : (t : Target) (offset : ℕ) (u : TypeTree) → is_scalar u ≡ true → PlaceFits t offset u → Suits (setting_of ty without f) (objects_of ty without f) t offset u
  suits_of (in_register i) offset u scalar p = ap number_kind p
  suits_of (in_kept q) offset u scalar p = ap number_kind p
  suits_of (in_object o) offset u scalar p = record {
    object = p.object;
    among = p.among;
    node = p.node;
    plain = p.plain (scalar_first (is_scalar u) (is_struct u) scalar);
    within =
        let bytes : object_size ty u ≡ bytes_of (number_kind u) = ap (λ z. unwrap_or z 1) (h.sizes u scalar) in
        let w : offset + object_size ty u ≤ p.object.size = p.within in
        omega arith;
  }
  suits_of unnamed offset u scalar p = tt

  stored_well : (e : ExprTree) → is_scalar (type_in ty e) ≡ true → PlaceAgrees (setting_of ty without f) (objects_of ty without f) e → IsStored (setting_of ty without f) (objects_of ty without f) e
  stored_well e scalar a = record {
    scalar = subst (λ t. is_scalar t ≡ true) (bare_type e a) scalar;
    same = bare_type e a;
    suits = suits_of (target_of (setting_of ty without f) e) (offset_in ty e) (type_in ty e) scalar (place_fits e a);
  }

  -- ---- visits

  named_object : (o : ℕ) → IsNamedObject ty (objects_of ty without f) o → IsObject (objects_of ty without f) o
  named_object o m = subst (IsObject (objects_of ty without f)) m.node (among_of m.object.node (map (λ (x : Object). x.node) (objects_of ty without f)) (in_map (λ (x : Object). x.node) m.object (objects_of ty without f) m.among))

  means_well : (k o : ℕ) (t : Target) → HasNode (setting_of ty without f) o t → number_kind (ty.type_at k) ≡ number_kind (ty.type_at o) → MeansObject ty (objects_of ty without f) o t → MeansWell (setting_of ty without f) (objects_of ty without f) k o t
  means_well k o (in_register i) n e m = tt
  means_well k o (in_kept q) n e m = (named_object o m, e ∙ ap (λ z. number_kind (ty.type_at z)) (sym n))
  means_well k o (in_object p) n e m = named_object o m
  means_well k o unnamed n e m = named_object o m

  name_well : (k o : ℕ) (role : Role) (z : Option ℤ) → IsTypedName (setting_of ty without f) (objects_of ty without f) k role o z → IsWellName (setting_of ty without f) (objects_of ty without f) k role o z
  name_well k o role (Some z) a = tt
  name_well k o role None a = (means_well k o (target_at (setting_of ty without f) o) (target_node (setting_of ty without f) o) (same_kind (ty.type_at k) (ty.type_at o) a.0.type) a.0.means, a.1)

  unary_well : (k : ℕ) (role : Role) (op : UnaryOp) → IsTypedUnary ty k role op → IsWellUnary (setting_of ty without f) k role op
  unary_well k role unary.Address a = tt
  unary_well k role unary.Deref a = a
  unary_well k role unary.Plus a = tt
  unary_well k role unary.Minus a = tt
  unary_well k role unary.Flip a = tt
  unary_well k role unary.Not a = tt

  form_well : (k : ℕ) (role : Role) (x : ExprFormTree) → ((y : KeyInfo) → IsIn y (visit_keys (setting_of ty without f) (at_expression k role x)) → IsIn y (keys_of ty without f)) → IsTypedForm (setting_of ty without f) (objects_of ty without f) k role x → IsWellForm (setting_of ty without f) (objects_of ty without f) k role x
  form_well k role (s.name at) listed a = name_well k (object_named (setting_of ty without f) k at) role (ty.number_at k) a
  form_well k role (s.text parts) listed a =
      (a, among_of k (map (λ (x : Object). x.node) (objects_of ty without f)) (in_map (λ (x : Object). x.node) (object_of ty None k (object_size ty (ty.type_at k))) (objects_of ty without f) (key_in_objects ty (keys_of ty without f) (address_info ty k None) k (listed (address_info ty k None) (inl refl)) refl)))
  form_well k role (s.step op e) listed a = stored_well e a.0 a.1
  form_well k role (s.unary op e) listed a = unary_well k role op a
  form_well k role (s.assign op x y) listed a = stored_well x a.0 a.1
  form_well k role x listed a = a

  -- a declared object lies at its own address
  declared_fits : (k : ℕ) (at : Option Span) (init : MaybeInitTree) (t : Target) → HasNode (setting_of ty without f) k t → is_some at ≡ true → ((y : KeyInfo) → IsIn y (declarator_keys (setting_of ty without f) k at init t) → IsIn y (keys_of ty without f)) → PlaceFits t 0 (ty.type_at k)
  declared_fits k at init (in_register i) n named listed = ap ty.type_at (sym n)
  declared_fits k at init (in_kept q) n named listed = ap ty.type_at (sym n)
  declared_fits k at init (in_object o) n named listed = record {
    object = object_of ty at k (object_size ty (ty.type_at k));
    among = key_in_objects ty (keys_of ty without f) (address_info ty k at) k (listed (address_info ty k at) (inl refl)) refl;
    node = sym n;
    plain = λ i. both (is_some at) (is_scalar (ty.type_at k) || is_struct (ty.type_at k)) named i;
    within = omega arith;
  }
    where
      both : (a b : Bool) → a ≡ true → b ≡ true → a && b ≡ true
      both true true p q = refl
      both true false p q = absurd cc
      both false b p q = absurd cc
  declared_fits k at init unnamed n named listed = tt

  declarator_well : (k : ℕ) (static : Bool) (at : Option Span) (init : MaybeInitTree) → ((y : KeyInfo) → IsIn y (visit_keys (setting_of ty without f) (at_declarator k static at init)) → IsIn y (keys_of ty without f)) → IsTypedDeclarator ty k static at init → IsWellDeclarator (setting_of ty without f) (objects_of ty without f) static k init
  declarator_well k true at init listed a = tt
  declarator_well k false at init listed a =
      ((λ scalar. suits_of (target_at (setting_of ty without f) k) 0 (ty.type_at k) scalar (declared_fits k at init (target_at (setting_of ty without f) k) (target_node (setting_of ty without f) k) a.0 listed)), a.1)

  visit_well : (x : Visit) → ((y : KeyInfo) → IsIn y (visit_keys (setting_of ty without f) x) → IsIn y (keys_of ty without f)) → IsTypedVisit (setting_of ty without f) (objects_of ty without f) x → IsWellVisit (setting_of ty without f) (objects_of ty without f) x
  visit_well (at_expression k role x) listed a = form_well k role x listed a
  visit_well (at_declarator k static at init) listed a = declarator_well k static at init listed a
  visit_well (at_statement k arm x) listed a = tt
  visit_well (at_section k ls) listed a = tt

  visits_well : (v : Visits) → ((y : KeyInfo) → IsIn y (collected (visit_keys (setting_of ty without f)) v) → IsIn y (keys_of ty without f)) → EachVisit (IsTypedVisit (setting_of ty without f) (objects_of ty without f)) v → EachVisit (IsWellVisit (setting_of ty without f) (objects_of ty without f)) v
  visits_well no_visit listed a = tt
  visits_well (one_visit x) listed a = visit_well x listed a
  visits_well (both_visits v w) listed a = (
    visits_well v (λ y i. listed y (in_left y (collected (visit_keys (setting_of ty without f)) v) (collected (visit_keys (setting_of ty without f)) w) i)) a.0,
    visits_well w (λ y i. listed y (in_right y (collected (visit_keys (setting_of ty without f)) v) (collected (visit_keys (setting_of ty without f)) w) i)) a.1,
  )
  visits_well (scope ks v) listed a = visits_well v listed a
  visits_well (unevaluated v) listed a = tt

  -- the body is a good part
  pub body_good : (start : ExecutionStart) → IsValidStart ty without f start → Good (ground_of ty without f start) (statement_visits ty false (body_of f))
  body_good start v = record {
    ground = is_ground ty without f h start v;
    distinct = (distinct_of (function_visits ty f) (ascends_right (map declarator_node (parameters_of f)) (nodes_of (function_visits ty f)) h.numbered)).1;
    listed = λ x i. body_listed ty without f h x (in_right x (collected (visit_keys (setting_of ty without f)) (head_visits ty (head_of f))) (collected (visit_keys (setting_of ty without f)) (statement_visits ty false (body_of f))) i);
    typed = (visits_well (function_visits ty f) (λ y i. body_listed ty without f h y i) h.visits).1;
  }

  -- ---- what is asked less

  no_array : (t : TypeTree) → is_scalar t ≡ true → is_array t ≡ false
  no_array void_type p = refl
  no_array (integer_type k) p = refl
  no_array (pointer_type t) p = refl
  no_array (array_type t count) p = absurd cc
  no_array (struct_type id) p = refl
  no_array (function_type x) p = refl

  operand_scalar : (x : ExprTree) → is_scalar (type_in ty x) ≡ true → PlaceAgrees (setting_of ty without f) (objects_of ty without f) x → IsNoArray ty x
  operand_scalar x scalar a = no_array (type_in ty (bare x)) (subst (λ t. is_scalar t ≡ true) (bare_type x a) scalar)

  form_operand : (k : ℕ) (role : Role) (x : ExprFormTree) → IsTypedForm (setting_of ty without f) (objects_of ty without f) k role x → HasScalarOperand ty x
  form_operand k role (s.step op e) a = operand_scalar e a.0 a.1
  form_operand k role (s.assign op x y) a = operand_scalar x a.0 a.1
  form_operand k role x a = tt

  visit_operand : (x : Visit) → IsTypedVisit (setting_of ty without f) (objects_of ty without f) x → VisitHasScalarOperand ty x
  visit_operand (at_expression k role x) a = form_operand k role x a
  visit_operand (at_declarator k static at init) a = tt
  visit_operand (at_statement k arm x) a = tt
  visit_operand (at_section k ls) a = tt

  operands_scalar : (v : Visits) → EachVisit (IsTypedVisit (setting_of ty without f) (objects_of ty without f)) v → EachVisit (VisitHasScalarOperand ty) v
  operands_scalar no_visit a = tt
  operands_scalar (one_visit x) a = visit_operand x a
  operands_scalar (both_visits v w) a = (operands_scalar v a.0, operands_scalar w a.1)
  operands_scalar (scope ks v) a = operands_scalar v a
  operands_scalar (unevaluated v) a = tt

pub one_condition_serves_all : OneConditionServesAll
one_condition_serves_all ty without f h = record {
  numbered = ascends_right (map declarator_node (parameters_of f)) (nodes_of (function_visits ty f)) h.numbered;
  operands = operands_scalar ty without f h (function_visits ty f) h.visits;
}
