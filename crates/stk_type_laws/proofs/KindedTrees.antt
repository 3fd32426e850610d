-- A function definition that typing accepts is kinded.
use Rattle.std.proofs.Common.{◌≡◌, ℕ, List, Option, Some, None, ℤ, sym, ap, ◌∙◌, subst}
use Rattle.stk_ctype.specs.declared.symbol.NameEntry.{NameEntry}
use Rattle.stk_ctype.specs.Structs.{structs_of}
use Rattle.stk_tree.specs.declared.node.Node.{Node}
use Rattle.stk_tree.specs.declared.expression.UnaryOp.{UnaryOp}
use Rattle.stk_tree.specs.declared.expression.UnaryOp.TheVariants as unary
use Rattle.stk_tree.specs.Syntax.{ExprTree, ExprFormTree, FunctionTree, UnitTree}
use Rattle.stk_tree.specs.Syntax as s
use Rattle.stk_tree.specs.View.{view_unit}
use Rattle.stk_numbers.specs.declared.conditions.Kinds.{Kinds}
use Rattle.stk_type_rules.specs.Facts.{Fact, fact_at, Fits}
use Rattle.stk_type_rules.specs.Outcome.{Good}
use Rattle.stk_type_rules.specs.Rules.{unary_rule}
use Rattle.stk_address_taken.specs.Statements.{function_taken}
use Rattle.stk_meaning.specs.Typings.{Typing, typing_of, type_in, number_kind}
use Rattle.stk_meaning.specs.Operations.{BinarySort, operates, joins, or_else, and_also, sort_of}
use Rattle.stk_meaning.specs.Places.{Setting, object_named, target_at}
use Rattle.stk_meaning.specs.Visits.{Role, Visit, at_expression, at_declarator, at_statement, at_section, Visits, no_visit, one_visit, both_visits, scope, unevaluated}
use Rattle.stk_meaning.specs.Keys.{Object, setting_of, objects_of, function_visits}
use Rattle.stk_function_types.specs.Units.{unit_taken, unit_typed, facts_in}
use Rattle.stk_run_laws.specs.Visits.{EachVisit}
use Rattle.stk_run_laws.specs.TypedTree.{IsTypedName, IsTypedForm, IsTypedVisit}
use Rattle.stk_type_laws.proofs.Whole.{accepted_trees_are_typed}
use Rattle.stk_kinded.specs.Kinds.{Suits}
use Rattle.stk_kinded.specs.Kinded.{NameHasKind, UnaryHasKind, BinaryHasKind, HasKind}
use Rattle.stk_kinded.specs.KindedStatements.{KindedFunction}
use Rattle.stk_type_laws.specs.Kinded.{AcceptedTreesAreKinded, AcceptedUnitsAreKinded}
use Rattle.stk_type_laws.proofs.Ruled.{Ground, typing, fact_of, RuledForm, RuledVisit}
use Rattle.stk_type_laws.proofs.RuledFunctions.{laid_out_ruled}
use Rattle.stk_type_laws.proofs.NodeKinds.{same_kind, paren_kind, step_kind, assign_kind, minus_kind, flip_kind, address_kind, not_kind, SortKind, binary_kind, target_suits, is_stored}
use Rattle.stk_type_laws.proofs.Trees.{VisitHasKind, function_kinded}

-- two facts of each visit
pub each_both : (P Q R : Visit → Type 0) (v : Visits) → ((x : Visit) → P x → Q x → R x) → EachVisit P v → EachVisit Q v → EachVisit R v
each_both P Q R no_visit g h k = tt
each_both P Q R (one_visit x) g h k = g x h k
each_both P Q R (both_visits a b) g h k = (each_both P Q R a g h.0 k.0, each_both P Q R b g h.1 k.1)
each_both P Q R (scope ks a) g h k = each_both P Q R a g h k
each_both P Q R (unevaluated a) g h k = tt

-- ---- a node has its kind

name_has_kind : (g : Setting) (objects : List Object) (k : ℕ) (role : Role) (o : ℕ) (z : Option ℤ) → IsTypedName g objects k role o z → NameHasKind g k o z
name_has_kind g objects k role o (Some z) h = tt
name_has_kind g objects k role o None h = subst (Suits g (target_at g o)) (sym (same_kind (g.typing.type_at k) (g.typing.type_at o) h.0.type)) (target_suits g o)

unary_has_kind : (c : Ground) (k : ℕ) (op : UnaryOp) (e : ExprTree) → unary_rule (structs_of c.entries) op (fact_of c.facts e) ≡ Fits (fact_at c.facts k) → UnaryHasKind (typing c) k (number_kind (type_in (typing c) e)) op
unary_has_kind c k unary.Address e r = address_kind (structs_of c.entries) (fact_of c.facts e) (fact_at c.facts k) r
unary_has_kind c k unary.Deref e r = tt
unary_has_kind c k unary.Plus e r = tt
unary_has_kind c k unary.Minus e r = minus_kind (structs_of c.entries) (fact_of c.facts e) (fact_at c.facts k) r
unary_has_kind c k unary.Flip e r = flip_kind (structs_of c.entries) (fact_of c.facts e) (fact_at c.facts k) r
unary_has_kind c k unary.Not e r = not_kind (structs_of c.entries) (fact_of c.facts e) (fact_at c.facts k) r

sort_has_kind : (ty : Typing) (k : ℕ) (sort : BinarySort) (a b : ExprTree) → number_kind (ty.type_at k) ≡ SortKind ty sort (type_in ty a) (type_in ty b) → BinaryHasKind ty k sort a b
sort_has_kind ty k (operates op) a b h = h
sort_has_kind ty k joins a b h = h
sort_has_kind ty k or_else a b h = h
sort_has_kind ty k and_also a b h = h

module _ (c : Ground) (without : Kinds) (f : FunctionTree) where
  form_has_kind : (k : ℕ) (role : Role) (x : ExprFormTree) → RuledForm (structs_of c.entries) c.facts k x → IsTypedForm (setting_of (typing c) without f) (objects_of (typing c) without f) k role x → HasKind (setting_of (typing c) without f) k x
  form_has_kind k role (s.name at) r h = name_has_kind (setting_of (typing c) without f) (objects_of (typing c) without f) k role (object_named (setting_of (typing c) without f) k at) ((typing c).number_at k) h
  form_has_kind k role (s.number at) r h = tt
  form_has_kind k role (s.character at) r h = tt
  form_has_kind k role (s.text parts) r h = tt
  form_has_kind k role (s.paren e) r h = paren_kind (fact_of c.facts e) (fact_at c.facts k) r
  form_has_kind k role (s.index a b) r h = tt
  form_has_kind k role (s.call e es) r h = ap number_kind h
  form_has_kind k role (s.dot e at) r h = tt
  form_has_kind k role (s.arrow e at) r h = tt
  form_has_kind k role (s.step op e) r h = (step_kind (structs_of c.entries) (fact_of c.facts e) (fact_at c.facts k) r, is_stored (setting_of (typing c) without f) (objects_of (typing c) without f) e h.1)
  form_has_kind k role (s.unary op e) r h = unary_has_kind c k op e r
  form_has_kind k role (s.size_expression e) r h = tt
  form_has_kind k role (s.size_name t) r h = tt
  form_has_kind k role (s.cast t e) r h = tt
  form_has_kind k role (s.binary op a b) r h = sort_has_kind (typing c) k (sort_of op) a b (binary_kind (typing c) (structs_of c.entries) op (fact_of c.facts a) (fact_of c.facts b) (fact_at c.facts k) r)
  form_has_kind k role (s.choice x y z) r h = tt
  form_has_kind k role (s.assign op a b) r h = (assign_kind (structs_of c.entries) op (fact_of c.facts a) (fact_of c.facts b) (fact_at c.facts k) r, is_stored (setting_of (typing c) without f) (objects_of (typing c) without f) a h.1)

  visit_has_kind : (x : Visit) → RuledVisit c x → IsTypedVisit (setting_of (typing c) without f) (objects_of (typing c) without f) x → VisitHasKind (setting_of (typing c) without f) x
  visit_has_kind (at_expression k role x) r h = form_has_kind k role x r h
  visit_has_kind (at_declarator k static at init) r h = tt
  visit_has_kind (at_statement k arm x) r h = tt
  visit_has_kind (at_section k ls) r h = tt

  kinded_from : EachVisit (RuledVisit c) (function_visits (typing c) f) → EachVisit (IsTypedVisit (setting_of (typing c) without f) (objects_of (typing c) without f)) (function_visits (typing c) f) → KindedFunction (setting_of (typing c) without f) f
  kinded_from ruled typed =
      function_kinded (setting_of (typing c) without f) f
      (each_both (RuledVisit c) (IsTypedVisit (setting_of (typing c) without f) (objects_of (typing c) without f)) (VisitHasKind (setting_of (typing c) without f)) (function_visits (typing c) f) visit_has_kind ruled typed)

-- ---- the law

pub accepted_trees_are_kinded : AcceptedTreesAreKinded
accepted_trees_are_kinded bytes entries node f facts without h =
    let c : Ground = record { bytes = bytes; entries = entries; taken = function_taken bytes f; facts = facts } in
    kinded_from c without f (laid_out_ruled c h.spans h.unit node f h.result h.laid_out h.placed h.typed) (accepted_trees_are_typed bytes entries node f facts without h).visits

-- what typing answers of a unit that is a function definition
unit_by : (bytes : List ℕ) (entries : List NameEntry) (node : Node) (f : FunctionTree) (without : Kinds) (v : UnitTree) → v ≡ s.defines node f → (result : Fact) (facts : List Fact) → unit_typed bytes entries v ≡ Good result facts
    → (unit_typed bytes entries (s.defines node f) ≡ Good result facts → KindedFunction (setting_of (typing_of bytes entries (function_taken bytes f) facts) without f) f)
    → KindedFunction (setting_of (typing_of bytes entries (unit_taken bytes v) (facts_in (unit_typed bytes entries v))) without f) f
unit_by bytes entries node f without v is result facts typed law =
    let here : unit_typed bytes entries (s.defines node f) ≡ Good result facts = ap (unit_typed bytes entries) (sym is) ∙ typed in
    let same : facts ≡ facts_in (unit_typed bytes entries v) = sym (ap facts_in typed) in
    let taken : function_taken bytes f ≡ unit_taken bytes v = ap (unit_taken bytes) (sym is) in
    subst (λ z. KindedFunction (setting_of (typing_of bytes entries z (facts_in (unit_typed bytes entries v))) without f) f) taken
    (subst (λ z. KindedFunction (setting_of (typing_of bytes entries (function_taken bytes f) z) without f) f) same (law here))

pub accepted_units_are_kinded : AcceptedUnitsAreKinded
accepted_units_are_kinded t node f without h =
    unit_by t.bytes t.entries node f without (view_unit t.unit) h.function h.result h.facts h.typed
    (λ here. accepted_trees_are_kinded t.bytes t.entries node f h.facts without (record { names = h.names; spans = h.spans; unit = h.unit; laid_out = h.laid_out; placed = h.placed; result = h.result; typed = here }))
