-- The facts of the evaluated nodes of an expression are those of their rules.
use Rattle.std.proofs.Common.{◌≡◌, ℕ, ◌+◌, List, [], ◌∷◌, Option, sym, ap, ◌∙◌}
use Rattle.stk_base.specs.Text.{text_of}
use Rattle.stk_ctype.specs.Structs.{structs_of}
use Rattle.stk_tree.specs.Syntax.{ExprTree, ExprTrees, ExprFormTree, TypeNameTree}
use Rattle.stk_tree.specs.Syntax as s
use Rattle.stk_tree.specs.Nodes.{expression_nodes, expression_form_nodes, type_name_nodes}
use Rattle.stk_type_rules.specs.Facts.{Fact, fact_at, Ruled, Fits}
use Rattle.stk_type_rules.specs.Outcome.{Good}
use Rattle.stk_type_rules.specs.Rules.{paren_rule, dot_rule, arrow_rule, step_rule, unary_rule, index_rule, binary_rule, assign_rule, cast_rule, choice_rule}
use Rattle.stk_typing.specs.Locals.{Local}
use Rattle.stk_typing.specs.Calls.{call_rule}
use Rattle.stk_typing.specs.Typing.{expression_typed, form_typed, callee_typed, arguments_typed, type_name_typed}
use Rattle.stk_meaning.specs.Typings.{Typing, type_in}
use Rattle.stk_meaning.specs.Visits.{Role, Visit, reading, as_arm, as_test, inner_role, inside, indexed_role, unary_role, left_role, right_role, assigned_role}
use Rattle.stk_meaning.specs.Visits.{expression_visits, form_visits, arguments_visits, type_name_visits}
use Rattle.stk_run_laws.specs.Visits.{EachVisit}
use Rattle.stk_type_laws.proofs.Stretches.{Stand, first_stands, rest_stands, last_stands, steps, one, two, three, mapped}
use Rattle.stk_type_laws.proofs.TypedCounts.{form_ends, expression_count, called_count, type_name_count}
use Rattle.stk_type_laws.proofs.From.{expression_from, form_from, expressions_from}
use Rattle.stk_type_laws.proofs.Expressions.{dimensions_each}
use Rattle.stk_type_laws.proofs.Ruled.{Ground, typing, in_force, fact_of, RuledForm, RuledVisit}

-- the sizes in a type name aren't evaluated
type_name_each : (P : Visit → Type 0) (ty : Typing) (t : TypeNameTree) → EachVisit P (type_name_visits ty t)
type_name_each P ty (s.type_name n b count ds) = dimensions_each P ty ds

-- an expression's fact stands at its node, and its nodes are ruled
pub record Known (c : Ground) (role : Role) (e : ExprTree) (x : Fact) : Type 0 where
  pub at : fact_of c.facts e ≡ x
  pub visits : EachVisit (RuledVisit c) (expression_visits (typing c) role e)

-- the same of the form of a node
record Formed (c : Ground) (k : ℕ) (role : Role) (f : ExprFormTree) : Type 0 where
  inner : EachVisit (RuledVisit c) (form_visits (typing c) k role f)
  own : RuledForm (structs_of c.entries) c.facts k f

-- a rule of one operand, of two and of three, by the facts that stand at the nodes
ruled_one : (rule : Fact → Ruled) (x y u v : Fact) → u ≡ x → v ≡ y → rule x ≡ Fits y → rule u ≡ Fits v
ruled_one rule x y u v p q r = ap rule p ∙ r ∙ ap Fits (sym q)

ruled_two : (rule : Fact → Fact → Ruled) (x y z u v w : Fact) → u ≡ x → v ≡ y → w ≡ z → rule x y ≡ Fits z → rule u v ≡ Fits w
ruled_two rule x y z u v w p q here r = ap (λ t. rule t v) p ∙ ap (rule x) q ∙ r ∙ ap Fits (sym here)

ruled_three : (rule : Fact → Fact → Fact → Ruled) (x y z a u v w b : Fact) → u ≡ x → v ≡ y → w ≡ z → b ≡ a → rule x y z ≡ Fits a → rule u v w ≡ Fits b
ruled_three rule x y z a u v w b p q here last r = ap (λ t. rule t v w) p ∙ ap (λ t. rule x t w) q ∙ ap (rule x y) here ∙ r ∙ ap Fits (sym last)

mutual
  pub expression_ruled : (c : Ground) (e : ExprTree) (n : ℕ) (role : Role) (ls : List Local) (own : Option ℕ) (x : Fact) (ts : List Fact) → expression_typed (in_force c ls own) e ≡ Good x ts
      → Stand c.facts n ts → expression_from n e → Known c role e x
  expression_ruled c (s.expression node f) n role ls own x ts e stand from =
      let last = (form_ends (in_force c ls own) node.number f).by x ts e in
      let count = (expression_count (s.expression node f) (in_force c ls own)).by x ts e in
      let here : fact_at c.facts node.number ≡ x = ap (fact_at c.facts) from.0 ∙ last_stands c.facts n (expression_form_nodes f) ts last.before x last.all count stand in
      let k = form_ruled c f node.number n role ls own x ts e stand from.1 here in
      record { at = here; visits = (k.inner, k.own) }

  form_ruled : (c : Ground) (f : ExprFormTree) (k n : ℕ) (role : Role) (ls : List Local) (own : Option ℕ) (x : Fact) (ts : List Fact) → form_typed (in_force c ls own) k f ≡ Good x ts
      → Stand c.facts n ts → form_from n f → fact_at c.facts k ≡ x → Formed c k role f
  form_ruled c (s.name at) k n role ls own x ts eq stand from here = record { inner = tt; own = tt }
  form_ruled c (s.number at) k n role ls own x ts eq stand from here = record { inner = tt; own = tt }
  form_ruled c (s.character at) k n role ls own x ts eq stand from here = record { inner = tt; own = tt }
  form_ruled c (s.text parts) k n role ls own x ts eq stand from here = record { inner = tt; own = tt }
  form_ruled c (s.paren e) k n role ls own x ts eq stand from here =
      let o = one (expression_typed (in_force c ls own) e) paren_rule k x ts eq in
      let p = expression_ruled c e n (inside role) ls own o.value o.first o.gives (first_stands c.facts n ts o.first (x ∷ []) o.all stand) from in
      record { inner = p.visits; own = ruled_one paren_rule o.value x (fact_of c.facts e) (fact_at c.facts k) p.at here o.rule }
  form_ruled c (s.index a b) k n role ls own x ts eq stand from here =
      let o = two (expression_typed (in_force c ls own) a) (expression_typed (in_force c ls own) b) (index_rule (structs_of c.entries)) k x ts eq in
      let left = indexed_role ((typing c).type_at k) (type_in (typing c) a) role.use_of in
      let p = expression_ruled c a n left ls own o.value o.first o.gives (first_stands c.facts n ts o.first o.rest o.all stand) from.0 in
      let stand_b = rest_stands c.facts n (expression_nodes a) ts o.first o.rest o.all ((expression_count a (in_force c ls own)).by o.value o.first o.gives) stand in
      let q = expression_ruled c b (n + expression_nodes a) reading ls own o.then.value o.then.first o.then.gives (first_stands c.facts (n + expression_nodes a) o.rest o.then.first (x ∷ []) o.then.all stand_b) from.1 in
      record { inner = (p.visits, q.visits); own = tt }
  form_ruled c (s.call f args) k n role ls own x ts eq stand from here =
      let o = two (callee_typed (in_force c ls own) f) (arguments_typed (in_force c ls own) args) call_rule k x ts eq in
      let stand_b = rest_stands c.facts n (expression_nodes f) ts o.first o.rest o.all ((called_count f (in_force c ls own)).by o.value o.first o.gives) stand in
      record { inner = arguments_ruled c args (n + expression_nodes f) ls own o.then.value o.then.first o.then.gives (first_stands c.facts (n + expression_nodes f) o.rest o.then.first (x ∷ []) o.then.all stand_b) from; own = tt }
  form_ruled c (s.dot e at) k n role ls own x ts eq stand from here =
      let o = one (expression_typed (in_force c ls own) e) (λ z. dot_rule (structs_of c.entries) z (text_of c.bytes at)) k x ts eq in
      record { inner = (expression_ruled c e n (inner_role ((typing c).type_at k) role.use_of) ls own o.value o.first o.gives (first_stands c.facts n ts o.first (x ∷ []) o.all stand) from).visits; own = tt }
  form_ruled c (s.arrow e at) k n role ls own x ts eq stand from here =
      let o = one (expression_typed (in_force c ls own) e) (λ z. arrow_rule (structs_of c.entries) z (text_of c.bytes at)) k x ts eq in
      record { inner = (expression_ruled c e n reading ls own o.value o.first o.gives (first_stands c.facts n ts o.first (x ∷ []) o.all stand) from).visits; own = tt }
  form_ruled c (s.step op e) k n role ls own x ts eq stand from here =
      let o = one (expression_typed (in_force c ls own) e) (step_rule (structs_of c.entries)) k x ts eq in
      let p = expression_ruled c e n reading ls own o.value o.first o.gives (first_stands c.facts n ts o.first (x ∷ []) o.all stand) from in
      record { inner = p.visits; own = ruled_one (step_rule (structs_of c.entries)) o.value x (fact_of c.facts e) (fact_at c.facts k) p.at here o.rule }
  form_ruled c (s.unary op e) k n role ls own x ts eq stand from here =
      let o = one (expression_typed (in_force c ls own) e) (unary_rule (structs_of c.entries) op) k x ts eq in
      let p = expression_ruled c e n (unary_role op) ls own o.value o.first o.gives (first_stands c.facts n ts o.first (x ∷ []) o.all stand) from in
      record { inner = p.visits; own = ruled_one (unary_rule (structs_of c.entries) op) o.value x (fact_of c.facts e) (fact_at c.facts k) p.at here o.rule }
  form_ruled c (s.size_expression e) k n role ls own x ts eq stand from here = record { inner = tt; own = tt }
  form_ruled c (s.size_name t) k n role ls own x ts eq stand from here = record { inner = type_name_each (RuledVisit c) (typing c) t; own = tt }
  form_ruled c (s.cast t e) k n role ls own x ts eq stand from here =
      let o = two (type_name_typed (in_force c ls own) t) (expression_typed (in_force c ls own) e) (λ (z : Fact). cast_rule z.ty) k x ts eq in
      let stand_b = rest_stands c.facts n (type_name_nodes t) ts o.first o.rest o.all ((type_name_count t (in_force c ls own)).by o.value o.first o.gives) stand in
      let q = expression_ruled c e (n + type_name_nodes t) reading ls own o.then.value o.then.first o.then.gives (first_stands c.facts (n + type_name_nodes t) o.rest o.then.first (x ∷ []) o.then.all stand_b) from in
      record { inner = (type_name_each (RuledVisit c) (typing c) t, q.visits); own = tt }
  form_ruled c (s.binary op a b) k n role ls own x ts eq stand from here =
      let o = two (expression_typed (in_force c ls own) a) (expression_typed (in_force c ls own) b) (binary_rule (structs_of c.entries) op) k x ts eq in
      let p = expression_ruled c a n (left_role op) ls own o.value o.first o.gives (first_stands c.facts n ts o.first o.rest o.all stand) from.0 in
      let stand_b = rest_stands c.facts n (expression_nodes a) ts o.first o.rest o.all ((expression_count a (in_force c ls own)).by o.value o.first o.gives) stand in
      let q = expression_ruled c b (n + expression_nodes a) (right_role op) ls own o.then.value o.then.first o.then.gives (first_stands c.facts (n + expression_nodes a) o.rest o.then.first (x ∷ []) o.then.all stand_b) from.1 in
      record { inner = (p.visits, q.visits); own = ruled_two (binary_rule (structs_of c.entries) op) o.value o.then.value x (fact_of c.facts a) (fact_of c.facts b) (fact_at c.facts k) p.at q.at here o.then.rule }
  form_ruled c (s.choice a b d) k n role ls own x ts eq stand from here =
      let o = three (expression_typed (in_force c ls own) a) (expression_typed (in_force c ls own) b) (expression_typed (in_force c ls own) d) choice_rule k x ts eq in
      let p = expression_ruled c a n as_test ls own o.value o.first o.gives (first_stands c.facts n ts o.first o.rest o.all stand) from.0 in
      let stand_b = rest_stands c.facts n (expression_nodes a) ts o.first o.rest o.all ((expression_count a (in_force c ls own)).by o.value o.first o.gives) stand in
      let q = expression_ruled c b (n + expression_nodes a) as_arm ls own o.then.value o.then.first o.then.gives (first_stands c.facts (n + expression_nodes a) o.rest o.then.first o.then.rest o.then.all stand_b) from.1 in
      let stand_c = rest_stands c.facts (n + expression_nodes a) (expression_nodes b) o.rest o.then.first o.then.rest o.then.all ((expression_count b (in_force c ls own)).by o.then.value o.then.first o.then.gives) stand_b in
      let l = o.then.then in
      let r = expression_ruled c d (n + expression_nodes a + expression_nodes b) as_arm ls own l.value l.first l.gives (first_stands c.facts (n + expression_nodes a + expression_nodes b) o.then.rest l.first (x ∷ []) l.all stand_c) from.2 in
      record {
        inner = (p.visits, (q.visits, r.visits));
        own = ruled_three choice_rule o.value o.then.value l.value x (fact_of c.facts a) (fact_of c.facts b) (fact_of c.facts d) (fact_at c.facts k) p.at q.at r.at here l.rule;
      }
  form_ruled c (s.assign op a b) k n role ls own x ts eq stand from here =
      let o = two (expression_typed (in_force c ls own) a) (expression_typed (in_force c ls own) b) (assign_rule (structs_of c.entries) op) k x ts eq in
      let p = expression_ruled c a n (assigned_role op) ls own o.value o.first o.gives (first_stands c.facts n ts o.first o.rest o.all stand) from.0 in
      let stand_b = rest_stands c.facts n (expression_nodes a) ts o.first o.rest o.all ((expression_count a (in_force c ls own)).by o.value o.first o.gives) stand in
      let q = expression_ruled c b (n + expression_nodes a) reading ls own o.then.value o.then.first o.then.gives (first_stands c.facts (n + expression_nodes a) o.rest o.then.first (x ∷ []) o.then.all stand_b) from.1 in
      record { inner = (p.visits, q.visits); own = ruled_two (assign_rule (structs_of c.entries) op) o.value o.then.value x (fact_of c.facts a) (fact_of c.facts b) (fact_at c.facts k) p.at q.at here o.then.rule }

  arguments_ruled : (c : Ground) (es : ExprTrees) (n : ℕ) (ls : List Local) (own : Option ℕ) (xs : List Fact) (ts : List Fact) → arguments_typed (in_force c ls own) es ≡ Good xs ts
      → Stand c.facts n ts → expressions_from n es → EachVisit (RuledVisit c) (arguments_visits (typing c) es)
  arguments_ruled c s.no_expressions n ls own xs ts eq stand from = tt
  arguments_ruled c (s.then_expression e es) n ls own xs ts eq stand from =
      let o = steps (expression_typed (in_force c ls own) e) _ xs ts eq in
      let m = mapped (arguments_typed (in_force c ls own) es) (λ (z : List Fact). o.value ∷ z) xs o.rest o.then in
      let stand_b = rest_stands c.facts n (expression_nodes e) ts o.first o.rest o.all ((expression_count e (in_force c ls own)).by o.value o.first o.gives) stand in
      let p = expression_ruled c e n reading ls own o.value o.first o.gives (first_stands c.facts n ts o.first o.rest o.all stand) from.0 in
      (p.visits, arguments_ruled c es (n + expression_nodes e) ls own m.value o.rest m.gives stand_b from.1)
