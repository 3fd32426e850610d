-- The events of an expression are no more than what is listed of its visits, whichever they are counted.
use Rattle.std.proofs.Common.{◌≡◌, ℕ, ◌+◌, ◌≤◌, Bool, true, false, not, List, [], ◌++◌, Option, refl, sym, ap, subst, arith}
use Rattle.std.specs.Prelude.{map, if◌then◌else◌}
use Rattle.stk_ctype.specs.Types.{TypeTree}
use Rattle.stk_tree.specs.declared.node.Node.{Node}
use Rattle.stk_tree.specs.declared.expression.UnaryOp.TheVariants as unary
use Rattle.stk_tree.specs.declared.expression.BinaryOp.TheVariants as binary
use Rattle.stk_tree.specs.declared.expression.AssignOp.TheVariants as assign
use Rattle.stk_tree.specs.Syntax.{ExprTree, ExprTrees, ExprFormTree}
use Rattle.stk_tree.specs.Syntax as s
use Rattle.stk_tree.specs.Parts.{bare}
use Rattle.stk_meaning.specs.Typings.{node_of, type_in, is_array}
use Rattle.stk_meaning.specs.Replacements.{Replaced, replacement}
use Rattle.stk_meaning.specs.Places.{Setting}
use Rattle.stk_meaning.specs.Visits.{Use, read, accessed, taken, Role, reading, accessing, taking, as_arm, as_test, accesses, inner_role, inside, indexed_role, expression_visits, arguments_visits, type_name_visits}
use Rattle.stk_meaning.specs.Lists.{arm_candidates, seen_candidates, replaced_candidates}
use Rattle.stk_run_laws.specs.Visits.{EachVisit}
use Rattle.stk_run_laws.specs.TypedOperands.{IsNoArray, VisitHasScalarOperand}
use Rattle.stk_walking.specs.declared.state.Event.{Event}
use Rattle.stk_walking.specs.declared.state.Event.TheVariants.{Hit}
use Rattle.stk_walking.specs.Events.{truth_events, seen_events}
use Rattle.stk_walking.specs.ExpressionEvents.{ExpressionEvents, value_alone, placed_events, control_events, controlled_events, entered_events, indexed_events, expression_events, form_events, argument_events}
use Rattle.stk_event_laws.proofs.Totals.{total, total_append, joined, armed, tested, paren_least, seen_least, compared_least, visits_total}

-- the events of an expression by its use
abbrev pub face : Use → ExpressionEvents → List Event
face read a = a.value
face accessed a = a.place true
face taken a = a.place false

not_if : (b : Bool) → not b ≡ (if b then false else true)
not_if true = refl
not_if false = refl

module _ (g : Setting) (w : Event → ℕ) where
  -- what is asked of an expression in a role
  abbrev pub AreScalar : Role → ExprTree → Type 0
  AreScalar role e = EachVisit (VisitHasScalarOperand g.typing) (expression_visits g.typing role e)

  -- what is listed of it in a role
  abbrev pub listed_in : Role → ExprTree → ℕ
  listed_in role e = visits_total g w (expression_visits g.typing role e)

  abbrev pub own_total : Role → ExprTree → ℕ
  own_total role e = total w (armed role.is_arm (node_of e)) + total w (tested role.is_test (control_events (bare e)))

  pub record Counted (e : ExprTree) (a : ExpressionEvents) : Type 0 where
    pub at : (role : Role) → AreScalar role e → total w (face role.use_of a) + own_total role e ≤ listed_in role e

  -- ---- operands

  pub value_least : (e : ExprTree) (a : ExpressionEvents) → Counted e a → AreScalar reading e → total w a.value ≤ listed_in reading e
  value_least e a c h = let p = c.at reading h in omega (arith, p)

  place_least : (e : ExprTree) (a : ExpressionEvents) → Counted e a → AreScalar accessing e → total w (a.place true) ≤ listed_in accessing e
  place_least e a c h = let p = c.at accessing h in omega (arith, p)

  taken_least : (e : ExprTree) (a : ExpressionEvents) → Counted e a → AreScalar taking e → total w (a.place false) ≤ listed_in taking e
  taken_least e a c h = let p = c.at taking h in omega (arith, p)

  pub test_least : (e : ExprTree) (a : ExpressionEvents) → Counted e a → AreScalar as_test e → total w (controlled_events e a.value) ≤ listed_in as_test e
  test_least e a c h =
      let p = c.at as_test h in
      let q = total_append w a.value (control_events (bare e)) in
      omega (arith, p, q)

  arm_value_least : (e : ExprTree) (a : ExpressionEvents) → Counted e a → AreScalar as_arm e → total w (entered_events e a.value) ≤ listed_in as_arm e
  arm_value_least e a c h = let p = c.at as_arm h in omega (arith, p)

  inner_least : (e : ExprTree) (a : ExpressionEvents) → Counted e a → (t : TypeTree) (u : Use) → AreScalar (inner_role t u) e → total w (a.place (accesses t u)) ≤ listed_in (inner_role t u) e
  inner_least e a c t u h = by (accesses t u) h
    where
      by : (b : Bool) → AreScalar (if b then accessing else taking) e → total w (a.place b) ≤ listed_in (if b then accessing else taking) e
      by true h = place_least e a c h
      by false h = taken_least e a c h

  indexed_least : (e : ExprTree) (a : ExpressionEvents) → Counted e a → (t v : TypeTree) (u : Use) → AreScalar (indexed_role t v u) e → total w (indexed_events v (accesses t u) a) ≤ listed_in (indexed_role t v u) e
  indexed_least e a c t v u h = by (is_array v) h
    where
      by : (b : Bool) → AreScalar (if b then inner_role t u else reading) e → total w (if b then a.place (accesses t u) else a.value) ≤ listed_in (if b then inner_role t u else reading) e
      by true h = inner_least e a c t u h
      by false h = value_least e a c h

  -- ---- forms

  alone_least : (u : Use) (es : List Event) → total w (face u (value_alone es)) ≤ total w es
  alone_least read es = omega arith
  alone_least accessed es = omega arith
  alone_least taken es = omega arith

  -- a form that is no place
  plain : (u : Use) (es : List Event) (k : ℕ) (arm test : Bool) (inner conds : ℕ) → total w es ≤ inner + conds → total w (face u (value_alone es)) + (total w (armed arm k) + total w (tested test (truth_events k))) ≤ inner + (conds + total w (map (λ c. Hit c) (arm_candidates k arm ++ seen_candidates k test)))
  plain u es k arm test inner conds h =
      let p = alone_least u es in
      let q = seen_least w k arm test in
      omega (arith, h, p, q)

  -- a comparison, which is seen wherever it is evaluated
  compared : (u : Use) (es : List Event) (k : ℕ) (arm test : Bool) (found : Option Replaced) (inner conds : ℕ) → total w es ≤ inner + total w (seen_events k found) → total w (face u (value_alone es)) + (total w (armed arm k) + total w (tested test [])) ≤ inner + (conds + total w (map (λ c. Hit c) (arm_candidates k arm ++ (seen_candidates k true ++ replaced_candidates k found))))
  compared u es k arm test found inner conds h =
      let p = alone_least u es in
      let q = compared_least w k arm test found in
      omega (arith, h, p, q)

  face_placed : (u : Use) (t : TypeTree) (place : Bool → List Event) → total w (face u (placed_events t place)) ≡ total w (place (accesses t u))
  face_placed read t place = ap (λ b. total w (place b)) (not_if (is_array t))
  face_placed accessed t place = refl
  face_placed taken t place = refl

  -- a place
  placed : (u : Use) (t : TypeTree) (place : Bool → List Event) (k : ℕ) (arm test : Bool) (inner conds : ℕ) → total w (place (accesses t u)) ≤ inner + conds → total w (face u (placed_events t place)) + (total w (armed arm k) + total w (tested test (truth_events k))) ≤ inner + (conds + total w (map (λ c. Hit c) (arm_candidates k arm ++ seen_candidates k test)))
  placed u t place k arm test inner conds h =
      let p = face_placed u t place in
      let q = seen_least w k arm test in
      omega (arith, h, p, q)

  -- parentheses
  held : (f k n : ℕ) (arm : Bool) (inner : ℕ) → f + (0 + n) ≤ inner → f + (total w (armed arm k) + n) ≤ inner + (0 + total w (map (λ c. Hit c) (arm_candidates k arm ++ [])))
  held f k n arm inner h = let p = paren_least w k arm in omega (arith, h, p)

  -- an operand that is read or written as a whole
  whole_placed : (t : TypeTree) (place : Bool → List Event) → is_array t ≡ false → total w (place true) ≤ total w (place (not (is_array t)))
  whole_placed t place h = subst (λ b. total w (place true) ≤ total w (place (not b))) (sym h) (omega arith)

  whole : (e : ExprTree) → IsNoArray g.typing e → total w ((expression_events g e).place true) ≤ total w (expression_events g e).value
  whole (s.expression n (s.paren e)) h = whole e h
  whole (s.expression n (s.index a b)) h = whole_placed (g.typing.type_at n.number) (expression_events g (s.expression n (s.index a b))).place h
  whole (s.expression n (s.dot e at)) h = whole_placed (g.typing.type_at n.number) (expression_events g e).place h
  whole (s.expression n (s.arrow e at)) h = whole_placed (g.typing.type_at n.number) (expression_events g (s.expression n (s.arrow e at))).place h
  whole (s.expression n (s.unary unary.Deref e)) h = whole_placed (g.typing.type_at n.number) (expression_events g (s.expression n (s.unary unary.Deref e))).place h
  whole (s.expression n f) h = omega arith

  -- two operands, and what is asked of their numbers
  both : (a b c : List Event) (x y z : ℕ) → total w a ≤ x → total w b ≤ y → total w c ≤ z → total w (a ++ (b ++ c)) ≤ x + y + z
  both a b c x y z p q r =
      let m = total_append w a (b ++ c) in
      let n = total_append w b c in
      omega (arith, p, q, r, m, n)

  turned : (a b c : List Event) (x y z : ℕ) → total w a ≤ x → total w b ≤ y → total w c ≤ z → total w (b ++ (a ++ c)) ≤ x + y + z
  turned a b c x y z p q r =
      let m = total_append w b (a ++ c) in
      let n = total_append w a c in
      omega (arith, p, q, r, m, n)

  exchanged : (b a : List Event) (y x : ℕ) → total w b ≤ y → total w a ≤ x → total w (b ++ a) ≤ x + y
  exchanged b a y x p q = let m = total_append w b a in omega (arith, p, q, m)

  same_most : (n : ℕ) → n ≤ n
  same_most n = omega arith

  more : (m n : ℕ) → m ≤ n → m ≤ n + 0
  more m n h = omega arith

  least : (m n p : ℕ) → m ≤ n → n ≤ p → m ≤ p
  least m n p h k = omega arith

  mutual
    pub expression_counted : (e : ExprTree) → Counted e (expression_events g e)
    expression_counted (s.expression n f) = record { at = λ role h. form_counted n role f h }

    form_counted : (n : Node) (role : Role) (f : ExprFormTree) → AreScalar role (s.expression n f) → total w (face role.use_of (form_events g n.number f)) + own_total role (s.expression n f) ≤ listed_in role (s.expression n f)
    form_counted n role (s.name at) h = plain role.use_of [] n.number role.is_arm role.is_test 0 0 (omega arith)
    form_counted n role (s.number at) h = plain role.use_of [] n.number role.is_arm role.is_test 0 0 (omega arith)
    form_counted n role (s.character at) h = plain role.use_of [] n.number role.is_arm role.is_test 0 0 (omega arith)
    form_counted n role (s.text parts) h = plain role.use_of [] n.number role.is_arm role.is_test 0 0 (omega arith)
    form_counted n role (s.paren e) h = held _ n.number _ role.is_arm _ ((expression_counted e).at (inside role) h.0)
    form_counted n role (s.index a b) h = placed role.use_of (g.typing.type_at n.number) (expression_events g (s.expression n (s.index a b))).place n.number role.is_arm role.is_test _ _
        (both (indexed_events (type_in g.typing a) (accesses (g.typing.type_at n.number) role.use_of) (expression_events g a)) (expression_events g b).value _ _ _ _
        (indexed_least a (expression_events g a) (expression_counted a) (g.typing.type_at n.number) (type_in g.typing a) role.use_of h.0.0)
        (value_least b (expression_events g b) (expression_counted b) h.0.1) (same_most _))
    form_counted n role (s.call e es) h = plain role.use_of _ n.number role.is_arm role.is_test _ _ (joined w (argument_events g es) _ _ _ (arguments_counted es h.0) (same_most _))
    form_counted n role (s.dot e at) h = placed role.use_of (g.typing.type_at n.number) (expression_events g e).place n.number role.is_arm role.is_test _ 0 (more _ _ (inner_least e (expression_events g e) (expression_counted e) (g.typing.type_at n.number) role.use_of h.0))
    form_counted n role (s.arrow e at) h = placed role.use_of (g.typing.type_at n.number) (expression_events g (s.expression n (s.arrow e at))).place n.number role.is_arm role.is_test _ _ (joined w (expression_events g e).value _ _ _ (value_least e (expression_events g e) (expression_counted e) h.0) (same_most _))
    form_counted n role (s.step op e) h = plain role.use_of _ n.number role.is_arm role.is_test _ _ (joined w ((expression_events g e).place true) _ _ _ (least _ _ _ (whole e h.1) (value_least e (expression_events g e) (expression_counted e) h.0)) (same_most _))
    form_counted n role (s.unary unary.Address e) h = plain role.use_of _ n.number role.is_arm role.is_test _ 0 (more _ _ (taken_least e (expression_events g e) (expression_counted e) h.0))
    form_counted n role (s.unary unary.Deref e) h = placed role.use_of (g.typing.type_at n.number) (expression_events g (s.expression n (s.unary unary.Deref e))).place n.number role.is_arm role.is_test _ _ (joined w (expression_events g e).value _ _ _ (value_least e (expression_events g e) (expression_counted e) h.0) (same_most _))
    form_counted n role (s.unary unary.Plus e) h = plain role.use_of _ n.number role.is_arm role.is_test _ 0 (more _ _ (value_least e (expression_events g e) (expression_counted e) h.0))
    form_counted n role (s.unary unary.Minus e) h = plain role.use_of _ n.number role.is_arm role.is_test _ _ (joined w (expression_events g e).value _ _ _ (value_least e (expression_events g e) (expression_counted e) h.0) (same_most _))
    form_counted n role (s.unary unary.Flip e) h = plain role.use_of _ n.number role.is_arm role.is_test _ 0 (more _ _ (value_least e (expression_events g e) (expression_counted e) h.0))
    form_counted n role (s.unary unary.Not e) h = plain role.use_of _ n.number role.is_arm role.is_test _ 0 (more _ _ (value_least e (expression_events g e) (expression_counted e) h.0))
    form_counted n role (s.size_expression e) h = plain role.use_of [] n.number role.is_arm role.is_test 0 0 (omega arith)
    form_counted n role (s.size_name t) h = plain role.use_of [] n.number role.is_arm role.is_test (visits_total g w (type_name_visits g.typing t)) 0 (omega arith)
    form_counted n role (s.cast t e) h = plain role.use_of _ n.number role.is_arm role.is_test _ 0 (more _ _ (least _ _ _ (value_least e (expression_events g e) (expression_counted e) h.0.1) (omega arith)))
    form_counted n role (s.binary binary.Or a b) h = plain role.use_of _ n.number role.is_arm role.is_test _ _ (both (expression_events g a).value (expression_events g b).value _ _ _ _ (value_least a (expression_events g a) (expression_counted a) h.0.0) (value_least b (expression_events g b) (expression_counted b) h.0.1) (same_most _))
    form_counted n role (s.binary binary.Xor a b) h = plain role.use_of _ n.number role.is_arm role.is_test _ _ (both (expression_events g a).value (expression_events g b).value _ _ _ _ (value_least a (expression_events g a) (expression_counted a) h.0.0) (value_least b (expression_events g b) (expression_counted b) h.0.1) (same_most _))
    form_counted n role (s.binary binary.And a b) h = plain role.use_of _ n.number role.is_arm role.is_test _ _ (both (expression_events g a).value (expression_events g b).value _ _ _ _ (value_least a (expression_events g a) (expression_counted a) h.0.0) (value_least b (expression_events g b) (expression_counted b) h.0.1) (same_most _))
    form_counted n role (s.binary binary.Add a b) h = plain role.use_of _ n.number role.is_arm role.is_test _ _ (both (expression_events g a).value (expression_events g b).value _ _ _ _ (value_least a (expression_events g a) (expression_counted a) h.0.0) (value_least b (expression_events g b) (expression_counted b) h.0.1) (same_most _))
    form_counted n role (s.binary binary.Sub a b) h = plain role.use_of _ n.number role.is_arm role.is_test _ _ (both (expression_events g a).value (expression_events g b).value _ _ _ _ (value_least a (expression_events g a) (expression_counted a) h.0.0) (value_least b (expression_events g b) (expression_counted b) h.0.1) (same_most _))
    form_counted n role (s.binary binary.Mul a b) h = plain role.use_of _ n.number role.is_arm role.is_test _ _ (both (expression_events g a).value (expression_events g b).value _ _ _ _ (value_least a (expression_events g a) (expression_counted a) h.0.0) (value_least b (expression_events g b) (expression_counted b) h.0.1) (same_most _))
    form_counted n role (s.binary binary.Div a b) h = plain role.use_of _ n.number role.is_arm role.is_test _ _ (both (expression_events g a).value (expression_events g b).value _ _ _ _ (value_least a (expression_events g a) (expression_counted a) h.0.0) (value_least b (expression_events g b) (expression_counted b) h.0.1) (same_most _))
    form_counted n role (s.binary binary.Rem a b) h = plain role.use_of _ n.number role.is_arm role.is_test _ _ (both (expression_events g a).value (expression_events g b).value _ _ _ _ (value_least a (expression_events g a) (expression_counted a) h.0.0) (value_least b (expression_events g b) (expression_counted b) h.0.1) (same_most _))
    form_counted n role (s.binary binary.Left a b) h = plain role.use_of _ n.number role.is_arm role.is_test _ _ (both (expression_events g a).value (expression_events g b).value _ _ _ _ (value_least a (expression_events g a) (expression_counted a) h.0.0) (value_least b (expression_events g b) (expression_counted b) h.0.1) (same_most _))
    form_counted n role (s.binary binary.Right a b) h = plain role.use_of _ n.number role.is_arm role.is_test _ _ (both (expression_events g a).value (expression_events g b).value _ _ _ _ (value_least a (expression_events g a) (expression_counted a) h.0.0) (value_least b (expression_events g b) (expression_counted b) h.0.1) (same_most _))
    form_counted n role (s.binary binary.Eq a b) h = compared role.use_of _ n.number role.is_arm role.is_test (replacement g.typing a b) _ _ (both (expression_events g a).value (expression_events g b).value _ _ _ _ (value_least a (expression_events g a) (expression_counted a) h.0.0) (value_least b (expression_events g b) (expression_counted b) h.0.1) (same_most _))
    form_counted n role (s.binary binary.Ne a b) h = compared role.use_of _ n.number role.is_arm role.is_test (replacement g.typing a b) _ _ (both (expression_events g a).value (expression_events g b).value _ _ _ _ (value_least a (expression_events g a) (expression_counted a) h.0.0) (value_least b (expression_events g b) (expression_counted b) h.0.1) (same_most _))
    form_counted n role (s.binary binary.Lt a b) h = compared role.use_of _ n.number role.is_arm role.is_test (replacement g.typing a b) _ _ (both (expression_events g a).value (expression_events g b).value _ _ _ _ (value_least a (expression_events g a) (expression_counted a) h.0.0) (value_least b (expression_events g b) (expression_counted b) h.0.1) (same_most _))
    form_counted n role (s.binary binary.Gt a b) h = compared role.use_of _ n.number role.is_arm role.is_test (replacement g.typing a b) _ _ (both (expression_events g a).value (expression_events g b).value _ _ _ _ (value_least a (expression_events g a) (expression_counted a) h.0.0) (value_least b (expression_events g b) (expression_counted b) h.0.1) (same_most _))
    form_counted n role (s.binary binary.Le a b) h = compared role.use_of _ n.number role.is_arm role.is_test (replacement g.typing a b) _ _ (both (expression_events g a).value (expression_events g b).value _ _ _ _ (value_least a (expression_events g a) (expression_counted a) h.0.0) (value_least b (expression_events g b) (expression_counted b) h.0.1) (same_most _))
    form_counted n role (s.binary binary.Ge a b) h = compared role.use_of _ n.number role.is_arm role.is_test (replacement g.typing a b) _ _ (both (expression_events g a).value (expression_events g b).value _ _ _ _ (value_least a (expression_events g a) (expression_counted a) h.0.0) (value_least b (expression_events g b) (expression_counted b) h.0.1) (same_most _))
    form_counted n role (s.binary binary.Comma a b) h = plain role.use_of _ n.number role.is_arm role.is_test _ 0 (more _ _ (joined w (expression_events g a).value (expression_events g b).value _ _ (value_least a (expression_events g a) (expression_counted a) h.0.0) (value_least b (expression_events g b) (expression_counted b) h.0.1)))
    form_counted n role (s.binary binary.OrElse a b) h = plain role.use_of _ n.number role.is_arm role.is_test _ 0 (more _ _ (joined w (controlled_events a (expression_events g a).value) (entered_events b (expression_events g b).value) _ _ (test_least a (expression_events g a) (expression_counted a) h.0.0) (arm_value_least b (expression_events g b) (expression_counted b) h.0.1)))
    form_counted n role (s.binary binary.AndAlso a b) h = plain role.use_of _ n.number role.is_arm role.is_test _ 0 (more _ _ (joined w (controlled_events a (expression_events g a).value) (entered_events b (expression_events g b).value) _ _ (test_least a (expression_events g a) (expression_counted a) h.0.0) (arm_value_least b (expression_events g b) (expression_counted b) h.0.1)))
    form_counted n role (s.choice a b c) h = plain role.use_of _ n.number role.is_arm role.is_test _ 0
        (more _ _ (joined w (controlled_events a (expression_events g a).value) _ _ _ (test_least a (expression_events g a) (expression_counted a) h.0.0)
        (joined w (entered_events b (expression_events g b).value) (entered_events c (expression_events g c).value) _ _ (arm_value_least b (expression_events g b) (expression_counted b) h.0.1.0) (arm_value_least c (expression_events g c) (expression_counted c) h.0.1.1))))
    form_counted n role (s.assign assign.Plain a b) h = plain role.use_of _ n.number role.is_arm role.is_test _ 0 (more _ _ (exchanged (expression_events g b).value ((expression_events g a).place true) _ _ (value_least b (expression_events g b) (expression_counted b) h.0.1) (place_least a (expression_events g a) (expression_counted a) h.0.0)))
    form_counted n role (s.assign assign.Mul a b) h = plain role.use_of _ n.number role.is_arm role.is_test _ _ (turned ((expression_events g a).place true) (expression_events g b).value _ _ _ _ (least _ _ _ (whole a h.1) (value_least a (expression_events g a) (expression_counted a) h.0.0)) (value_least b (expression_events g b) (expression_counted b) h.0.1) (same_most _))
    form_counted n role (s.assign assign.Div a b) h = plain role.use_of _ n.number role.is_arm role.is_test _ _ (turned ((expression_events g a).place true) (expression_events g b).value _ _ _ _ (least _ _ _ (whole a h.1) (value_least a (expression_events g a) (expression_counted a) h.0.0)) (value_least b (expression_events g b) (expression_counted b) h.0.1) (same_most _))
    form_counted n role (s.assign assign.Rem a b) h = plain role.use_of _ n.number role.is_arm role.is_test _ _ (turned ((expression_events g a).place true) (expression_events g b).value _ _ _ _ (least _ _ _ (whole a h.1) (value_least a (expression_events g a) (expression_counted a) h.0.0)) (value_least b (expression_events g b) (expression_counted b) h.0.1) (same_most _))
    form_counted n role (s.assign assign.Add a b) h = plain role.use_of _ n.number role.is_arm role.is_test _ _ (turned ((expression_events g a).place true) (expression_events g b).value _ _ _ _ (least _ _ _ (whole a h.1) (value_least a (expression_events g a) (expression_counted a) h.0.0)) (value_least b (expression_events g b) (expression_counted b) h.0.1) (same_most _))
    form_counted n role (s.assign assign.Sub a b) h = plain role.use_of _ n.number role.is_arm role.is_test _ _ (turned ((expression_events g a).place true) (expression_events g b).value _ _ _ _ (least _ _ _ (whole a h.1) (value_least a (expression_events g a) (expression_counted a) h.0.0)) (value_least b (expression_events g b) (expression_counted b) h.0.1) (same_most _))
    form_counted n role (s.assign assign.Left a b) h = plain role.use_of _ n.number role.is_arm role.is_test _ _ (turned ((expression_events g a).place true) (expression_events g b).value _ _ _ _ (least _ _ _ (whole a h.1) (value_least a (expression_events g a) (expression_counted a) h.0.0)) (value_least b (expression_events g b) (expression_counted b) h.0.1) (same_most _))
    form_counted n role (s.assign assign.Right a b) h = plain role.use_of _ n.number role.is_arm role.is_test _ _ (turned ((expression_events g a).place true) (expression_events g b).value _ _ _ _ (least _ _ _ (whole a h.1) (value_least a (expression_events g a) (expression_counted a) h.0.0)) (value_least b (expression_events g b) (expression_counted b) h.0.1) (same_most _))
    form_counted n role (s.assign assign.And a b) h = plain role.use_of _ n.number role.is_arm role.is_test _ _ (turned ((expression_events g a).place true) (expression_events g b).value _ _ _ _ (least _ _ _ (whole a h.1) (value_least a (expression_events g a) (expression_counted a) h.0.0)) (value_least b (expression_events g b) (expression_counted b) h.0.1) (same_most _))
    form_counted n role (s.assign assign.Xor a b) h = plain role.use_of _ n.number role.is_arm role.is_test _ _ (turned ((expression_events g a).place true) (expression_events g b).value _ _ _ _ (least _ _ _ (whole a h.1) (value_least a (expression_events g a) (expression_counted a) h.0.0)) (value_least b (expression_events g b) (expression_counted b) h.0.1) (same_most _))
    form_counted n role (s.assign assign.Or a b) h = plain role.use_of _ n.number role.is_arm role.is_test _ _ (turned ((expression_events g a).place true) (expression_events g b).value _ _ _ _ (least _ _ _ (whole a h.1) (value_least a (expression_events g a) (expression_counted a) h.0.0)) (value_least b (expression_events g b) (expression_counted b) h.0.1) (same_most _))

    arguments_counted : (es : ExprTrees) → EachVisit (VisitHasScalarOperand g.typing) (arguments_visits g.typing es) → total w (argument_events g es) ≤ visits_total g w (arguments_visits g.typing es)
    arguments_counted s.no_expressions h = omega arith
    arguments_counted (s.then_expression e es) h = joined w (expression_events g e).value (argument_events g es) _ _ (value_least e (expression_events g e) (expression_counted e) h.0) (arguments_counted es h.1)
