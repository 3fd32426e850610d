use Rattle.std.proofs.Common.{◌≡◌, ℕ, negsuc, ◌-ℤ◌, ◌+◌, ◌++◌, ◌∷◌, [], List, ℤ, true, false, not, pos, Some, None, map, drop, sym, ap, subst, ◌∙◌, refl, append_assoc, arith, option_map}
use Rattle.std.proofs.lemmas.List.{append-nil, drop_all}
use Rattle.stk_ctype.specs.Types.{TypeTrees, type_of, row_of}
use Rattle.stk_tree.specs.View.{view_expression, expressions}
use Rattle.stk_tree.specs.declared.expression.UnaryOp.TheVariants as unary
use Rattle.stk_tree.specs.Syntax as s
use Rattle.stk_tree.specs.Syntax.{ExprTree, ExprFormTree}
use Rattle.stk_tree.specs.Parts.{bare}
use Rattle.std.proofs.lemmas.Result.{IfOk-weaker}
use Rattle.stk_numbers.specs.Kinds.{wrap, promote}
use Rattle.stk_meaning.specs.declared.entry.Entry.TheVariants.{Enter}
use Rattle.stk_meaning.specs.Typings.{type_in, node_of, converted, number_kind, is_array}
use Rattle.stk_meaning.specs.Operations.{Operation, BinarySort, operates, and_also, comparing, sort_of, operation_of, operation_tests, assigned_operator, to_address, truth, bit}
use Rattle.stk_meaning.specs.Libraries.{called_signature, parameters_in}
use Rattle.stk_meaning.specs.Conditions.{form_tests, binary_tests, assigned_tests}
use Rattle.stk_meaning.specs.Replacements.{replacement}
use Rattle.stk_meaning.specs.Places.{Target, target_of, unnamed}
use Rattle.stk_meaning.specs.Worlds.{Ran, and_then, gives, Went}
use Rattle.stk_meaning.specs.Expressions.{Sides, meaning, seen, breaks, binary_meaning, arguments_values, right_operand, branch_value, indexed_from, assigned_value}
use Rattle.stk_operators.specs.Shown.{operator_shown, sort_shown, operation_shown}
use Rattle.stk_operators.specs.Targets.{target_shown}
use Rattle.stk_eval_expr.specs.Shown.{sides_shown}
use Rattle.stk_eval_expr.specs.Leaving.{Leaves, Adds, from, value_run, place_run, test_run}
use Rattle.stk_eval_expr.specs.Parts.{place_end, step_end, call_end, plain_end, compound_end}
use Rattle.stk_eval_expr.proofs.LeavingLaws.{then_leaves, after_leaves, adds_leaves, value_leaves, same_leaves}
use Rattle.stk_eval_expr.proofs.Arms.{operated_sides, compared_leaves, plain_leaves, compound_leaves, placed_leaves, chosen_leaves, argument_leaves, next_of, one_value}
use Rattle.stk_eval_expr.proofs.Alone.{sides_alone}
use Rattle.stk_eval_expr.proofs.Views.{at_dot, at_cast, at_step, at_choice, at_call, at_arrow, at_index}
use Rattle.stk_eval_expr.proofs.expressions.+expression.Goals as goal

pub assigned_value-returns-in-None : goal.assigned_value-returns-in-None
assigned_value-returns-in-None g t c =
    let G = g.W.RunSetting.setting c.args.out.now in
    let W = g.W.World.world c.args.out.now in
    let shown = g.W.World.shown in
    let a = view_expression c.args.a.now in
    let b = view_expression c.args.b.now in
    let y = c.in_ok-n.n in
    let place = c.in_ok-address.address in
    let s2 = c.place.new.state in
    let s3 = c.assigned_number.new.state in
    let none : None ≡ assigned_operator c.args.op = sym (ap (option_map operator_shown) c.in-None.is) ∙ c.assigned_operator.ensures in
    IfOk-weaker c.assigned_number.result (λ v. Leaves shown (plain_end G W a y place s2.registers.items (shown s2.kept)) v s2 s3) _
    (λ v h. plain_leaves G W c.args.k c.args.op a b (assigned_operator c.args.op) (meaning G W a) (meaning G W b) y place v c.args.state.now c.value.new.state s2 s3 none c.in_ok-n.ensures c.in_ok-address.ensures h)
    c.assigned_number.ensures

pub assigned_value-returns-in-Some : goal.assigned_value-returns-in-Some
assigned_value-returns-in-Some g t c =
    let G = g.W.RunSetting.setting c.args.out.now in
    let W = g.W.World.world c.args.out.now in
    let shown = g.W.World.shown in
    let a = view_expression c.args.a.now in
    let b = view_expression c.args.b.now in
    let A = meaning G W a in
    let B = meaning G W b in
    let k = c.args.k in
    let op = c.args.op in
    let f = s.assign op a b in
    let how = operator_shown c.in-Some.how in
    let ta = type_in G.typing a in
    let tb = type_in G.typing b in
    let some : Some how ≡ assigned_operator op = sym (ap (option_map operator_shown) c.in-Some.is) ∙ c.assigned_operator.ensures in
    let o = operation_of G.typing how ta tb in
    let p = operation_shown c.operation-operation.result in
    let same : p ≡ o = c.operation-operation.ensures ∙ ap (λ n. operation_of G.typing how (G.typing.type_at n) (G.typing.type_at c.node_of-in-Some.result)) c.node_of.ensures ∙ ap (λ n. operation_of G.typing how ta (G.typing.type_at n)) c.node_of-in-Some.ensures in
    let y = c.in_ok-n.n in
    let place = c.in_ok-address.address in
    let s2 = c.place.new.state in
    let s3 = c.compound_number.new.state in
    let asked = ap (λ u. assigned_tests G.typing u ta tb) (sym some) ∙ ap operation_tests (sym same) in
    IfOk-weaker c.compound_number.result (λ v. (f : ExprFormTree) → form_tests G.typing true f ≡ operation_tests p → Leaves shown (compound_end G W k f p a y place s2.registers.items (shown s2.kept)) v s2 s3) _
    (λ v h. compound_leaves G W k op a b (assigned_operator op) how f o A B y place v c.args.state.now c.value.new.state s2 s3
    some (assigned_value G W k op a b (Some how) A B) refl refl c.in_ok-n.ensures c.in_ok-address.ensures
    (subst (λ (u : Operation). Leaves shown (compound_end G W k f u a y place s2.registers.items (shown s2.kept)) v s2 s3) same (h f asked)))
    c.compound_number.ensures

pub binary_value-returns-in_ok-n-in-Operates-Comparing : goal.binary_value-returns-in_ok-n-in-Operates-Comparing
binary_value-returns-in_ok-n-in-Operates-Comparing g t c =
    let G = g.W.RunSetting.setting c.args.out.now in
    let W = g.W.World.world c.args.out.now in
    let shown = g.W.World.shown in
    let a = view_expression c.args.a.now in
    let b = view_expression c.args.b.now in
    let how = c.in-Operates-Comparing.how in
    let sort : sort_of c.args.op ≡ operates (comparing how) = sym c.sort_of.ensures ∙ ap sort_shown c.in-Operates-Comparing.is ∙ ap (λ u. operates (operator_shown u)) c.in-Operates-Comparing.field-0-is in
    let x = sides_shown c.in_ok-x-in-Operates-Comparing.x in
    let y = sides_shown c.in_ok-y-in-Operates-Comparing.y in
    let n = c.in_ok-n-in-Operates-Comparing.n in
    subst (λ (u : BinarySort). Leaves shown (from shown (binary_meaning G c.args.k c.args.op a b u (meaning G W a) (meaning G W b)).value c.args.state.now) n c.args.state.now c.compared_number.new.state) (sym sort)
    (compared_leaves G c.args.k how (operation_of G.typing (comparing how) (type_in G.typing a) (type_in G.typing b)) (replacement G.typing a b) (meaning G W a) (meaning G W b) x y n c.args.state.now c.sides.new.state c.sides-in-Operates-Comparing.new.state c.compared_number.new.state
    c.in_ok-x-in-Operates-Comparing.ensures c.in_ok-y-in-Operates-Comparing.ensures c.in_ok-n-in-Operates-Comparing.ensures)

pub operator_sides-returns : goal.operator_sides-returns
operator_sides-returns g t c =
    let G = g.W.RunSetting.setting c.args.out.now in
    let W = g.W.World.world c.args.out.now in
    let shown = g.W.World.shown in
    let a = view_expression c.args.a.now in
    let b = view_expression c.args.b.now in
    let f = s.binary c.args.op a b in
    let how = operator_shown c.args.how in
    let o = operation_of G.typing how (type_in G.typing a) (type_in G.typing b) in
    let p = operation_shown c.operation-operation.result in
    let same : p ≡ o = c.operation-operation.ensures ∙ ap (λ n. operation_of G.typing how (G.typing.type_at n) (G.typing.type_at c.node_of-2.result)) c.node_of.ensures ∙ ap (λ n. operation_of G.typing how (type_in G.typing a) (G.typing.type_at n)) c.node_of-2.ensures in
    operated_sides G c.args.k f o p (meaning G W a) (meaning G W b) c.in_ok-left.left c.in_ok-right.right c.in_ok-number.number c.args.state.now c.value.new.state c.value-2.new.state c.operated_number.new.state
    same c.in_ok-left.ensures c.in_ok-right.ensures (c.in_ok-number.ensures f (ap (λ u. binary_tests G.typing u (type_in G.typing a) (type_in G.typing b)) c.requires ∙ ap operation_tests (sym same)))

pub place-returns-in_ok-address-in-Arrow : goal.place-returns-in_ok-address-in-Arrow
place-returns-in_ok-address-in-Arrow g t c =
    let G = g.W.RunSetting.setting c.args.out.now in
    let W = g.W.World.world c.args.out.now in
    let shown = g.W.World.shown in
    let e = view_expression c.get-x-in-Arrow.result.now in
    rw (at_arrow c.args.e.now c.in-Arrow.x c.in-Arrow.name c.in-Arrow.is, ← c.get-x-in-Arrow.ensures)
    (then_leaves (value_run shown G W e c.args.state.now) _ c.in_ok-n-in-Arrow.n c.in_ok-address-in-Arrow.address c.args.state.now c.value.new.state c.arrow_place.new.state c.in_ok-n-in-Arrow.ensures c.in_ok-address-in-Arrow.ensures)

pub place-returns-in_ok-address-in-Index : goal.place-returns-in_ok-address-in-Index
place-returns-in_ok-address-in-Index g t c =
    let G = g.W.RunSetting.setting c.args.out.now in
    let W = g.W.World.world c.args.out.now in
    let shown = g.W.World.shown in
    let a = view_expression c.get-a.result.now in
    let b = view_expression c.get-in-Index.result.now in
    rw (at_index c.args.e.now c.in-Index.a c.in-Index.b c.in-Index.is, ← c.get-a.ensures, ← c.get-in-Index.ensures)
    (then_leaves (from shown (indexed_from (type_in G.typing a) c.args.accessed (meaning G W a)) c.args.state.now) _ c.in_ok-x-in-Index.x c.in_ok-address-in-Index.address c.args.state.now c.indexed.new.state c.indexed_place.new.state c.in_ok-x-in-Index.ensures
    (then_leaves (value_run shown G W b c.indexed.new.state) _ c.in_ok-y-in-Index.y c.in_ok-address-in-Index.address c.indexed.new.state c.value-in-Index.new.state c.indexed_place.new.state c.in_ok-y-in-Index.ensures (c.in_ok-address-in-Index.ensures b)))

pub sides-returns-in_ok-n-in-Name : goal.sides-returns-in_ok-n-in-Name
sides-returns-in_ok-n-in-Name g t c =
    let G = g.W.RunSetting.setting c.args.out.now in
    let W = g.W.World.world c.args.out.now in
    let shown = g.W.World.shown in
    let e = view_expression c.args.e.now in
    let s0 = c.args.state.now in
    let s1 = c.value.new.state in
    let v = sides_shown c.alone.result in
    subst (λ (u : List ℤ → g.W.World.Shown → Ran Sides g.W.World.Shown). Leaves shown (from shown u s0) v s0 s1) (sym (sides_alone G W c.args.e.now c.in-Name.is))
    (one_value (value_run shown G W e s0) (λ x. record { number = x; left = pos 0; right = pos 0 }) c.in_ok-n-in-Name.n v s0 s1 c.alone.ensures c.in_ok-n-in-Name.ensures)

pub unary_place-returns-in_ok-address-in-Deref : goal.unary_place-returns-in_ok-address-in-Deref
unary_place-returns-in_ok-address-in-Deref g t c =
    let G = g.W.RunSetting.setting c.args.out.now in
    let W = g.W.World.world c.args.out.now in
    let shown = g.W.World.shown in
    let e = view_expression c.args.e.now in
    rw c.in-Deref.is
    (then_leaves (value_run shown G W e c.args.state.now) _ c.in_ok-n-in-Deref.n c.in_ok-address-in-Deref.address c.args.state.now c.value.new.state c.target_place.new.state c.in_ok-n-in-Deref.ensures (c.in_ok-address-in-Deref.ensures e))

pub unary_value-returns-in_ok-address-in-Deref : goal.unary_value-returns-in_ok-address-in-Deref
unary_value-returns-in_ok-address-in-Deref g t c =
    let G = g.W.RunSetting.setting c.args.out.now in
    let W = g.W.World.world c.args.out.now in
    let shown = g.W.World.shown in
    let e = view_expression c.args.e.now in
    let f = s.unary unary.Deref e in
    let k = c.args.k in
    let b = not c.is_array_at.result in
    rw c.in-Deref.is
    (placed_leaves G W k unnamed (λ b r m. and_then ((meaning G W e).value r m) (λ x r m. Went (to_address x) r m (breaks G k b f x (pos 0) (pos 0)))) b c.in_ok-address-in-Deref.address c.place_number.result c.args.state.now c.target_place.new.state c.place_number.new.state
    (ap not c.is_array_at.ensures)
    (then_leaves (value_run shown G W e c.args.state.now) (λ x r m. Went (to_address x) r m (breaks G k b f x (pos 0) (pos 0))) c.in_ok-n-in-Deref.n c.in_ok-address-in-Deref.address c.args.state.now c.value.new.state c.target_place.new.state c.in_ok-n-in-Deref.ensures (c.in_ok-address-in-Deref.ensures e))
    c.place_number.ensures)

pub value-returns-in_ok-n-in-Cast : goal.value-returns-in_ok-n-in-Cast
value-returns-in_ok-n-in-Cast g t c =
    let G = g.W.RunSetting.setting c.args.out.now in
    let W = g.W.World.world c.args.out.now in
    let shown = g.W.World.shown in
    let x = view_expression c.get-in-Cast.result.now in
    let n = c.in_ok-n-in-Cast.n in
    rw (at_cast c.args.e.now c.in-Cast.field-0 c.in-Cast.x c.in-Cast.is, ← c.get-in-Cast.ensures)
    (one_value (value_run shown G W x c.args.state.now) (λ z. converted (G.typing.type_at c.args.e.now.node.number) z) n c.to_kind.result c.args.state.now c.value-in-Cast.new.state (c.to_kind.ensures ∙ ap (λ u. wrap u n) c.kind_at.ensures) c.in_ok-n-in-Cast.ensures)

pub value-returns-in_ok-n-in-Step : goal.value-returns-in_ok-n-in-Step
value-returns-in_ok-n-in-Step g t c =
    let G = g.W.RunSetting.setting c.args.out.now in
    let W = g.W.World.world c.args.out.now in
    let shown = g.W.World.shown in
    let x = view_expression c.get-x.result.now in
    rw (at_step c.args.e.now c.in-Step.op c.in-Step.x c.in-Step.is, ← c.get-x.ensures)
    (then_leaves (place_run shown G W x true c.args.state.now) (step_end G W c.args.e.now.node.number c.in-Step.op x) c.in_ok-address-in-Step.address c.in_ok-n-in-Step.n c.args.state.now c.place.new.state c.stepped_number.new.state c.in_ok-address-in-Step.ensures c.in_ok-n-in-Step.ensures)

pub value-returns-then-is_true : goal.value-returns-then-is_true
value-returns-then-is_true g t c =
    let G = g.W.RunSetting.setting c.args.out.now in
    let W = g.W.World.world c.args.out.now in
    let shown = g.W.World.shown in
    let k = c.args.e.now.node.number in
    let ty = G.typing.type_at k in
    let a = view_expression c.get-in-Choice.result.now in
    let chosen = view_expression c.get-then-is_true.result.now in
    let first = chosen in
    let second = view_expression c.in-Choice.c in
    let s0 = c.args.state.now in
    let s1 = c.tested.new.state in
    let s2 = c.branch-out.new.state in
    rw (at_choice c.args.e.now c.in-Choice.a c.in-Choice.b c.in-Choice.c c.in-Choice.is, ← c.get-in-Choice.ensures, ← c.get-then-is_true.ensures)
    (IfOk-weaker c.branch-out.result (λ v. Leaves shown (from shown (branch_value ty (node_of chosen) (meaning G W chosen)) s1) v s1 s2) _
    (λ v h. chosen_leaves (test_run shown G W a s0) (branch_value ty (node_of first) (meaning G W first)) (branch_value ty (node_of second) (meaning G W second)) c.in_ok-n-in-Choice.n true v s0 s1 s2 c.if-is_true.ensures c.in_ok-n-in-Choice.ensures h)
    c.branch-out.ensures)

pub value-returns-else-is_true : goal.value-returns-else-is_true
value-returns-else-is_true g t c =
    let G = g.W.RunSetting.setting c.args.out.now in
    let W = g.W.World.world c.args.out.now in
    let shown = g.W.World.shown in
    let k = c.args.e.now.node.number in
    let ty = G.typing.type_at k in
    let a = view_expression c.get-in-Choice.result.now in
    let chosen = view_expression c.get-else-is_true.result.now in
    let first = view_expression c.in-Choice.b in
    let second = chosen in
    let s0 = c.args.state.now in
    let s1 = c.tested.new.state in
    let s2 = c.branch-out-else-is_true.new.state in
    rw (at_choice c.args.e.now c.in-Choice.a c.in-Choice.b c.in-Choice.c c.in-Choice.is, ← c.get-in-Choice.ensures, ← c.get-else-is_true.ensures)
    (IfOk-weaker c.branch-out-else-is_true.result (λ v. Leaves shown (from shown (branch_value ty (node_of chosen) (meaning G W chosen)) s1) v s1 s2) _
    (λ v h. chosen_leaves (test_run shown G W a s0) (branch_value ty (node_of first) (meaning G W first)) (branch_value ty (node_of second) (meaning G W second)) c.in_ok-n-in-Choice.n false v s0 s1 s2 c.if-is_true.ensures c.in_ok-n-in-Choice.ensures h)
    c.branch-out-else-is_true.ensures)

pub value-returns-in_ok-n-in-Call : goal.value-returns-in_ok-n-in-Call
value-returns-in_ok-n-in-Call g t c =
    let G = g.W.RunSetting.setting c.args.out.now in
    let W = g.W.World.world c.args.out.now in
    let shown = g.W.World.shown in
    let k = c.args.e.now.node.number in
    let f = view_expression c.get-in-Call.result.now in
    let es = expressions (map view_expression c.as_slice.result.now) in
    let ts = parameters_in (called_signature G.typing f) in
    let xs = c.in_ok-numbers-in-Call.numbers.items in
    let n = c.in_ok-n-in-Call.n in
    let s0 = c.args.state.now in
    let s1 = c.arguments.new.state in
    let s2 = c.called_number.new.state in
    let given = subst (λ (u : TypeTrees). Leaves shown (from shown (arguments_values G W u es) s0) xs s0 s1) c.parameters-params.ensures c.in_ok-numbers-in-Call.ensures in
    let same : view_expression c.get-in-Call-2.result.now ≡ f = ap view_expression (c.get-in-Call-2.ensures ∙ sym c.get-in-Call.ensures) in
    let called = subst (λ (u : ExprTree). Leaves shown (call_end G W k u es c.as_slice-in-Call.result.now s1.registers.items (shown s1.kept)) n s1 s2) same (c.in_ok-n-in-Call.ensures es) in
    let called_on = subst (λ (u : List ℤ). Leaves shown (call_end G W k f es u s1.registers.items (shown s1.kept)) n s1 s2) c.as_slice-in-Call.ensures.value called in
    rw (at_call c.args.e.now c.in-Call.f c.in-Call.list c.in-Call.is, ← c.get-in-Call.ensures, ← c.as_slice.ensures)
    (then_leaves (from shown (arguments_values G W ts es) s0) (call_end G W k f es) xs n s0 s1 s2 given called_on)

pub arguments-loop-e-preserved : goal.arguments-loop-e-preserved
arguments-loop-e-preserved g t c =
    λ xs now h.
    let G = g.W.RunSetting.setting c.args.out.now in
    let W = g.W.World.world c.args.out.now in
    let shown = g.W.World.shown in
    let step = next_of c.args.list.now c.loop-e.e-index c.e-item.result c.loop-e-test.true c.e-item.is in
    let e = view_expression c.e-item.result in
    let es = expressions (map view_expression (drop (c.loop-e.e-index + 1) c.args.list.now)) in
    let ts = row_of (map type_of c.loop-e.rest.now) in
    let us = row_of (map type_of c.passed-n.result.1.now) in
    let n = c.passed-n.result.0 in
    let whole = c.loop-e.invariant (n ∷ xs) now
    (rw step (argument_leaves G W ts us e es (meaning G W e).value c.in_ok-n.n n xs c.loop-e.state c.value.new.state now c.passed-n.ensures.number c.passed-n.ensures.behind c.in_ok-n.ensures h)) in
    let items : c.push.new.self.items ++ xs ≡ c.loop-e.numbers.items ++ (n ∷ xs) = ap (λ (u : List ℤ). u ++ xs) c.in_ok-push.ensures.items ∙ append_assoc c.loop-e.numbers.items (n ∷ []) xs in
    same_leaves (from shown (arguments_values G W (row_of (map type_of c.args.params.now)) (expressions (map view_expression c.args.list.now))) c.args.state.now) (c.loop-e.numbers.items ++ (n ∷ xs)) (c.push.new.self.items ++ xs) c.args.state.now now (sym items) whole

pub arguments-returns : goal.arguments-returns
arguments-returns g t c =
    let G = g.W.RunSetting.setting c.args.out.now in
    let W = g.W.World.world c.args.out.now in
    let shown = g.W.World.shown in
    let R = from shown (arguments_values G W (row_of (map type_of c.args.params.now)) (expressions (map view_expression c.args.list.now))) c.args.state.now in
    let none : drop c.loop-e.e-index c.args.list.now ≡ [] = drop_all c.loop-e.e-index c.args.list.now (omega arith) in
    same_leaves R (c.loop-e.numbers.items ++ []) c.loop-e.numbers.items c.args.state.now c.loop-e.state (append-nil c.loop-e.numbers.items)
    (c.loop-e.invariant [] c.loop-e.state (rw none (value_leaves [] [] c.loop-e.state refl)))

pub tested-returns : goal.tested-returns
tested-returns g t c =
    let G = g.W.RunSetting.setting c.args.out.now in
    let W = g.W.World.world c.args.out.now in
    let shown = g.W.World.shown in
    let e = view_expression c.args.e.now in
    let n = c.in_ok-n.n in
    let s0 = c.args.state.now in
    let s1 = c.value.new.state in
    let s2 = c.see.new.state in
    then_leaves (value_run shown G W e s0) (λ x r m. Went x r m (seen (bare e) x)) n n s0 s1 s2 c.in_ok-n.ensures (adds_leaves (seen (bare e) n) n n s1 s2 c.in_ok-see.ensures refl)

pub right_operand-returns : goal.right_operand-returns
right_operand-returns g t c =
    let G = g.W.RunSetting.setting c.args.out.now in
    let W = g.W.World.world c.args.out.now in
    let shown = g.W.World.shown in
    let e = view_expression c.args.e.now in
    let n = c.in_ok-n.n in
    let v = c.bit.result in
    let s0 = c.args.state.now in
    let s1 = c.push.new.self in
    let s2 = c.value.new.state in
    let adds = subst (λ (k : ℕ). Adds (Enter k ∷ []) s0 s1) c.node_of.ensures c.in_ok-push.ensures in
    after_leaves (Enter (node_of e) ∷ []) (λ r m. and_then ((meaning G W e).value r m) (λ y. gives (bit (truth y)))) v s0 s1 s2 adds
    (one_value (value_run shown G W e s1) (λ y. bit (truth y)) n v s1 s2 (c.bit.ensures ∙ ap bit c.is_true.ensures) c.in_ok-n.ensures)

pub branch-returns : goal.branch-returns
branch-returns g t c =
    let G = g.W.RunSetting.setting c.args.out.now in
    let W = g.W.World.world c.args.out.now in
    let shown = g.W.World.shown in
    let e = view_expression c.args.e.now in
    let n = c.in_ok-n.n in
    let v = c.to_kind.result in
    let s0 = c.args.state.now in
    let s1 = c.push.new.self in
    let s2 = c.value.new.state in
    let adds = subst (λ (k : ℕ). Adds (Enter k ∷ []) s0 s1) c.node_of.ensures c.in_ok-push.ensures in
    after_leaves (Enter (node_of e) ∷ []) (λ r m. and_then ((meaning G W e).value r m) (λ y. gives (converted (G.typing.type_at c.args.k) y))) v s0 s1 s2 adds
    (one_value (value_run shown G W e s1) (λ y. converted (G.typing.type_at c.args.k) y) n v s1 s2 (c.to_kind.ensures ∙ ap (λ u. wrap u n) c.kind_at.ensures) c.in_ok-n.ensures)

pub place-returns-in_ok-address-in-Dot : goal.place-returns-in_ok-address-in-Dot
place-returns-in_ok-address-in-Dot g t c =
    let G = g.W.RunSetting.setting c.args.out.now in
    let W = g.W.World.world c.args.out.now in
    let shown = g.W.World.shown in
    let x = view_expression c.get-x.result.now in
    let name = c.in-Dot.name in
    let a = c.in_ok-address-in-Dot.address in
    rw (at_dot c.args.e.now c.in-Dot.x name c.in-Dot.is, ← c.get-x.ensures)
    (one_value (place_run shown G W x c.args.accessed c.args.state.now) (λ a. to_address (pos (a + G.typing.offset_of (type_in G.typing x) name))) a c.member_place.result c.args.state.now c.place-in-Dot.new.state
    (c.member_place.ensures ∙ ap (λ n. to_address (pos (a + G.typing.offset_of (G.typing.type_at n) name))) c.node_of.ensures) c.in_ok-address-in-Dot.ensures)

pub place_value-returns : goal.place_value-returns
place_value-returns g t c =
    let G = g.W.RunSetting.setting c.args.out.now in
    let W = g.W.World.world c.args.out.now in
    let shown = g.W.World.shown in
    let e = view_expression c.args.e.now in
    let k = node_of e in
    let a = c.in_ok-address.address in
    let v = c.place_number.result in
    let s1 = c.place.new.state in
    let s2 = c.place_number.new.state in
    let q = subst (λ (n : ℕ). Leaves shown (place_end G W n (target_shown c.target_of.result) a s1.registers.items (shown s1.kept)) v s1 s2) c.node_of-k.ensures c.place_number.ensures in
    let read = subst (λ (u : Target). Leaves shown (place_end G W k u a s1.registers.items (shown s1.kept)) v s1 s2) c.target_of.ensures q in
    placed_leaves G W k (target_of G e) (meaning G W e).place (not c.is_array_at.result) a v c.args.state.now s1 s2
    (ap not (c.is_array_at.ensures ∙ ap (λ n. is_array (G.typing.type_at n)) c.node_of-k.ensures)) c.in_ok-address.ensures read

pub unary_value-returns-in_ok-n-in-Plus : goal.unary_value-returns-in_ok-n-in-Plus
unary_value-returns-in_ok-n-in-Plus g t c =
    let G = g.W.RunSetting.setting c.args.out.now in
    let W = g.W.World.world c.args.out.now in
    let shown = g.W.World.shown in
    let e = view_expression c.args.e.now in
    let n = c.in_ok-n-in-Plus.n in
    let s0 = c.args.state.now in
    rw c.in-Plus.is
    (one_value (value_run shown G W e s0) (λ x. converted (G.typing.type_at c.args.k) x) n c.to_kind.result s0 c.value-in-Plus.new.state (c.to_kind.ensures ∙ ap (λ u. wrap u n) c.kind_at.ensures) c.in_ok-n-in-Plus.ensures)

pub unary_value-returns-in_ok-n-in-Minus-2 : goal.unary_value-returns-in_ok-n-in-Minus-2
unary_value-returns-in_ok-n-in-Minus-2 g t c =
    let G = g.W.RunSetting.setting c.args.out.now in
    let W = g.W.World.world c.args.out.now in
    let shown = g.W.World.shown in
    let e = view_expression c.args.e.now in
    let s0 = c.args.state.now in
    rw c.in-Minus.is
    (then_leaves (value_run shown G W e s0) _ c.in_ok-n-in-Minus.n c.in_ok-n-in-Minus-2.n s0 c.value-in-Minus.new.state c.negated_number.new.state c.in_ok-n-in-Minus.ensures c.in_ok-n-in-Minus-2.ensures)

pub unary_value-returns-in_ok-n-in-Flip : goal.unary_value-returns-in_ok-n-in-Flip
unary_value-returns-in_ok-n-in-Flip g t c =
    let G = g.W.RunSetting.setting c.args.out.now in
    let W = g.W.World.world c.args.out.now in
    let shown = g.W.World.shown in
    let e = view_expression c.args.e.now in
    let n = c.in_ok-n-in-Flip.n in
    let s0 = c.args.state.now in
    let kind_is = c.promote.ensures ∙ ap promote (c.kind_at-in-Flip.ensures ∙ ap (λ k. number_kind (G.typing.type_at k)) c.node_of.ensures) in
    rw c.in-Flip.is
    (one_value (value_run shown G W e s0) (λ x. wrap (promote (number_kind (type_in G.typing e))) (negsuc 0 -ℤ x)) n c.flipped.result s0 c.value-in-Flip.new.state (c.flipped.ensures ∙ ap (λ u. wrap u (negsuc 0 -ℤ n)) kind_is) c.in_ok-n-in-Flip.ensures)

pub unary_value-returns-in_ok-n-in-Not : goal.unary_value-returns-in_ok-n-in-Not
unary_value-returns-in_ok-n-in-Not g t c =
    let G = g.W.RunSetting.setting c.args.out.now in
    let W = g.W.World.world c.args.out.now in
    let shown = g.W.World.shown in
    let e = view_expression c.args.e.now in
    let n = c.in_ok-n-in-Not.n in
    let s0 = c.args.state.now in
    rw c.in-Not.is
    (one_value (value_run shown G W e s0) (λ x. bit (not (truth x))) n c.bit.result s0 c.value-in-Not.new.state (c.bit.ensures ∙ ap (λ b. bit (not b)) c.is_true.ensures) c.in_ok-n-in-Not.ensures)

pub binary_value-returns-then-is_true-2 : goal.binary_value-returns-then-is_true-2
binary_value-returns-then-is_true-2 g t c =
    let G = g.W.RunSetting.setting c.args.out.now in
    let W = g.W.World.world c.args.out.now in
    let shown = g.W.World.shown in
    let a = view_expression c.args.a.now in
    let b = view_expression c.args.b.now in
    let n = c.in_ok-n-in-AndAlso.n in
    let s0 = c.args.state.now in
    let s1 = c.tested-in-AndAlso.new.state in
    let s2 = c.right_operand-then-is_true-2.new.state in
    let sort : sort_of c.args.op ≡ and_also = sym c.sort_of.ensures ∙ ap sort_shown c.in-AndAlso.is in
    IfOk-weaker c.right_operand-then-is_true-2.result (λ v. Leaves shown (from shown (right_operand (node_of b) (meaning G W b)) s1) v s1 s2) _
    (λ v h. subst (λ (u : BinarySort). Leaves shown (from shown (binary_meaning G c.args.k c.args.op a b u (meaning G W a) (meaning G W b)).value s0) v s0 s2) (sym sort)
    (chosen_leaves (test_run shown G W a s0) (right_operand (node_of b) (meaning G W b)) (gives (pos 0)) n true v s0 s1 s2 c.if-is_true-2.ensures c.in_ok-n-in-AndAlso.ensures h))
    c.right_operand-then-is_true-2.ensures

pub binary_value-returns-else-is_true-2 : goal.binary_value-returns-else-is_true-2
binary_value-returns-else-is_true-2 g t c =
    let G = g.W.RunSetting.setting c.args.out.now in
    let W = g.W.World.world c.args.out.now in
    let shown = g.W.World.shown in
    let a = view_expression c.args.a.now in
    let b = view_expression c.args.b.now in
    let n = c.in_ok-n-in-AndAlso.n in
    let v = c.bit-else-is_true-2.result in
    let s0 = c.args.state.now in
    let s1 = c.tested-in-AndAlso.new.state in
    let sort : sort_of c.args.op ≡ and_also = sym c.sort_of.ensures ∙ ap sort_shown c.in-AndAlso.is in
    subst (λ (u : BinarySort). Leaves shown (from shown (binary_meaning G c.args.k c.args.op a b u (meaning G W a) (meaning G W b)).value s0) v s0 s1) (sym sort)
    (chosen_leaves (test_run shown G W a s0) (right_operand (node_of b) (meaning G W b)) (gives (pos 0)) n false v s0 s1 s1 c.if-is_true-2.ensures c.in_ok-n-in-AndAlso.ensures (value_leaves (pos 0) v s1 c.bit-else-is_true-2.ensures))
