use Rattle.std.proofs.Common.{pos, get_or, true, false, List, sym, ap, subst, ◌∙◌}
use Rattle.stk_tree.specs.View.{view_expression}
use Rattle.stk_tree.specs.Syntax as s
use Rattle.stk_meaning.specs.declared.entry.Entry.{Entry}
use Rattle.stk_meaning.specs.Conditions.{library_tests}
use Rattle.stk_meaning.specs.Expressions.{breaks}
use Rattle.stk_eval_expr.specs.Leaving.{Adds}
use Rattle.stk_eval_expr.proofs.LeavingLaws.{stops_leave}
use Rattle.stk_eval_expr.proofs.Arms.{called_leaves}
use Rattle.stk_eval_expr.proofs.steps.called_number.Goals as goal

pub returns-then-never_returns : goal.returns-then-never_returns
returns-then-never_returns g c = λ es.
    let G = g.W.RunSetting.setting c.args.out.now in
    let e = view_expression c.args.callee.now in
    let xs = c.args.numbers.now in
    let b = breaks G c.args.node true (s.call e es) in
    let t = b (get_or xs 0 (pos 0)) (get_or xs 1 (pos 0)) (get_or xs 2 (pos 0)) in
    let three = c.first_three-x.result in
    let same = ap (λ u. b u three.1 three.2) c.first_three-x.ensures.first ∙ ap (λ u. b (get_or xs 0 (pos 0)) u three.2) c.first_three-x.ensures.second ∙ ap (λ u. b (get_or xs 0 (pos 0)) (get_or xs 1 (pos 0)) u) c.first_three-x.ensures.third in
    let asked = c.library_node_tests-node_tests.ensures ∙ ap library_tests c.library.ensures in
    called_leaves G (g.W.World.world c.args.out.now) c.args.node e es xs t true three.0 c.args.state.now c.check.new.state c.end.new.self
    c.if-never_returns.ensures (subst (λ (u : List Entry). Adds u c.args.state.now c.check.new.state) same (c.in_ok-check.ensures true (s.call e es) (sym asked))) (stops_leave three.0 c.check.new.state c.end.new.self c.end.ensures)

pub returns : goal.returns
returns g c = λ es.
    let G = g.W.RunSetting.setting c.args.out.now in
    let e = view_expression c.args.callee.now in
    let xs = c.args.numbers.now in
    let b = breaks G c.args.node true (s.call e es) in
    let t = b (get_or xs 0 (pos 0)) (get_or xs 1 (pos 0)) (get_or xs 2 (pos 0)) in
    let three = c.first_three-x.result in
    let same = ap (λ u. b u three.1 three.2) c.first_three-x.ensures.first ∙ ap (λ u. b (get_or xs 0 (pos 0)) u three.2) c.first_three-x.ensures.second ∙ ap (λ u. b (get_or xs 0 (pos 0)) (get_or xs 1 (pos 0)) u) c.first_three-x.ensures.third in
    let asked = c.library_node_tests-node_tests.ensures ∙ ap library_tests c.library.ensures in
    called_leaves G (g.W.World.world c.args.out.now) c.args.node e es xs t false c.in_ok-v.v c.args.state.now c.check.new.state c.returned_number.new.state
    c.if-never_returns.ensures (subst (λ (u : List Entry). Adds u c.args.state.now c.check.new.state) same (c.in_ok-check.ensures true (s.call e es) (sym asked))) (c.in_ok-v.ensures xs c.first_three-x.ensures.first)
