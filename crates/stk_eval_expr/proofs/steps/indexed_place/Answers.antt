use Rattle.std.proofs.Common.{pos, false, sym, ap, ◌∙◌}
use Rattle.stk_tree.specs.View.{view_expression}
use Rattle.stk_tree.specs.Syntax as s
use Rattle.stk_numbers.specs.Values.{moved}
use Rattle.stk_meaning.specs.Typings.{type_in, stride_in}
use Rattle.stk_meaning.specs.Operations.{to_address}
use Rattle.stk_meaning.specs.Conditions.{index_tests}
use Rattle.stk_meaning.specs.Expressions.{breaks}
use Rattle.stk_eval_expr.proofs.LeavingLaws.{adds_value}
use Rattle.stk_eval_expr.proofs.steps.indexed_place.Goals as goal

pub returns : goal.returns
returns g c = λ right.
    let left = view_expression c.args.left.now in
    let f = s.index left right in
    let ty = (g.W.RunSetting.setting c.args.out.now).typing in
    let b = breaks (g.W.RunSetting.setting c.args.out.now) c.args.node c.args.accessed f c.args.numbers.0 c.args.numbers.1 in
    let asked = c.index_node_tests-node_tests.ensures ∙ ap (λ n. index_tests c.args.accessed (ty.type_at n) (stride_in ty (ty.type_at n))) c.node_of-at.ensures in
    let size = c.stride_at.ensures ∙ ap (λ n. stride_in ty (ty.type_at n)) c.node_of-at.ensures in
    adds_value (b (pos 0)) (b c.bit.result) (moved (to_address c.args.numbers.0) c.args.numbers.1 (stride_in ty (type_in ty left)) false) c.moved_address.result c.args.state.now c.check.new.state
    (ap b c.bit.ensures) (c.in_ok-check.ensures c.args.accessed f (sym asked)) (c.moved_address.ensures ∙ ap (λ u. moved (to_address c.args.numbers.0) c.args.numbers.1 u false) size)
