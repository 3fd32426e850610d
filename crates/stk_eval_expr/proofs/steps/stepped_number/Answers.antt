use Rattle.std.proofs.Common.{sym, ap, ◌∙◌}
use Rattle.stk_tree.specs.View.{view_expression}
use Rattle.stk_tree.specs.Syntax as s
use Rattle.stk_numbers.specs.Kinds.{wrap}
use Rattle.stk_meaning.specs.Typings.{number_kind}
use Rattle.stk_meaning.specs.Operations.{operation_tests, step_operation}
use Rattle.stk_operators.specs.Shown.{operation_shown}
use Rattle.stk_eval_expr.proofs.Ending.{stepped}
use Rattle.stk_eval_expr.proofs.steps.stepped_number.Goals as goal

pub returns : goal.returns
returns g c =
    let G = g.W.RunSetting.setting c.args.out.now in
    let W = g.W.World.world c.args.out.now in
    let op = c.args.op in
    let e = view_expression c.args.e.now in
    let n = c.in_ok-number.number in
    let y = c.to_kind-y.result in
    let kind_is = c.kind_at.ensures ∙ ap (λ k. number_kind (G.typing.type_at k)) c.node_of-2.ensures in
    let o_is = c.step_operation-operation.ensures ∙ ap (λ k. step_operation G.typing op (G.typing.type_at k)) c.node_of.ensures in
    stepped G W c.args.node op e c.args.address (operation_shown c.step_operation-operation.result) c.read_place-x.result c.bit.result n y c.given.result c.args.state.now c.read_place-x.new.state c.operated_number.new.state c.store_place.new.state
    o_is c.bit.ensures (c.to_kind-y.ensures ∙ ap (λ k. wrap k n) kind_is) c.given.ensures c.read_place-x.ensures
    (c.in_ok-number.ensures (s.step op e) (ap operation_tests (sym o_is))) (c.in_ok-store_place.ensures c.given.result)
