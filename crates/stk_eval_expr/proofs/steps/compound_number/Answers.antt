use Rattle.std.proofs.Common.{ap, ◌∙◌}
use Rattle.stk_tree.specs.View.{view_expression}
use Rattle.stk_numbers.specs.Kinds.{wrap}
use Rattle.stk_meaning.specs.Typings.{number_kind}
use Rattle.stk_operators.specs.Shown.{operation_shown}
use Rattle.stk_eval_expr.proofs.Ending.{compounded}
use Rattle.stk_eval_expr.proofs.steps.compound_number.Goals as goal

pub returns : goal.returns
returns g c = λ f asked.
    let G = g.W.RunSetting.setting c.args.out.now in
    let W = g.W.World.world c.args.out.now in
    let n = c.in_ok-found.found in
    let z = c.to_kind-z.result in
    let kind_is = c.kind_at.ensures ∙ ap (λ k. number_kind (G.typing.type_at k)) c.node_of.ensures in
    compounded G W c.args.node f (operation_shown c.args.operation) (view_expression c.args.left.now) c.args.number c.args.address c.read_place-x.result n z c.args.state.now c.read_place-x.new.state c.operated_number.new.state c.store_place.new.state
    (c.to_kind-z.ensures ∙ ap (λ k. wrap k n) kind_is) c.read_place-x.ensures (c.in_ok-found.ensures f asked) (c.in_ok-store_place.ensures z)
