use Rattle.std.proofs.Common.{ap, ◌∙◌}
use Rattle.stk_tree.specs.View.{view_expression}
use Rattle.stk_numbers.specs.Kinds.{wrap}
use Rattle.stk_meaning.specs.Typings.{number_kind}
use Rattle.stk_eval_expr.proofs.Ending.{assigned}
use Rattle.stk_eval_expr.proofs.steps.assigned_number.Goals as goal

pub returns : goal.returns
returns g c =
    let G = g.W.RunSetting.setting c.args.out.now in
    let W = g.W.World.world c.args.out.now in
    let kind_is = c.kind_at.ensures ∙ ap (λ n. number_kind (G.typing.type_at n)) c.node_of.ensures in
    assigned G W (view_expression c.args.left.now) c.args.number c.args.address c.to_kind-y.result c.args.state.now c.store_place.new.state
    (c.to_kind-y.ensures ∙ ap (λ k. wrap k c.args.number) kind_is) (c.in_ok-store_place.ensures c.to_kind-y.result)
