use Rattle.std.proofs.Common.{pos, ◌+◌, sym, ap, ◌∙◌}
use Rattle.stk_tree.specs.View.{view_expression}
use Rattle.stk_tree.specs.Syntax as s
use Rattle.stk_meaning.specs.Typings.{type_in, pointed}
use Rattle.stk_meaning.specs.Operations.{to_address}
use Rattle.stk_meaning.specs.Expressions.{breaks}
use Rattle.stk_eval_expr.proofs.LeavingLaws.{adds_value}
use Rattle.stk_eval_expr.proofs.steps.arrow_place.Goals as goal

pub returns : goal.returns
returns g c =
    let f = s.arrow (view_expression c.args.e.now) c.args.name in
    let ty = (g.W.RunSetting.setting c.args.out.now).typing in
    let b = breaks (g.W.RunSetting.setting c.args.out.now) c.args.node c.args.accessed f c.args.number in
    adds_value (b (pos 0) (pos 0)) (b c.bit-zero.result c.bit-zero.result) (to_address (pos (to_address c.args.number + ty.offset_of (pointed (type_in ty (view_expression c.args.e.now))) c.args.name))) c.behind.result c.args.state.now c.check.new.state
    (ap (λ z. b z z) c.bit-zero.ensures) (c.in_ok-check.ensures c.args.accessed f (sym c.target_node_tests.ensures))
    (c.behind.ensures ∙ ap (λ u. to_address (pos (u + c.pointed_offset.result))) c.to_address.ensures ∙ ap (λ u. to_address (pos (to_address c.args.number + u))) (c.pointed_offset.ensures ∙ ap (λ n. ty.offset_of (pointed (ty.type_at n)) c.args.name) c.node_of.ensures))
