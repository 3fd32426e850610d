use Rattle.std.proofs.Common.{pos, sym, ap}
use Rattle.stk_tree.specs.Syntax as s
use Rattle.stk_tree.specs.declared.expression.UnaryOp.TheVariants as unary
use Rattle.stk_meaning.specs.Operations.{to_address}
use Rattle.stk_meaning.specs.Expressions.{breaks}
use Rattle.stk_eval_expr.proofs.LeavingLaws.{adds_value}
use Rattle.stk_eval_expr.proofs.steps.target_place.Goals as goal

pub returns : goal.returns
returns g c = λ e.
    let f = s.unary unary.Deref e in
    let b = breaks (g.W.RunSetting.setting c.args.out.now) c.args.node c.args.accessed f c.args.number in
    adds_value (b (pos 0) (pos 0)) (b c.bit-zero.result c.bit-zero.result) (to_address c.args.number) c.to_address.result c.args.state.now c.check.new.state
    (ap (λ z. b z z) c.bit-zero.ensures) (c.in_ok-check.ensures c.args.accessed f (sym c.target_node_tests.ensures)) c.to_address.ensures
