use Rattle.std.proofs.Common.{◌≡◌, pos, true, sym, ap, ◌∙◌}
use Rattle.stk_tree.specs.View.{view_expression}
use Rattle.stk_tree.specs.Syntax as s
use Rattle.stk_tree.specs.declared.expression.UnaryOp.TheVariants as unary
use Rattle.stk_numbers.specs.declared.operators.ArithOp.TheVariants.{Sub}
use Rattle.stk_numbers.specs.Kinds.{promote}
use Rattle.stk_meaning.specs.Typings.{type_in, number_kind}
use Rattle.stk_meaning.specs.Conditions.{unary_tests}
use Rattle.stk_meaning.specs.Operations.{operated, in_kind}
use Rattle.stk_meaning.specs.Expressions.{breaks}
use Rattle.stk_eval_expr.proofs.LeavingLaws.{adds_value}
use Rattle.stk_eval_expr.proofs.steps.negated_number.Goals as goal

pub returns : goal.returns
returns g c =
    let f = s.unary unary.Minus (view_expression c.args.e.now) in
    let ty = (g.W.RunSetting.setting c.args.out.now).typing in
    let k = promote (number_kind (type_in ty (view_expression c.args.e.now))) in
    let k_is : c.promote-kind.result ≡ k = c.promote-kind.ensures ∙ ap promote (c.kind_at.ensures ∙ ap (λ n. number_kind (ty.type_at n)) c.node_of.ensures) in
    let b = breaks (g.W.RunSetting.setting c.args.out.now) c.args.node true f c.args.number in
    adds_value (b (pos 0) (pos 0)) (b c.bit-zero.result c.bit-zero.result) (operated (in_kind Sub k) (pos 0) c.args.number) c.operated.result c.args.state.now c.check.new.state
    (ap (λ z. b z z) c.bit-zero.ensures) (c.in_ok-check.ensures true f (ap (λ u. unary_tests true u unary.Minus) (sym k_is)))
    (c.operated.ensures ∙ ap (λ z. operated (in_kind Sub c.promote-kind.result) z c.args.number) c.bit-zero.ensures ∙ ap (λ u. operated (in_kind Sub u) (pos 0) c.args.number) k_is)
