use Rattle.std.proofs.Common.{sym, ◌∙◌}
use Rattle.stk_rewrite.proofs.Tests.{other_constant}
use Rattle.stk_terms.proofs.Reading.{there}
use Rattle.stk_rewrite.proofs.Parted.{number_is}
use Rattle.stk_rewrite.proofs.reading.number.Goals as goal

pub returns-in_default : goal.returns-in_default
returns-in_default c =
    let e = c.op.ensures _ (there c.args.terms.now c.requires.sound c.args.a.0 c.requires.exists) in
    other_constant _ (λ w n f. c.in_default.not-Constant w n (e ∙ f))

pub returns-in-Constant : goal.returns-in-Constant
returns-in-Constant c =
    let e = c.op.ensures _ (there c.args.terms.now c.requires.sound c.args.a.0 c.requires.exists) in
    number_is c.args.terms.now c.requires.sound c.args.a.0 c.in-Constant.field-0 c.in-Constant.n c.requires.exists (sym e ∙ c.in-Constant.is)
