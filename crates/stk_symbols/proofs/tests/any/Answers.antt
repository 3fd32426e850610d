use Rattle.std.proofs.Common.{◌∙◌}
use Rattle.stk_symbols.proofs.Truths.{or_bit}
use Rattle.stk_symbols.proofs.tests.any.Goals as goal

pub returns-clause-value : goal.returns-clause-value
returns-clause-value c = λ numbers x y o e f. c.in_ok-v.ensures.value numbers o ∙ or_bit (numbers c.args.a.0) (numbers c.args.b.0) x y e f
