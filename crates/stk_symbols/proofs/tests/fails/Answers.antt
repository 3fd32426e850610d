use Rattle.std.proofs.Common.{◌∙◌}
use Rattle.stk_symbols.proofs.Truths.{not_bit}
use Rattle.stk_symbols.proofs.tests.fails.Goals as goal

pub returns-clause-value : goal.returns-clause-value
returns-clause-value c = λ numbers x o e. c.in_ok-v.ensures.value numbers o ∙ not_bit (numbers c.args.a.0) x e
