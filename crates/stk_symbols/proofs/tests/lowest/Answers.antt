use Rattle.std.proofs.Common.{◌∙◌}
use Rattle.stk_symbols.proofs.Truths.{low_bit}
use Rattle.stk_symbols.proofs.tests.lowest.Goals as goal

pub returns-clause-value : goal.returns-clause-value
returns-clause-value c = λ numbers b o e. c.in_ok-v.ensures.value numbers o ∙ low_bit (numbers c.args.value.0) b e
