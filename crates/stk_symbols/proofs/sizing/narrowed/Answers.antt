use Rattle.std.proofs.Common.{◌∙◌}
use Rattle.std.proofs.Common.{false}
use Rattle.stk_symbols.proofs.Sizes.{lowest}
use Rattle.stk_symbols.proofs.sizing.narrowed.Goals as goal

pub returns-clause-value : goal.returns-clause-value
returns-clause-value c = λ numbers o. c.in_ok-v.ensures.value numbers o ∙ lowest false c.args.from c.args.to (numbers c.args.value.0) c.requires.narrower
