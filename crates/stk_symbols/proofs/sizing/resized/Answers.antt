use Rattle.std.proofs.Common.{◌∙◌}
use Rattle.std.proofs.Common.{arith}
use Rattle.stk_symbols.proofs.Sizes.{lowest_stand}
use Rattle.stk_symbols.proofs.sizing.resized.Goals as goal

pub returns-in_ok-v-clause-value : goal.returns-in_ok-v-clause-value
returns-in_ok-v-clause-value c = λ numbers o. c.in_ok-v.ensures.value numbers o ∙ lowest_stand c.args.sign c.args.from c.args.to (numbers c.args.value.0) (omega (arith, c.if-to-from.true))
