use Rattle.stk_values.proofs.Answered.{arith_fits}
use Rattle.stk_values.proofs.numbers.NumbersValues.arith.Goals as goal

pub returns-clause-makes : goal.returns-clause-makes
returns-clause-makes c = arith_fits c.args.op c.args.kind _ _ c.arith.result c.arith.ensures
