use Rattle.std.proofs.Common.{arith}
use Rattle.stk_propagate.proofs.Choose.{two_watched}
use Rattle.stk_propagate.proofs.choosing.first_two.Goals as goal

pub returns : goal.returns
returns c = two_watched c.args.clause.now _ _ c.requires (omega (arith, c.if-clause-lt2.false))
