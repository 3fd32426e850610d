use Rattle.stk_terms.proofs.Collecting.{not_missing}
use Rattle.stk_terms.proofs.order.index_in.Goals as goal

pub returns-in-Err-clause-within : goal.returns-in-Err-clause-within
returns-in-Err-clause-within c = absurd (not_missing c.args.order.now c.args.place c.in-Err.index c.requires.rise c.requires.has c.in-Err.ensures.position)

pub returns-in-Err-clause-is : goal.returns-in-Err-clause-is
returns-in-Err-clause-is c = absurd (not_missing c.args.order.now c.args.place c.in-Err.index c.requires.rise c.requires.has c.in-Err.ensures.position)
