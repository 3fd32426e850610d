use Rattle.std.proofs.Common.{ap, length}
use Rattle.stk_terms.proofs.Reading.{there}
use Rattle.stk_rewrite.proofs.reading.count_of.Goals as goal

pub returns : goal.returns
returns c = ap length (c.args-args.ensures _ (there c.args.terms.now c.requires.sound c.args.a.0 c.requires.exists))
