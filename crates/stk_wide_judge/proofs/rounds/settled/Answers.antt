use Rattle.stk_wide_judge.proofs.Settling.{settled_dead, settled_hit}
use Rattle.stk_wide_judge.proofs.rounds.settled.Goals as goal

pub returns-in-None : goal.returns-in-None
returns-in-None c a k known same guess none = settled_dead a c.args.known.now.starts.items k c.args.needs guess none c.in_ok-first_answer.field-0 c.in-None.is (c.in_ok-first_answer.ensures a k known same)

pub returns-in-Some : goal.returns-in-Some
returns-in-Some c a k known same guess none = settled_hit a c.args.known.now.starts.items k c.args.needs c.in-Some.start c.args.known.now.table known guess none c.in_ok-first_answer.field-0 c.in-Some.is (c.in_ok-first_answer.ensures a k known same)
