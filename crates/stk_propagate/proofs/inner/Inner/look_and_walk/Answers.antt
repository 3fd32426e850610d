use Rattle.stk_propagate.proofs.Visiting.{grown_trans}
use Rattle.stk_propagate.proofs.inner.Inner.look_and_walk.Goals as goal

pub returns-clause-grown : goal.returns-clause-grown
returns-clause-grown c = grown_trans c.args.self.now.assigned c.look_all.new.self.assigned c.walk_all.new.self.assigned c.look_all.ensures.grown c.walk_all.ensures.grown
