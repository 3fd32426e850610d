use Rattle.std.proofs.Common.{◌∙◌}
use Rattle.stk_propagate.proofs.Visiting.{grown_trans}
use Rattle.stk_propagate.proofs.inner.Inner.walk_all.Goals as goal

pub returns-in-Some-clause-grown : goal.returns-in-Some-clause-grown
returns-in-Some-clause-grown c = grown_trans c.args.self.now.assigned c.loop-self.self.assigned c.walk.new.self.assigned c.loop-self.invariant.grown c.walk.ensures.grown

pub loop-self-preserved : goal.loop-self-preserved
loop-self-preserved c =
    let e = c.walk.ensures in
    let i = c.loop-self.invariant in
    record { linked = e.linked; fits = e.fits; grown = grown_trans c.args.self.now.assigned c.loop-self.self.assigned c.walk.new.self.assigned i.grown e.grown; looked = e.looked ∙ i.looked }
