use Rattle.stk_propagate.proofs.Visiting.{grown_trans}
use Rattle.stk_propagate.proofs.inner.Inner.look_all.Goals as goal

pub returns-then-look-clause-grown : goal.returns-then-look-clause-grown
returns-then-look-clause-grown c = grown_trans c.args.self.now.assigned c.loop-self.self.assigned c.look.new.self.assigned c.loop-self.invariant.grown c.look.ensures.grown

pub loop-self-preserved : goal.loop-self-preserved
loop-self-preserved c =
    let e = c.look.ensures in
    record { linked = e.linked; fits = e.fits; grown = grown_trans c.args.self.now.assigned c.loop-self.self.assigned c.look.new.self.assigned c.loop-self.invariant.grown e.grown }
