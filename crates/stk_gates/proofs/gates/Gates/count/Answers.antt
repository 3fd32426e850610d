use Rattle.stk_gates.proofs.Sharing.{shared_of}
use Rattle.stk_gates.proofs.gates.Gates.count.Goals as goal

pub returns-clause-reduced : goal.returns-clause-reduced
returns-clause-reduced c = rw (← c.self.view_is) c.self.invariant.2

pub returns-clause-shared : goal.returns-clause-shared
returns-clause-shared c = rw (← c.self.view_is) (shared_of (record { inputs = c.self.inside.inputs; pairs = c.self.inside.pairs.keys }) c.len.ensures.unique c.self.invariant.2)
