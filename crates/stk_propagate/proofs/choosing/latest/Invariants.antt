use Rattle.stk_propagate.proofs.Choose.{Best}
use Rattle.stk_propagate.proofs.choosing.latest.Given as goal

abbrev pub invariant-loop-lit : goal.invariant-loop-lit
invariant-loop-lit l = Best l.assigned.literals l.clause l.lit-index l.but l.best l.when
