use Rattle.std.proofs.Common.{◌≡◌, length}
use Rattle.stk_propagate.specs.Trailed.{IsGrown}
use Rattle.stk_propagate.specs.Fitting.{Fits}
use Rattle.stk_propagate.specs.Linked.{trailed, chain_of, InSpare, IsSized, AreLinked, AreCalmed}
use Rattle.stk_propagate.proofs.inner.Inner.visit_chain.Given as goal

abbrev pub invariant-loop-place : goal.invariant-loop-place
invariant-loop-place l = record {
  sized : IsSized l.self;
  fits : Fits (trailed l.self) l.store;
  linked : AreLinked l.self l.lit (InSpare l.self);
  calmed : AreCalmed l.self;
  grown : IsGrown l.fn.self.assigned l.self.assigned;
  head : l.self.head ≡ l.fn.self.head;
  looked : l.self.looked ≡ l.fn.self.looked;
}

abbrev pub decreases-loop-place : goal.decreases-loop-place
decreases-loop-place l = length (chain_of l.self l.lit)
