use Rattle.std.proofs.Common.{◌≡◌, ◌-◌, ◌*◌}
use Rattle.stk_propagate.specs.Trailed.{IsGrown}
use Rattle.stk_propagate.specs.Fitting.{Fits}
use Rattle.stk_propagate.specs.Linked.{trailed, IsLinked}
use Rattle.stk_propagate.proofs.inner.Inner.walk_all.Given as goal

abbrev pub invariant-loop-self : goal.invariant-loop-self
invariant-loop-self l = record {
  linked : IsLinked l.self;
  fits : Fits (trailed l.self) l.store;
  grown : IsGrown l.fn.self.assigned l.self.assigned;
  looked : l.self.looked ≡ l.fn.self.looked;
}

abbrev pub decreases-loop-self : goal.decreases-loop-self
decreases-loop-self l = 2 * l.self.assigned.vars - l.self.head
