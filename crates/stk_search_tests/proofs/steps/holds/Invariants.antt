use Rattle.std.proofs.Common.{◌≡◌}
use Rattle.stk_propagate.specs.Fitting.{Fits}
use Rattle.stk_search_tests.proofs.steps.holds.Given as goal

abbrev pub invariant-loop-number : goal.invariant-loop-number
invariant-loop-number l = record {
  fits : Fits l.trail l.cnf.store;
  vars : l.trail.assigned.vars ≡ 4;
}
