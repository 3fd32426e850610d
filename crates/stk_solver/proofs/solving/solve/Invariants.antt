use Rattle.std.proofs.Common.{◌≡◌, ◌+◌, ◌-◌, ◌*◌, ◌≤◌, length}
use Rattle.stk_solver.specs.Searching.{IsSearch}
use Rattle.stk_solver.proofs.solving.solve.Given as goal

abbrev pub invariant-loop-search : goal.invariant-loop-search
invariant-loop-search l = record {
  search : IsSearch l.search l.given;
  vars : l.search.vars ≡ l.cnf.vars;
  given : l.given ≡ l.cnf.store;
  within : length l.search.log.items ≤ l.budget;
}

abbrev pub decreases-loop-search : goal.decreases-loop-search
decreases-loop-search l = (l.budget - length l.search.log.items) * (2 * l.cnf.vars + 2) + (2 * l.cnf.vars + 1 - length l.search.trail.assigned.literals)
