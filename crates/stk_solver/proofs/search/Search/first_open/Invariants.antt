use Rattle.std.proofs.Common.{ℕ, ◌⊎◌, ◌<◌, ◌*◌, ◌+◌}
use Rattle.std.specs.List.{Contains}
use Rattle.stk_solver.proofs.search.Search.first_open.Given as goal

abbrev pub invariant-loop-variable : goal.invariant-loop-variable
invariant-loop-variable l = (v : ℕ) → v < l.variable → Contains l.self.trail.assigned.literals (record { 0 = 2 * v }) ⊎ Contains l.self.trail.assigned.literals (record { 0 = 2 * v + 1 })
