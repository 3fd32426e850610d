use Rattle.std.proofs.Common.{ℕ, ◌≡◌, ◌↔◌, ◌*◌, ◌<◌, length, get_or, true, false}
use Rattle.std.specs.List.{Contains}
use Rattle.stk_solver.proofs.Valuing.{lit_at}
use Rattle.stk_solver.proofs.search.Search.values.Given as goal

abbrev pub invariant-loop-variable : goal.invariant-loop-variable
invariant-loop-variable l = record {
  sized : length l.values.items ≡ l.variable;
  values : (k : ℕ) → k < l.variable → (get_or l.values.items k false ≡ true) ↔ Contains l.self.trail.assigned.literals (lit_at (2 * k));
}
