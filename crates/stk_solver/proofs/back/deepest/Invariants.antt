use Rattle.std.specs.Prelude.{MatchOption}
use Rattle.stk_solver.specs.Jumping.{IsDeep}
use Rattle.stk_solver.proofs.back.deepest.Given as goal

abbrev pub invariant-loop-lit : goal.invariant-loop-lit
invariant-loop-lit l = MatchOption l.best (Unit {0}) (IsDeep l.trail.assigned.literals l.clause)
