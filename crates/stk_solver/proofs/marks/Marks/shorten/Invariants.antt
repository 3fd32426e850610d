use Rattle.stk_solver.proofs.Leading.{IsShorter}
use Rattle.stk_solver.proofs.marks.Marks.shorten.Given as goal

abbrev pub invariant-loop-place : goal.invariant-loop-place
invariant-loop-place l = IsShorter l.store l.trail.assigned.literals l.fn.self.vars l.low l.point l.bound l.self
