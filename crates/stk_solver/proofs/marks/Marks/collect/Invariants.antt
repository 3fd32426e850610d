use Rattle.stk_solver.proofs.Collecting.{IsTaking}
use Rattle.stk_solver.proofs.marks.Marks.collect.Given as goal

abbrev pub invariant-loop-at : goal.invariant-loop-at
invariant-loop-at l = IsTaking l.fn.self l.fn.point l.at l.self l.clause.items
