use Rattle.std.proofs.Common.{◌<◌, length}
use Rattle.stk_solver.proofs.back.count_to.Given as goal

abbrev pub invariant-loop-count : goal.invariant-loop-count
invariant-loop-count l = l.count < length l.levels

abbrev pub decreases-loop-count : goal.decreases-loop-count
decreases-loop-count l = l.count
