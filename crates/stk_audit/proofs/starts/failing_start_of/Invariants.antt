use Rattle.std.proofs.Common.{◌≡◌, Some, length}
use Rattle.stk_audit.specs.Hands.{Hand, function_at}
use Rattle.stk_audit.proofs.Showing.{AreTested}
use Rattle.stk_audit.proofs.starts.failing_start_of.Given as goal

abbrev pub invariant-loop-start : goal.invariant-loop-start
invariant-loop-start g l =
    (h : Hand) → g.A.Answering.hand l.fn.answering ≡ Some h → AreTested (function_at (g.A.Answering.world (g.A.Answering.about l.fn.answering)) h) l.fn.candidate l.fn.members l.fn.starts l.rest

abbrev pub decreases-loop-start : goal.decreases-loop-start
decreases-loop-start g l = length l.rest
