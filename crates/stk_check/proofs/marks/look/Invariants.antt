use Rattle.std.proofs.Common.{take}
use Rattle.stk_check.specs.Marks.{IsMarked, IsSeenSoFar}
use Rattle.stk_check.proofs.marks.look.Given as goal

abbrev pub invariant-loop-lit : goal.invariant-loop-lit
invariant-loop-lit l = IsSeenSoFar (IsMarked l.marks l.stamp) (take l.lit-index l.clause) l.left
