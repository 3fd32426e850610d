use Rattle.std.proofs.Common.{length}
use Rattle.stk_symbols.proofs.Stepping.{SoFar}
use Rattle.stk_symbols.proofs.goals.folded.Given as goal

abbrev pub invariant-loop-first : goal.invariant-loop-first
invariant-loop-first l = SoFar l.steps l.fn.terms l.terms l.rest l.state

abbrev pub decreases-loop-first : goal.decreases-loop-first
decreases-loop-first l = length l.rest
