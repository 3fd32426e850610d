use Rattle.stk_symbols.proofs.Moves.{SoFar}
use Rattle.stk_symbols.proofs.moving.moved_by.Given as goal

-- what is left of the size, from the sum so far, gives what all of it gives
abbrev pub invariant-loop-place : goal.invariant-loop-place
invariant-loop-place l = SoFar l.fn.terms l.terms l.width l.fn.base.0 l.step.0 l.fn.size l.minus l.sum.0 l.rest l.place
