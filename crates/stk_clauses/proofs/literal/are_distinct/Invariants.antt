use Rattle.std.proofs.Common.{◌↔◌, length}
use Rattle.stk_clauses.specs.Literals.{AreDistinct}
use Rattle.stk_clauses.proofs.literal.are_distinct.Given as goal

abbrev pub invariant-loop-first : goal.invariant-loop-first
invariant-loop-first l = AreDistinct l.fn.clause ↔ AreDistinct l.rest

abbrev pub decreases-loop-first : goal.decreases-loop-first
decreases-loop-first l = length l.rest
