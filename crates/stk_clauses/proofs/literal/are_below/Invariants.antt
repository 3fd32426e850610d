use Rattle.std.proofs.Common.{take}
use Rattle.stk_clauses.specs.Literals.{AreBelow}
use Rattle.stk_clauses.proofs.literal.are_below.Given as goal

abbrev pub invariant-loop-lit : goal.invariant-loop-lit
invariant-loop-lit l = AreBelow l.vars (take l.lit-index l.clause)
