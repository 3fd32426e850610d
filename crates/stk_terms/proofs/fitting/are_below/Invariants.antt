use Rattle.std.proofs.Common.{drop}
use Rattle.stk_terms.specs.Fitting.{AreBelow}
use Rattle.stk_terms.proofs.fitting.are_below.Given as goal

-- all are where what is left is
abbrev pub invariant-loop-arg : goal.invariant-loop-arg
invariant-loop-arg l = AreBelow l.count (drop l.arg-index l.args) → AreBelow l.count l.args
