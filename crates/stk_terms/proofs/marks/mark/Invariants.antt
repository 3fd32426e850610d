use Rattle.std.proofs.Common.{◌≡◌, drop, length}
use Rattle.stk_terms.specs.Parts.{marked}
use Rattle.stk_terms.specs.Fitting.{AreBelow}
use Rattle.stk_terms.proofs.marks.mark.Given as goal

-- what is left to mark makes of these marks what all made of the first ones
abbrev pub invariant-loop-arg : goal.invariant-loop-arg
invariant-loop-arg l = (marked l.marks (drop l.arg-index l.args) ≡ marked l.initial.marks l.args) × AreBelow (length l.marks) (drop l.arg-index l.args)
