use Rattle.std.proofs.Common.{take}
use Rattle.std.specs.List.{All}
use Rattle.stk_proofs.specs.Distinct.{IsBetween}
use Rattle.stk_proofs.proofs.distinct.bounds_of.Given as goal

abbrev pub invariant-loop-literal : goal.invariant-loop-literal
invariant-loop-literal l = All (IsBetween l.least l.greatest) (take l.literal-index l.literals)
