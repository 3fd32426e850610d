use Rattle.std.proofs.Common.{length}
use Rattle.stk_terms.specs.Fitting.{IsSound}
use Rattle.stk_terms.specs.Growth.{Keeps}
use Rattle.stk_cuts.specs.Cuts.{AreCopies}
use Rattle.stk_cuts.proofs.copying.are_moved.Given as goal

-- what was moved stands for its terms
abbrev pub invariant-loop-id : goal.invariant-loop-id
invariant-loop-id l = record {
  copies : AreCopies l.fn.of.terms.now l.fn.of.cut.now l.out l.moved.items;
  keeps : Keeps l.fn.out l.out;
  sound : IsSound l.out;
}

abbrev pub decreases-loop-id : goal.decreases-loop-id
decreases-loop-id l = length l.rest
