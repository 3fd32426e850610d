use Rattle.std.proofs.Common.{◌≡◌}
use Rattle.stk_terms.specs.Fitting.{IsSound}
use Rattle.stk_cuts.specs.Cuts.{AreCopies}
use Rattle.stk_cuts.proofs.goal.put_inputs.Given as goal

-- what was moved stands for its terms
abbrev pub invariant-loop-k : goal.invariant-loop-k
invariant-loop-k l = record {
  copies : AreCopies l.fn.of.terms.now l.fn.of.cut.now l.out l.moved.items;
  inputs : l.out.inputs ≡ l.fn.out.inputs;
  sound : IsSound l.out;
}
