use Rattle.std.proofs.Common.{take, ◌≤◌}
use Rattle.std.specs.List.{All}
use Rattle.stk_check.specs.Marks.{IsGood, AreFalse}
use Rattle.stk_check.proofs.marks.assume_false.Given as goal

abbrev pub invariant-loop-lit : goal.invariant-loop-lit
invariant-loop-lit l = record {
  good : IsGood l.vars (take l.lit-index l.clause);
  marked : AreFalse l.marks l.stamp (take l.lit-index l.clause);
  bounded : All (λ x. x ≤ l.stamp) l.marks;
}
