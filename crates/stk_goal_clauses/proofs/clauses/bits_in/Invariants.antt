use Rattle.std.proofs.Common.{◌≡◌, ◌+◌, ◌<◌, ◌^◌, length}
use Rattle.std.specs.Prelude.{sum}
use Rattle.stk_goal_clauses.proofs.clauses.bits_in.Given as goal

abbrev pub invariant-loop-width : goal.invariant-loop-width
invariant-loop-width l = record {
  sum_is : l.bits + sum l.rest ≡ sum l.widths;
  few : l.bits < 2 ^ 29;
}

abbrev pub decreases-loop-width : goal.decreases-loop-width
decreases-loop-width l = length l.rest
