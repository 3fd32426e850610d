use Rattle.std.proofs.Common.{◌≡◌, ◌+◌, ◌≤◌, ◌<◌, length}
use Rattle.stk_lex.specs.Gaps.{comment}
use Rattle.stk_lex.proofs.gaps.comment.Given as goal

abbrev pub invariant-loop-b : goal.invariant-loop-b
invariant-loop-b l = record {
  none : comment l.rest ≡ 0 → comment l.bytes ≡ 0;
  some : 0 < comment l.rest → comment l.bytes ≡ l.n + comment l.rest;
  few : l.n + length l.rest ≤ length l.bytes;
}

abbrev pub decreases-loop-b : goal.decreases-loop-b
decreases-loop-b l = length l.rest
