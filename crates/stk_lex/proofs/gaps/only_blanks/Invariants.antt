use Rattle.std.proofs.Common.{◌≡◌, ◌≤◌, true, take}
use Rattle.stk_lex.specs.Gaps.{only_blanks}
use Rattle.stk_lex.proofs.gaps.only_blanks.Given as goal

abbrev pub invariant-loop-place : goal.invariant-loop-place
invariant-loop-place l = record {
  same : only_blanks true (take l.place l.bytes) ≡ only_blanks true (take l.at l.bytes);
  before : l.place ≤ l.at;
}

abbrev pub decreases-loop-place : goal.decreases-loop-place
decreases-loop-place l = l.place
