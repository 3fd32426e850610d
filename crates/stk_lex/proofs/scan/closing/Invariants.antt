use Rattle.std.proofs.Common.{◌≡◌, ◌+◌, ◌≤◌, ◌<◌, length, false}
use Rattle.stk_lex.specs.Lengths.{closing}
use Rattle.stk_lex.proofs.scan.closing.Given as goal

abbrev pub invariant-loop-b : goal.invariant-loop-b
invariant-loop-b l = record {
  none : closing l.quote l.escaped l.rest ≡ 0 → closing l.quote false l.bytes ≡ 0;
  some : 0 < closing l.quote l.escaped l.rest → closing l.quote false l.bytes ≡ l.n + closing l.quote l.escaped l.rest;
  few : l.n + length l.rest ≤ length l.bytes;
}

abbrev pub decreases-loop-b : goal.decreases-loop-b
decreases-loop-b l = length l.rest
