use Rattle.std.proofs.Common.{◌≡◌, ◌+◌, ◌≤◌, length}
use Rattle.stk_lex.specs.Lengths.{number_run}
use Rattle.stk_lex.proofs.scan.number_run.Given as goal

abbrev pub invariant-loop-b : goal.invariant-loop-b
invariant-loop-b l = record {
  same : l.n + number_run l.before l.rest ≡ number_run l.first l.bytes;
  few : l.n + length l.rest ≤ length l.bytes;
}

abbrev pub decreases-loop-b : goal.decreases-loop-b
decreases-loop-b l = length l.rest
