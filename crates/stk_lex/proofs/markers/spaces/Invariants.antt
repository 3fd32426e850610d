use Rattle.std.proofs.Common.{◌≡◌, ◌+◌, ◌≤◌, length}
use Rattle.stk_lex.specs.Marker.{is_space}
use Rattle.stk_lex.specs.MarkerReading.{run}
use Rattle.stk_lex.proofs.markers.spaces.Given as goal

abbrev pub invariant-loop-b : goal.invariant-loop-b
invariant-loop-b l = record {
  same : l.n + run is_space l.rest ≡ run is_space l.bytes;
  few : l.n + length l.rest ≤ length l.bytes;
}

abbrev pub decreases-loop-b : goal.decreases-loop-b
decreases-loop-b l = length l.rest
