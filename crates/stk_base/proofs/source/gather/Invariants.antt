use Rattle.std.proofs.Common.{◌≡◌, ◌≤◌, ◌-◌, ◌<◌, length}
use Rattle.stk_base.specs.Streams.{Came}
use Rattle.stk_base.proofs.source.gather.Given as goal

abbrev pub invariant-loop-bytes : goal.invariant-loop-bytes
invariant-loop-bytes g l = record {
  came : Came (g.S.Source.left l.initial.source) (g.S.Source.left l.source) l.bytes.items;
  within : length l.bytes.items ≤ l.limit;
  faults : g.S.Source.faults l.source ≡ g.S.Source.faults l.initial.source;
  room : 0 < length l.piece;
}

abbrev pub decreases-loop-bytes : goal.decreases-loop-bytes
decreases-loop-bytes g l = l.limit - length l.bytes.items
