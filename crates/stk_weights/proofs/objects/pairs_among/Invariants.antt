use Rattle.std.proofs.Common.{◌≡◌, ◌≤◌, ◌<◌, ◌^◌, drop, length}
use Rattle.stk_weights.specs.Traits.{counts_of}
use Rattle.stk_weights.proofs.objects.pairs_among.Given as goal

abbrev pub decreases-loop-left : goal.decreases-loop-left
decreases-loop-left l = l.left

abbrev pub invariant-loop-left : goal.invariant-loop-left
invariant-loop-left l = record {
  below : l.left ≤ length l.list;
  few : length l.list < 2 ^ 64;
  counted : l.counts ≡ counts_of (drop l.left l.list);
}
