use Rattle.std.proofs.Common.{◌≡◌, ◌-◌, ◌+◌, drop, length}
use Rattle.stk_proofs.specs.Distinct.{distinct_behind, distinct, AreMarked}
use Rattle.stk_proofs.proofs.distinct.distinct_of_close.Given as goal

abbrev pub invariant-loop-literal : goal.invariant-loop-literal
invariant-loop-literal l = record {
  found : distinct_behind l.found.items (drop l.literal-index l.literals) ≡ distinct l.literals;
  marked : AreMarked l.least l.marks.items l.found.items;
  room : length l.marks.items ≡ (l.greatest - l.least) + 1;
}
