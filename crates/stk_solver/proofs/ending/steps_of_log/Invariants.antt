use Rattle.std.proofs.Common.{◌≡◌, ◌+◌, ◌++◌, ◌≤◌, length, drop, reverse}
use Rattle.stk_solver.specs.Searching.{steps_of}
use Rattle.stk_solver.proofs.ending.steps_of_log.Given as goal

abbrev pub invariant-loop-hints : goal.invariant-loop-hints
invariant-loop-hints l = record {
  here : l.id ≡ length l._given + length l.log.items;
  room : l.id ≤ length l.store;
  made : steps_of l.log.items (drop (length l._given) l.store) ++ reverse l.steps.items ≡ steps_of l.fn.log.items (drop (length l._given) l.store);
}

abbrev pub decreases-loop-hints : goal.decreases-loop-hints
decreases-loop-hints l = length l.log.items
