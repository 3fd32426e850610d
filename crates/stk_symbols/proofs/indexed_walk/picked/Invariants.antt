use Rattle.std.proofs.Common.{◌≤◌, Bool, length}
use Rattle.stk_values.specs.Walks.{ListedEvent}
use Rattle.stk_symbols.specs.Matters.{ArePlaces, events_of}
use Rattle.stk_symbols.proofs.Picking.{Picked}
use Rattle.stk_symbols.proofs.indexed_walk.picked.Given as goal

abbrev pub invariant-loop-place : goal.invariant-loop-place
invariant-loop-place l = record {
  within : l.end ≤ length l.steps;
  picked : (test : ListedEvent → Bool) → ArePlaces test (events_of l.steps) l.places → Picked test l.steps l.places l.list.items l.place-index l.end;
}
