use Rattle.stk_symbols.specs.Matters.{events_of, event_in}
use Rattle.stk_symbols.proofs.Chained.{Listing, end_of}
use Rattle.stk_symbols.proofs.indexed_walk.IndexedWalk.list.Given as goal

abbrev pub invariant-loop-at : goal.invariant-loop-at
invariant-loop-at l = Listing (events_of l.self.walked.steps) (event_in l.fn.event) l.fn.places.items l.places.items l.at

abbrev pub decreases-loop-at : goal.decreases-loop-at
decreases-loop-at l = end_of l.at
