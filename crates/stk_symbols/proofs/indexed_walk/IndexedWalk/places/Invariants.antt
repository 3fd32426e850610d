use Rattle.std.proofs.Common.{drop}
use Rattle.stk_symbols.specs.Matters.{events_of}
use Rattle.stk_symbols.proofs.Chained.{Collected}
use Rattle.stk_symbols.proofs.indexed_walk.IndexedWalk.places.Given as goal

abbrev pub invariant-loop-condition : goal.invariant-loop-condition
invariant-loop-condition l = Collected (events_of l.self.walked.steps) l.set l.candidate l.places.items (drop l.condition-index l.set)
