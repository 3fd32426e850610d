use Rattle.std.proofs.Common.{◌≡◌, ℕ, ◌<◌, [], length, get_or, None}
use Rattle.stk_propagate.specs.Fitting.{IsWatched}
use Rattle.stk_propagate.proofs.taking.first_watches.Given as goal

abbrev pub invariant-loop-id : goal.invariant-loop-id
invariant-loop-id l = record {
  counted : length l.watches.items ≡ l.id;
  watched : (id : ℕ) → id < l.id → IsWatched (get_or l.store id []) (get_or l.watches.items id None);
}
