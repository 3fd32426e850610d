use Rattle.std.proofs.Common.{◌≡◌, ◌++◌, drop}
use Rattle.stk_replaying.specs.Replaying.{hit_places, hit_places_from}
use Rattle.stk_replaying.proofs.hitting.hit_places.Given as goal

-- with the positions behind, all are found
abbrev pub invariant-loop-at : goal.invariant-loop-at
invariant-loop-at l = l.places.items ++ hit_places_from l.at (drop l.at l.list) l.trace ≡ hit_places l.list l.trace
