-- What is seen of a test, with a replacement and without one.
use Rattle.std.proofs.Common.{◌≡◌, ℕ, Bool, ◌&&◌, not, List, [], ◌∷◌, ◌++◌, ℤ, Option, Some, None, refl, subst}
use Rattle.std.specs.Prelude.{if◌then◌else◌}
use Rattle.stk_numbers.specs.declared.conditions.CandKind.TheVariants.{AlwaysTrue, AlwaysFalse}
use Rattle.stk_meaning.specs.declared.entry.Entry.{Entry}
use Rattle.stk_meaning.specs.declared.entry.Entry.TheVariants.{Seen}
use Rattle.stk_meaning.specs.Operations.{bit}
use Rattle.stk_walking.specs.declared.state.GuardedEvent.{GuardedEvent}
use Rattle.stk_walking.specs.Events.{Live, hit, one_if, events_of}
use Rattle.stk_walking.specs.Stands.{MaybeShows, MaybeMade}
use Rattle.stk_walking.proofs.Carried.{events_seen}

-- without a replacement
pub seen_alone : {V : Type 0} (f h : V → ℤ → Type 0) (xs : List (GuardedEvent V)) (g b : Bool) (t : List Entry) (k : ℕ) (r : Option V) (other : Option Bool) → r ≡ None → MaybeShows f r other →
    Live h xs ((events_of t ++ one_if (g && not b) (hit k AlwaysTrue)) ++ one_if (g && b) (hit k AlwaysFalse)) → Live h xs (events_of (t ++ (if g then Seen k b other ∷ [] else [])))
seen_alone {V} f h xs g b t k r other is shown live = by other (subst (λ (z : Option V). MaybeShows f z other) is shown)
  where
    by : (o : Option Bool) → MaybeShows {V = V} f None o → Live h xs (events_of (t ++ (if g then Seen k b o ∷ [] else [])))
    by None u = subst (Live h xs) (events_seen g b t k) live
    by (Some c) u = absurd u

-- the truth of a replacement
pub other_shown : {V : Type 0} (f : V → ℤ → Type 0) (r : Option V) (v : V) (other : Option Bool) → r ≡ Some v → MaybeShows f r other → (c : Bool) × f v (bit c) × (other ≡ Some c)
other_shown {V} f r v other is shown = by other (subst (λ (z : Option V). MaybeShows f z other) is shown)
  where
    by : (o : Option Bool) → MaybeShows {V = V} f (Some v) o → (c : Bool) × f v (bit c) × (o ≡ Some c)
    by None u = absurd u
    by (Some c) u = (c, u, refl)

-- and its value was made
pub other_made : {V : Type 0} (f : V → Type 0) (r : Option V) (v : V) → r ≡ Some v → MaybeMade f r → f v
other_made {V} f r v is made = subst (λ (z : Option V). MaybeMade f z) is made
