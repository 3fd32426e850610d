-- What the steps of a walk say, each with the position of its candidate.
use Rattle.std.proofs.Common.{◌≡◌, Bool, true, false, List, [], ◌∷◌, ◌++◌, ℤ, refl, ap, ◌∙◌}
use Rattle.std.specs.Prelude.{map, if◌then◌else◌}
use Rattle.stk_numbers.specs.declared.conditions.Candidate.{Candidate}
use Rattle.stk_meaning.specs.Operations.{bit}
use Rattle.stk_values.specs.Walks.{event_of, test_of, Says}
use Rattle.stk_walking.specs.declared.state.Event.{Event}
use Rattle.stk_walking.specs.declared.state.Event.TheVariants.{Broken, Hit}
use Rattle.stk_walking.specs.declared.state.GuardedEvent.{GuardedEvent}
use Rattle.stk_walking.specs.Events.{one_if, Live}
use Rattle.stk_event_laws.specs.Positions.{listed_event, step_at, listed_step}

module _ {V : Type 0} (shows : V → ℤ → Type 0) (cs : List Candidate) where
  abbrev tells : V → Bool → Type 0
  tells v b = shows v (bit b)

  same_test : (x : Event) (v : V) (b : Bool) → tells v b → tells (test_of (step_at cs x v)) b
  same_test (Broken k) v b h = h
  same_test (Hit c) v b h = h

  same_event : (x : Event) (v : V) → listed_event cs x ≡ event_of (step_at cs x v)
  same_event (Broken k) v = refl
  same_event (Hit c) v = refl

  one_more : (b : Bool) (x : Event) (v : V) (u : List Event) → map (listed_event cs) (one_if b x ++ u) ≡ (if b then event_of (step_at cs x v) ∷ map (listed_event cs) u else map (listed_event cs) u)
  one_more true x v u = ap (λ y. y ∷ map (listed_event cs) u) (same_event x v)
  one_more false x v u = refl

  -- those whose tests are true say the events, each with the position of its candidate
  pub live_says : (xs : List (GuardedEvent V)) (t : List Event) → Live shows xs t → Says (λ v b. shows v (bit b)) (map (λ x. listed_step cs x) xs) (map (listed_event cs) t)
  live_says [] t h = ap (λ u. map (listed_event cs) u) h
  live_says (x ∷ xs) t h = (h.0, map (listed_event cs) h.1, same_test x.event x.test h.0 h.2, live_says xs h.1 h.3, ap (λ u. map (listed_event cs) u) h.4 ∙ one_more h.0 x.event x.test h.1)
