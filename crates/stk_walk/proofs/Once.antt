-- No event stands twice among the steps of a walk, each hit by the position of its candidate.
use Rattle.std.proofs.Common.{◌≡◌, ◌∙◌, ℕ, List, [], ◌∷◌, map, get_or, refl, sym, ap, subst, inl, inr}
use Rattle.stk_numbers.specs.declared.conditions.Candidate.{Candidate}
use Rattle.stk_numbers.specs.declared.conditions.Condition.{Condition}
use Rattle.stk_run_laws.specs.Visits.{IsIn}
use Rattle.stk_values.specs.Walks.{ListedEvent, is_violated, is_hit, event_of}
use Rattle.stk_walking.specs.declared.state.Event.{Event}
use Rattle.stk_walking.specs.declared.state.Event.TheVariants.{Broken, Hit}
use Rattle.stk_walking.specs.declared.state.GuardedEvent.{GuardedEvent}
use Rattle.stk_walking.specs.Events.{events_in}
use Rattle.stk_event_laws.specs.Listed.{StandOnce}
use Rattle.stk_event_laws.specs.Positions.{position_in, listed_event, step_at, listed_step}
use Rattle.stk_event_laws.proofs.Places.{is_at}
use Rattle.stk_walk.specs.Steps.{IsHitIn, AreHitsIn}

abbrev violated_or : Condition → ListedEvent → Condition
violated_or k (is_violated j) = j
violated_or k (is_hit p) = k

abbrev position_or : ℕ → ListedEvent → ℕ
position_or p (is_violated j) = p
position_or p (is_hit q) = q

event_at : {V : Type 0} (cs : List Candidate) (x : Event) (v : V) → event_of (step_at cs x v) ≡ listed_event cs x
event_at cs (Broken k) v = refl
event_at cs (Hit c) v = refl

-- two events that are listed alike are one
one_event : (cs : List Candidate) (x y : Event) → IsHitIn cs x → IsHitIn cs y → listed_event cs x ≡ listed_event cs y → x ≡ y
one_event cs (Broken k) (Broken j) h i e = let same : k ≡ j = ap (violated_or k) e in ap Broken same
one_event cs (Broken k) (Hit d) h i e = absurd cc
one_event cs (Hit c) (Broken j) h i e = absurd cc
one_event cs (Hit c) (Hit d) h i e =
    let same : position_in cs c ≡ position_in cs d = ap (position_or 0) e in
    let candidate : c ≡ d = sym ((is_at cs c h).there c) ∙ ap (λ p. get_or cs p c) same ∙ (is_at cs d i).there c in
    ap Hit candidate

of_map : {A B : Type 0} (f : A → B) (xs : List A) (y : B) → IsIn y (map f xs) → (x : A) × IsIn x xs × (y ≡ f x)
of_map f [] y i = absurd i
of_map f (x ∷ xs) y (inl e) = (x, inl refl, e)
of_map f (x ∷ xs) y (inr i) = let r = of_map f xs y i in (r.0, inr r.1, r.2)

each_hit : (cs : List Candidate) (xs : List Event) → AreHitsIn cs xs → (x : Event) → IsIn x xs → IsHitIn cs x
each_hit cs [] h x i = absurd i
each_hit cs (y ∷ xs) h x (inl e) = subst (IsHitIn cs) (sym e) h.0
each_hit cs (y ∷ xs) h x (inr i) = each_hit cs xs h.1 x i

once_listed : (cs : List Candidate) (xs : List Event) → AreHitsIn cs xs → StandOnce xs → StandOnce (map (listed_event cs) xs)
once_listed cs [] h o = tt
once_listed cs (x ∷ xs) h o = (
  (λ i.
      let r = of_map (listed_event cs) xs (listed_event cs x) i in
      let same : x ≡ r.0 = one_event cs x r.0 h.0 (each_hit cs xs h.1 r.0 r.1) r.2 in
      o.0 (subst (λ y. IsIn y xs) (sym same) r.1)),
  once_listed cs xs h.1 o.1,
)

pub steps_say : {V : Type 0} (cs : List Candidate) (xs : List (GuardedEvent V)) → map (λ y. event_of y) (map (λ x. listed_step cs x) xs) ≡ map (listed_event cs) (events_in xs)
steps_say cs [] = refl
steps_say cs (x ∷ xs) = ap (λ z. z ∷ map (λ y. event_of y) (map (λ u. listed_step cs u) xs)) (event_at cs x.event x.test) ∙ ap (λ z. listed_event cs x.event ∷ z) (steps_say cs xs)

pub steps_once : {V : Type 0} (cs : List Candidate) (xs : List (GuardedEvent V)) → AreHitsIn cs (events_in xs) → StandOnce (events_in xs) → StandOnce (map (λ y. event_of y) (map (λ x. listed_step cs x) xs))
steps_once cs xs h o = subst StandOnce (sym (steps_say cs xs)) (once_listed cs (events_in xs) h o)
