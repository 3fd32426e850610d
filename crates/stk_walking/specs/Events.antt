-- The steps of a walk, and the entries of a run that they stand for.
use Rattle.std.specs.Prelude.{ℕ, ◌≡◌, Bool, true, false, not, List, [], ◌∷◌, ◌++◌, map, Option, Some, None, ℤ, if◌then◌else◌}
use Rattle.stk_numbers.specs.declared.conditions.CandKind.{CandKind}
use Rattle.stk_numbers.specs.declared.conditions.CandKind.TheVariants.{Arm, AlwaysTrue, AlwaysFalse, Algebra}
use Rattle.stk_meaning.specs.declared.entry.Entry.{Entry}
use Rattle.stk_meaning.specs.declared.entry.Entry.TheVariants.{Ub, Enter, Seen}
use Rattle.stk_meaning.specs.Operations.{bit}
use Rattle.stk_walking.specs.declared.state.Event.{Event}
use Rattle.stk_walking.specs.declared.state.Event.TheVariants.{Broken, Hit}
use Rattle.stk_walking.specs.declared.state.GuardedEvent.{GuardedEvent}

-- a candidate that is hit
abbrev pub hit : ℕ → CandKind → Event
hit k kind = Hit (record { node = k; kind = kind })

-- an event, where a test is true
abbrev pub one_if : Bool → Event → List Event
one_if b x = if b then x ∷ [] else []

-- whether a truth differs from that of a replacement
abbrev pub differs : Bool → Bool → Bool
differs true other = not other
differs false other = other

-- what an entry violates and hits, in the order of the list of candidates
abbrev pub entry_events : Entry → List Event
entry_events (Ub k) = Broken k ∷ []
entry_events (Enter k) = hit k Arm ∷ []
entry_events (Seen k b None) = one_if (not b) (hit k AlwaysTrue) ++ one_if b (hit k AlwaysFalse)
entry_events (Seen k b (Some other)) = one_if (not b) (hit k AlwaysTrue) ++ (one_if b (hit k AlwaysFalse) ++ one_if (differs b other) (hit k Algebra))

-- those of all entries
abbrev pub events_of : List Entry → List Event
events_of [] = []
events_of (e ∷ es) = entry_events e ++ events_of es

-- the events of the steps whose test is true, in order
abbrev pub Live : {V : Type 0} → (V → ℤ → Type 0) → List (GuardedEvent V) → List Event → Type 0
Live shows [] t = t ≡ []
Live shows (x ∷ xs) t = (b : Bool) × (u : List Event) × shows x.test (bit b) × Live shows xs u × (t ≡ one_if b x.event ++ u)

-- the events of all steps, in order, whatever their tests are
abbrev pub events_in : {V : Type 0} → List (GuardedEvent V) → List Event
events_in xs = map (λ x. x.event) xs

-- the events of what is seen of a test at a node, without a replacement and with one
abbrev pub truth_events : ℕ → List Event
truth_events k = hit k AlwaysTrue ∷ hit k AlwaysFalse ∷ []

abbrev pub seen_events : {A : Type 0} → ℕ → Option A → List Event
seen_events k None = truth_events k
seen_events k (Some other) = truth_events k ++ hit k Algebra ∷ []
