-- Where candidates stand in the list of a function, and what a trace says by these positions.
use Rattle.std.specs.Prelude.{ℕ, ◌+◌, ◌<◌, ◌≡◌, ◌==◌, ◌&&◌, Bool, List, [], ◌∷◌, ◌++◌, length, get_or, map, if◌then◌else◌}
use Rattle.std.specs.List.{position_or_len}
use Rattle.stk_tree.specs.Syntax.{FunctionTree}
use Rattle.stk_numbers.specs.declared.conditions.Candidate.{Candidate}
use Rattle.stk_numbers.specs.declared.conditions.Kinds.{Kinds}
use Rattle.stk_meaning.specs.declared.entry.Entry.{Entry}
use Rattle.stk_meaning.specs.declared.entry.Entry.TheVariants.{Ub, Enter, Seen}
use Rattle.stk_meaning.specs.Typings.{Typing}
use Rattle.stk_meaning.specs.Lists.{candidates}
use Rattle.stk_meaning.specs.Hits.{hits}
use Rattle.stk_run_laws.specs.Visits.{IsIn, IsNumbered}
use Rattle.stk_run_laws.specs.Listed.{candidate_number, IsListed}
use Rattle.stk_values.specs.declared.walked.Step.{Step}
use Rattle.stk_values.specs.declared.walked.Step.TheVariants as steps
use Rattle.stk_values.specs.Walks.{ListedEvent, is_violated, is_hit}
use Rattle.stk_walking.specs.declared.state.Event.{Event}
use Rattle.stk_walking.specs.declared.state.Event.TheVariants.{Broken, Hit}
use Rattle.stk_walking.specs.declared.state.GuardedEvent.{GuardedEvent}
use Rattle.stk_walking.specs.Events.{events_of}

-- whether two candidates are one
abbrev pub same_candidate : Candidate → Candidate → Bool
same_candidate a b = a.node == b.node && candidate_number a.kind == candidate_number b.kind

-- the position of a candidate in a list: how many stand before it
abbrev pub position_in : List Candidate → Candidate → ℕ
position_in cs c = position_or_len (λ d. same_candidate d c) cs

-- the positions, in order, of the candidates that an entry hits; the first of the list stands at j
abbrev pub hit_positions : ℕ → List Candidate → Entry → List ListedEvent
hit_positions j [] e = []
hit_positions j (c ∷ cs) e = (if hits c e then is_hit j ∷ [] else []) ++ hit_positions (j + 1) cs e

-- what an entry says: a condition that is violated, or the candidates that it hits
abbrev pub listed_entry : List Candidate → Entry → List ListedEvent
listed_entry cs (Ub k) = is_violated k ∷ []
listed_entry cs (Enter n) = hit_positions 0 cs (Enter n)
listed_entry cs (Seen n truth other) = hit_positions 0 cs (Seen n truth other)

-- what a trace says, entry by entry
abbrev pub listed_events : List Candidate → List Entry → List ListedEvent
listed_events cs [] = []
listed_events cs (e ∷ t) = listed_entry cs e ++ listed_events cs t

-- an event with the position of its candidate
abbrev pub listed_event : List Candidate → Event → ListedEvent
listed_event cs (Broken k) = is_violated k
listed_event cs (Hit c) = is_hit (position_in cs c)

-- a step of a walk with the position of its candidate
abbrev pub step_at : {V : Type 0} → List Candidate → Event → V → Step V
step_at cs (Broken k) v = steps.Broken k v
step_at cs (Hit c) v = steps.Hit (position_in cs c) v

abbrev pub listed_step : {V : Type 0} → List Candidate → GuardedEvent V → Step V
listed_step cs x = step_at cs x.event x.test

-- what a trace says is what its entries say one after the other
abbrev pub TracesAreListed : Type 0
TracesAreListed =
    (ty : Typing) (without : Kinds) (f : FunctionTree) → IsNumbered ty f → (trace : List Entry) → IsListed ty without f trace →
    listed_events (candidates ty f) trace ≡ map (listed_event (candidates ty f)) (events_of trace)

-- each candidate of a list stands at its position, and each position is that of the candidate there
pub record HavePositions (cs : List Candidate) : Type 0 where
  pub within : (c : Candidate) → IsIn c cs → position_in cs c < length cs
  pub there : (c d : Candidate) → IsIn c cs → get_or cs (position_in cs c) d ≡ c
  pub only : (j : ℕ) (d : Candidate) → j < length cs → position_in cs (get_or cs j d) ≡ j

abbrev pub CandidatesStandAtPositions : Type 0
CandidatesStandAtPositions = (ty : Typing) (f : FunctionTree) → IsNumbered ty f → HavePositions (candidates ty f)
