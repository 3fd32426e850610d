-- The steps of a walk on which a goal depends, and the places where they stand.
use Rattle.std.specs.Prelude.{◌≡◌, ℕ, zero, suc, ◌<◌, Bool, true, false, ◌&&◌, List, [], ◌∷◌, length, filter, get_or, map, nat_eq, if◌then◌else◌}
use Rattle.std.specs.List.{list_any}
use Rattle.std.specs.declared.option.Option.{Option}
use Rattle.std.specs.declared.option.Option.TheVariants.{None, Some}
use Rattle.indexmap.specs.IndexMap.{get}
use Rattle.stk_numbers.specs.declared.conditions.Condition.{Condition}
use Rattle.stk_numbers.specs.Taken.{number_of}
use Rattle.stk_meaning.specs.Hits.{has, same_condition}
use Rattle.stk_terms.specs.declared.term.TermId.{TermId}
use Rattle.stk_values.specs.declared.walked.Step.{Step}
use Rattle.stk_values.specs.Walks.{ListedEvent, is_violated, is_hit, event_of}
use Rattle.stk_symbols.specs.Goals.{is_hit_free, goal_charge}
use Rattle.stk_symbols.specs.declared.step_index.ConditionKey.{ConditionKey}
use Rattle.stk_symbols.specs.declared.step_index.StepEvent.{StepEvent}
use Rattle.stk_symbols.specs.declared.step_index.StepEvent.TheVariants.{Violation, Hit}
use Rattle.stk_symbols.specs.declared.step_index.StepIndex.{StepIndex}

-- ---- what matters

-- whether a goal for a set and a candidate depends on an event: the violation of a member, or a hit of the candidate
abbrev pub matters : List Condition → ℕ → ListedEvent → Bool
matters set c (is_violated k) = has set k
matters set c (is_hit j) = nat_eq j c

abbrev pub steps_that_matter : {V : Type 0} → List Condition → ℕ → List (Step V) → List (Step V)
steps_that_matter set c steps = filter (λ x. matters set c (event_of x)) steps

-- A goal says the same of all events and of those that matter, and is charged the same for all steps and for those that
-- matter.
pub record OthersDoNotMatter (set : List Condition) (c : ℕ) : Type 0 where
  pub said : (events : List ListedEvent) → is_hit_free set c (filter (matters set c) events) ≡ is_hit_free set c events
  pub charged : (steps : List (Step TermId)) → goal_charge set c (steps_that_matter set c steps) ≡ goal_charge set c steps

abbrev pub GoalsDependOnWhatMatters : Type 0
GoalsDependOnWhatMatters = (set : List Condition) (c : ℕ) → OthersDoNotMatter set c

-- ---- places

-- whether two events are one
abbrev pub same_event : ListedEvent → ListedEvent → Bool
same_event (is_violated k) (is_violated j) = same_condition k j
same_event (is_violated k) (is_hit j) = false
same_event (is_hit i) (is_violated j) = false
same_event (is_hit i) (is_hit j) = nat_eq i j

-- whether the event at a place passes a test
abbrev pub passes_at : (ListedEvent → Bool) → List ListedEvent → ℕ → Bool
passes_at test [] q = false
passes_at test (x ∷ xs) zero = test x
passes_at test (x ∷ xs) (suc q) = passes_at test xs q

-- the last place below an end where an event stands
abbrev pub last_place : List ListedEvent → ListedEvent → ℕ → Option ℕ
last_place events e zero = None
last_place events e (suc n) = if passes_at (same_event e) events n then Some n else last_place events e n

-- these are the places where an event passes a test, in any order, some of them maybe more than once
abbrev pub ArePlaces : (ListedEvent → Bool) → List ListedEvent → List ℕ → Type 0
ArePlaces test events places = (q : ℕ) → list_any (nat_eq q) places ≡ passes_at test events q

-- ---- the index

-- the events of steps, in order
abbrev pub events_of : {V : Type 0} → List (Step V) → List ListedEvent
events_of steps = map (λ x. event_of x) steps

-- what an event of the index tells of
abbrev pub event_in : StepEvent → ListedEvent
event_in (Violation k) = is_violated k
event_in (Hit j) = is_hit j

abbrev pub condition_key : Condition → ConditionKey
condition_key k = record { node = k.node; kind = number_of k.kind }

abbrev pub same_key : ConditionKey → ConditionKey → Bool
same_key a b = nat_eq a.node b.node && nat_eq a.kind b.kind

-- an index has the last place of each event among the first ones of a list
pub record HasLastPlaces (index : StepIndex) (events : List ListedEvent) (end : ℕ) : Type 0 where
  pub violations : (k : Condition) → get same_key index.violations (condition_key k) ≡ last_place events (is_violated k) end
  pub hits : (j : ℕ) → get nat_eq index.hits j ≡ last_place events (is_hit j) end

-- An index of the first events of a list: it has the last place of each event among them, and for each place among them
-- the last one before it where the same event stands.
pub record IsIndexOf (index : StepIndex) (events : List ListedEvent) (end : ℕ) : Type 0 where
  pub last : HasLastPlaces index events end
  pub count : length index.earlier.items ≡ end
  pub earlier : (q : ℕ) (e : ListedEvent) → q < end → passes_at (same_event e) events q ≡ true → get_or index.earlier.items q None ≡ last_place events e q
