-- What the steps of a walk say at one input map.
use Rattle.std.specs.Prelude.{◌≡◌, ℕ, Bool, List, [], ◌∷◌, if◌then◌else◌}
use Rattle.stk_numbers.specs.declared.conditions.Condition.{Condition}
use Rattle.stk_values.specs.declared.walked.Step.{Step}
use Rattle.stk_values.specs.declared.walked.Step.TheVariants.{Broken, Hit}

-- a condition that is violated, and a candidate that is hit, by its position in the list of candidates
pub data ListedEvent : Type 0 where
  is_violated : Condition → ListedEvent
  is_hit : ℕ → ListedEvent

-- what a step says where its test is true, and its test
abbrev pub event_of : {V : Type 0} → Step V → ListedEvent
event_of (Broken k v) = is_violated k
event_of (Hit j v) = is_hit j

abbrev pub test_of : {V : Type 0} → Step V → V
test_of (Broken k v) = v
test_of (Hit j v) = v

-- each step's test has a property
abbrev pub EachTest : {V : Type 0} → (V → Type 0) → List (Step V) → Type 0
EachTest P [] = Unit {0}
EachTest P (x ∷ xs) = P (test_of x) × EachTest P xs

-- the steps whose tests are true say these events, in order, where `shows` tells the truth of each test
abbrev pub Says : {V : Type 0} → (V → Bool → Type 0) → List (Step V) → List ListedEvent → Type 0
Says shows [] t = t ≡ []
Says shows (x ∷ xs) t = (b : Bool) × (u : List ListedEvent) × shows (test_of x) b × Says shows xs u × (t ≡ (if b then event_of x ∷ u else u))
