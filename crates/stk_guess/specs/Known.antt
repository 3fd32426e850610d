-- What is known of a function by the runs of a list of starts, and the set of conditions that is guessed from them.
use Rattle.std.specs.Prelude.{◌≡◌, ℕ, ◌<◌, true, List, [], ℤ, map, slice_get, Option, Some}
use Rattle.stk_numbers.specs.declared.conditions.Candidate.{Candidate}
use Rattle.stk_numbers.specs.declared.conditions.Condition.{Condition}
use Rattle.stk_numbers.specs.declared.conditions.Inputs.{Inputs}
use Rattle.stk_meaning.specs.declared.entry.Entry.{Entry}
use Rattle.stk_meaning.specs.Hits.{has}
use Rattle.stk_meaning.specs.declared.finding.Need.{Need}
use Rattle.stk_meaning.specs.Findings.{Subject, members, NoAnswer, IsMinimal}

-- each condition of the first list is in the second
pub record AreIncluded (small large : List Condition) : Type 0 where
  pub by : (k : Condition) → has small k ≡ true → has large k ≡ true

-- the numbers are those of the start at a place
pub record IsAt (starts : List Inputs) (place : ℕ) (numbers : List ℤ) : Type 0 where
  pub start : Inputs
  pub is : slice_get starts place ≡ Some start
  pub same : start.numbers ≡ numbers

pub record IsKnown (starts : List Inputs) (numbers : List ℤ) : Type 0 where
  pub place : ℕ
  pub at : IsAt starts place numbers

-- one stands before a place
pub record IsKnownBelow (starts : List Inputs) (end : ℕ) (numbers : List ℤ) : Type 0 where
  pub place : ℕ
  pub below : place < end
  pub at : IsAt starts place numbers

-- What findings would speak of if the known starts were all maps, in their order.
abbrev pub known_subject : Subject → List Inputs → Subject
known_subject q starts = record {
  IsMap = IsKnown starts;
  Before = λ xs ys. (place : ℕ) → IsAt starts place ys → IsKnownBelow starts place xs;
  run = q.run;
  conditions = q.conditions;
  tries_all = true;
  Spent = λ c set. ⊥;
  Suffices = λ c set. Unit {0};
}

-- the known starts are maps
pub record AreMaps (q : Subject) (starts : List Inputs) : Type 0 where
  pub by : (numbers : List ℤ) → IsKnown starts numbers → q.IsMap numbers

-- The set that is guessed from the known starts: the one that is minimal by deletion if they are all maps. So a
-- condition is a member exactly where a known start answers the query for the conditions below it and the members above
-- it, and the first such start shows it.
pub record IsGuess (q : Subject) (starts : List Inputs) (c : Candidate) (needs : List Need) : Type 0 where
  pub minimal : IsMinimal (known_subject q starts) c [] q.conditions needs
  pub apart : NoAnswer (known_subject q starts) c (members needs)

-- the runs of the starts, in order
abbrev pub runs_of : (List ℤ → List Entry) → List Inputs → List (Option (List Entry))
runs_of run starts = map (λ s. Some (run s.numbers)) starts
