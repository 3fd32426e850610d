-- Queries over the runs of input maps: which is the first that hits a candidate free of a set of conditions.
use Rattle.std.specs.Prelude.{◌≡◌, ℕ, ◌<◌, Bool, List, slice_get, Option, Some}
use Rattle.stk_numbers.specs.declared.conditions.Candidate.{Candidate}
use Rattle.stk_numbers.specs.declared.conditions.Condition.{Condition}
use Rattle.stk_meaning.specs.declared.entry.Entry.{Entry}
use Rattle.stk_meaning.specs.Hits.{has, HitsFree}
use Rattle.stk_hits.specs.declared.condition_ids.ConditionId.{ConditionId}
use Rattle.stk_hits.specs.ConditionIds.{condition_id_of}

-- a test of condition_ids that the conditions of a set pass, and no others
abbrev pub IsTestOf : (ConditionId → Bool) → List Condition → Type 0
IsTestOf test set = (k : Condition) → test (condition_id_of k) ≡ has set k

-- the run of the map with this number hits the candidate free of the set
pub record IsFree (runs : List (Option (List Entry))) (c : Candidate) (set : List Condition) (f : ℕ) : Type 0 where
  pub trace : List Entry
  pub is : slice_get runs f ≡ Some (Some trace)
  pub hits : HitsFree set c trace

-- no map's does
abbrev pub NoneIsFree : List (Option (List Entry)) → Candidate → List Condition → Type 0
NoneIsFree runs c set = (f : ℕ) → IsFree runs c set f → ⊥

-- this map's does, and no earlier one's
pub record IsFirstFree (runs : List (Option (List Entry))) (c : Candidate) (set : List Condition) (f : ℕ) : Type 0 where
  pub free : IsFree runs c set f
  pub first : (g : ℕ) → g < f → IsFree runs c set g → ⊥
