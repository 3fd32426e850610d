-- Tables of hits: which runs of input maps hit which candidates, and which conditions they violate before.
use Rattle.std.specs.Prelude.{◌≡◌, ℕ, suc, ◌≤◌, ◌⊎◌, Bool, true, ◌&&◌, nat_eq, List, [], ◌∷◌, ◌++◌, length, slice_get, Option, Some, if◌then◌else◌}
use Rattle.stk_numbers.specs.declared.conditions.Candidate.{Candidate}
use Rattle.stk_meaning.specs.declared.entry.Entry.{Entry}
use Rattle.stk_meaning.specs.Hits.{hits}
use Rattle.stk_hits.specs.declared.condition_ids.ConditionId.{ConditionId}
use Rattle.stk_hits.specs.declared.hit_table.Step.{Step}
use Rattle.stk_hits.specs.declared.hit_table.Hit.{Hit}
use Rattle.stk_hits.specs.declared.hit_table.Row.{Row}
use Rattle.stk_hits.specs.ConditionIds.{kind_number, condition_ids_of}

-- The steps from a set of conditions to one with one more, in the order in which they were made; and hits with the
-- number of the first run that has them.
pub record Table : Type 0 where
  pub steps : List Step
  pub hits : List (Hit × ℕ)

-- the condition of a step
abbrev pub step_condition_id : Step → ConditionId
step_condition_id s = record { node = s.node; kind = s.kind }

-- The number of a set of conditions, in the order in which a run violates them: 0 of the empty one; of a set with one
-- more, one more than the place of the step that leads to it.
pub data IsNumberOf (steps : List Step) : ℕ → List ConditionId → Type 0 where
  nothing : IsNumberOf steps 0 []
  more : {i j : ℕ} {x : ConditionId} {ms : List ConditionId} → IsNumberOf steps i ms → slice_get steps j ≡ Some (record { before = i; node = x.node; kind = x.kind }) → IsNumberOf steps (suc j) (ms ++ x ∷ [])

-- each step goes on from a set whose number is lower than that of the set to which it leads
abbrev pub AreSteps : List Step → Type 0
AreSteps steps = (j : ℕ) (s : Step) → slice_get steps j ≡ Some s → s.before ≤ j

-- an entry stands behind others in the run of the map with a number: in one of the runs of a list, or in the part of
-- the next one
pub record Stands (runs : List (Option (List Entry))) (begun : List Entry) (f : ℕ) (before : List Entry) (e : Entry) : Type 0 where
  pub behind : List Entry
  pub is : (slice_get runs f ≡ Some (Some (before ++ e ∷ behind))) ⊎ ((f ≡ length runs) × (begun ≡ before ++ e ∷ behind))

-- a hit of a candidate behind a set
abbrev pub hit_of : Candidate → ℕ → Hit
hit_of c set = record { node = c.node; kind = kind_number c.kind; set = set }

-- a hit is one of the run with this number
pub record IsHitOf (runs : List (Option (List Entry))) (begun : List Entry) (steps : List Step) (h : Hit) (f : ℕ) : Type 0 where
  pub candidate : Candidate
  pub before : List Entry
  pub entry : Entry
  pub stands : Stands runs begun f before entry
  pub hit : hits candidate entry ≡ true
  pub set : ℕ
  pub is : h ≡ hit_of candidate set
  pub set_is : IsNumberOf steps set (condition_ids_of before)

-- the table has a hit of a candidate behind the same conditions, of this run or an earlier one
pub record IsTold (t : Table) (c : Candidate) (before : List Entry) (f : ℕ) : Type 0 where
  pub place : ℕ
  pub set : ℕ
  pub first : ℕ
  pub row : slice_get t.hits place ≡ Some (hit_of c set, first)
  pub set_is : IsNumberOf t.steps set (condition_ids_of before)
  pub early : first ≤ f

-- The table describes the runs of the first input maps, in order, and a part of the next one's: it has hits of theirs
-- alone, and tells of each of theirs; earlier runs' stand first. A map without a run isn't valid.
pub record Describes (runs : List (Option (List Entry))) (begun : List Entry) (t : Table) : Type 0 where
  pub sound : (j f : ℕ) (h : Hit) → slice_get t.hits j ≡ Some (h, f) → IsHitOf runs begun t.steps h f
  pub complete : (f : ℕ) (before : List Entry) (e : Entry) (c : Candidate) → Stands runs begun f before e → hits c e ≡ true → IsTold t c before f
  pub ascending : (i j f g : ℕ) (h k : Hit) → i ≤ j → slice_get t.hits i ≡ Some (h, f) → slice_get t.hits j ≡ Some (k, g) → f ≤ g

-- the hits of one candidate: each by the number of the set before it and that of the first run
abbrev pub is_of : Candidate → Hit → Bool
is_of c h = nat_eq h.node c.node && nat_eq h.kind (kind_number c.kind)

abbrev pub rows_of : Candidate → List (Hit × ℕ) → List Row
rows_of c [] = []
rows_of c (x ∷ xs) = if is_of c x.0 then record { set = x.0.set; first = x.1 } ∷ rows_of c xs else rows_of c xs
