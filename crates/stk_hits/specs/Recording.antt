-- What taking up an entry of a run does to a table.
use Rattle.std.specs.Prelude.{◌≡◌, ℕ, suc, ◌≤◌, Bool, true, false, not, ◌&&◌, nat_eq, List, [], ◌∷◌, ◌++◌, length, slice_get, Option, Some, None, if◌then◌else◌}
use Rattle.stk_numbers.specs.declared.conditions.CandKind.{CandKind}
use Rattle.stk_numbers.specs.declared.conditions.CandKind.TheVariants.{Arm, AlwaysTrue, AlwaysFalse, Algebra}
use Rattle.stk_numbers.specs.declared.conditions.Candidate.{Candidate}
use Rattle.stk_meaning.specs.declared.entry.Entry.{Entry}
use Rattle.stk_meaning.specs.declared.entry.Entry.TheVariants.{Ub, Enter, Seen}
use Rattle.stk_meaning.specs.Hits.{differs}
use Rattle.stk_hits.specs.declared.hit_table.Hit.{Hit}
use Rattle.stk_hits.specs.declared.hit_table.Step.{Step}
use Rattle.stk_hits.specs.declared.condition_ids.ConditionId.{ConditionId}
use Rattle.stk_hits.specs.ConditionIds.{entry_condition_ids}
use Rattle.stk_hits.specs.Tables.{Table, IsNumberOf, hit_of}

-- the candidate that an entry hits by itself: a branch that is entered, a test that is always true but for this, or
-- always false
abbrev pub seen_kind : Bool → CandKind
seen_kind true = AlwaysFalse
seen_kind false = AlwaysTrue

abbrev pub plain_hit : Entry → Option Candidate
plain_hit (Ub k) = None
plain_hit (Enter n) = Some (record { node = n; kind = Arm })
plain_hit (Seen n truth other) = Some (record { node = n; kind = seen_kind truth })

-- the candidate that it hits by the truth of its replacement
abbrev pub replaced_at : ℕ → Bool → Option Candidate
replaced_at n true = Some (record { node = n; kind = Algebra })
replaced_at n false = None

abbrev pub replaced_hit : Entry → Option Candidate
replaced_hit (Ub k) = None
replaced_hit (Enter n) = None
replaced_hit (Seen n truth other) = replaced_at n (differs truth other)

-- whether two hits are one
abbrev pub same_hit : Hit → Hit → Bool
same_hit a b = nat_eq a.node b.node && (nat_eq a.kind b.kind && nat_eq a.set b.set)

-- a hit of the run with this number, where no earlier one has it
abbrev pub noted : List (Hit × ℕ) → Hit → ℕ → List (Hit × ℕ)
noted [] h n = (h, n) ∷ []
noted (e ∷ es) h n = if same_hit h e.0 then e ∷ es else e ∷ noted es h n

abbrev pub noted_of : List (Hit × ℕ) → Option Candidate → ℕ → ℕ → List (Hit × ℕ)
noted_of es None set n = es
noted_of es (Some c) set n = noted es (hit_of c set) n

-- the steps that were there stay at their places, and the hits are the same
pub record KeepsSteps (old new : Table) : Type 0 where
  pub steps : (j : ℕ) (s : Step) → slice_get old.steps j ≡ Some s → slice_get new.steps j ≡ Some s
  pub hits : new.hits ≡ old.hits

-- a set behind an entry: with its condition, where it is one
pub record GoesOn (old new : Table) (set : ℕ) (e : Entry) (number : ℕ) : Type 0 where
  pub keeps : KeepsSteps old new
  pub is : (ms : List ConditionId) → IsNumberOf old.steps set ms → IsNumberOf new.steps number (ms ++ entry_condition_ids e)
  pub within : number ≤ length new.steps
