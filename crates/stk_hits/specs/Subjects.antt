-- What findings speak of where the runs of all input maps are at hand, in the order of the maps.
use Rattle.std.specs.Prelude.{◌≡◌, ℕ, ◌+◌, ◌*◌, ◌^◌, true, List, [], ◌∷◌, ℤ, slice_get, Option, Some, None}
use Rattle.stk_ctype.specs.declared.kind.IntKind.{IntKind}
use Rattle.stk_numbers.specs.declared.conditions.Condition.{Condition}
use Rattle.stk_numbers.specs.Kinds.{width_of, residue}
use Rattle.stk_meaning.specs.declared.entry.Entry.{Entry}
use Rattle.stk_meaning.specs.Findings.{Subject}
use Rattle.stk_hits.specs.InputMaps.{bits_in, Covers, Precedes}

-- the number of a map: the bits of its first number are the highest ones
abbrev pub number_of : List IntKind → List ℤ → ℕ
number_of [] xs = 0
number_of (k ∷ ks) [] = 0
number_of (k ∷ ks) (x ∷ xs) = residue (width_of k) x * 2 ^ bits_in ks + number_of ks xs

-- the trace of a run, where there is one
abbrev pub trace_at : Option (Option (List Entry)) → List Entry
trace_at None = []
trace_at (Some None) = []
trace_at (Some (Some t)) = t

-- the map with this number has a run: it is valid
pub record HasRun (runs : List (Option (List Entry))) (n : ℕ) : Type 0 where
  pub trace : List Entry
  pub is : slice_get runs n ≡ Some (Some trace)

-- Maps are those for keys of these kinds that have a run in the list; all of them are tried, so no query is given up.
-- Nothing is said of executions.
abbrev pub subject_of : List IntKind → List (Option (List Entry)) → List Condition → Subject
subject_of ks runs conditions = record {
  IsMap = λ xs. Covers ks xs × HasRun runs (number_of ks xs);
  Before = Precedes ks;
  run = λ xs. trace_at (slice_get runs (number_of ks xs));
  conditions = conditions;
  tries_all = true;
  Spent = λ c set. ⊥;
  Suffices = λ c set. Unit {0};
}
