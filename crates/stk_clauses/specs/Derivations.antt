-- Derivations, refutations and spent logs. Earlier clauses are the given ones, then those of the steps before.
use Rattle.std.specs.Prelude.{◌≡◌, ℕ, ◌-◌, ◌<◌, ◌++◌, List, [], length, map, take, slice_index_or}
use Rattle.std.specs.List.{Contains}
use Rattle.stk_clauses.specs.declared.literal.Lit.{Lit}
use Rattle.stk_clauses.specs.declared.derivation.Derived.{Derived}
use Rattle.stk_clauses.specs.Propagation.{IsNew, Falsifies, Leaves}
use Rattle.stk_clauses.specs.Hints.{IsByHints}

-- the clauses of steps
abbrev pub clauses_of_steps : List Derived → List (List Lit)
clauses_of_steps steps = map (λ (s : Derived). s.clause) steps

-- the step is by its hints over the given clauses and the earlier steps
abbrev pub IsStep : ℕ → List (List Lit) → List Derived → Derived → Type 0
IsStep vars given earlier s = IsByHints vars (given ++ clauses_of_steps earlier) s.clause s.hints

-- each step is by its hints
abbrev pub AreSteps : ℕ → List (List Lit) → List Derived → Type 0
AreSteps vars given steps = (k : ℕ) (d : Derived) → k < length steps → IsStep vars given (take k steps) (slice_index_or steps k d)

-- the last clause is the empty one
abbrev pub EndsEmpty : List Derived → Type 0
EndsEmpty steps = (d : Derived) → (slice_index_or steps (length steps - 1) d).clause ≡ []

-- there is a step, each is by its hints, and the last clause is empty
pub record IsRefutation (vars : ℕ) (given : List (List Lit)) (steps : List Derived) : Type 0 where
  pub some : 0 < length steps
  pub each : AreSteps vars given steps
  pub empty : EndsEmpty steps

-- each step's clause is new
abbrev pub AreNew : List (List Lit) → List Derived → Type 0
AreNew given steps = (k : ℕ) (d : Derived) → k < length steps → IsNew (given ++ clauses_of_steps (take k steps)) (slice_index_or steps k d).clause

-- assuming these literals one after the other, each unassigned when its turn comes, leads to a falsified clause, and
-- nothing before does
pub record ConflictStands (cs : List (List Lit)) (turns : List Lit) : Type 0 where
  pub some : 0 < length turns
  pub quiet : (i : ℕ) → i < length turns → Falsifies cs (Contains (take i turns)) → ⊥
  pub unassigned : (i : ℕ) (d : Lit) → i < length turns → Leaves cs (Contains (take i turns)) (slice_index_or turns i d)
  pub last : Falsifies cs (Contains turns)

-- a spent log has exactly so many steps, each by its hints and new, and behind them one more conflict stands above no
-- assumption
pub record IsSpentLog (vars : ℕ) (given : List (List Lit)) (budget : ℕ) (steps : List Derived) : Type 0 where
  pub exact : length steps ≡ budget
  pub each : AreSteps vars given steps
  pub fresh : AreNew given steps
  pub conflict : (turns : List Lit) × ConflictStands (given ++ clauses_of_steps steps) turns
