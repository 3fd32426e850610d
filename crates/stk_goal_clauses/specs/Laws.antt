-- What clauses that stand for a goal say of it, as laws.
use Rattle.std.specs.Prelude.{◌≡◌, ◌≢◌, ℕ, Bool, false, List, slice_index_or}
use Rattle.stk_clauses.specs.declared.store.Cnf.{Cnf}
use Rattle.stk_clauses.specs.Literals.{Satisfies, IsUnsatisfiable}
use Rattle.stk_terms.specs.Terms.{Stored}
use Rattle.stk_terms.specs.Fitting.{AreResidues}
use Rattle.stk_terms.specs.Values.{number_at}
use Rattle.stk_goal_clauses.specs.Standing.{StandsForGoal}
use Rattle.stk_goal_clauses.specs.Reading.{residues_in}

-- there is one residue for each input, in range, and they make the term 1
pub record MakesOne (s : Stored) (i : ℕ) (residues : List ℕ) : Type 0 where
  pub fit : AreResidues s.inputs residues
  pub one : number_at s residues i ≡ 1

-- no residues make the term 1
abbrev pub IsNever : Stored → ℕ → Type 0
IsNever s i = (residues : List ℕ) → AreResidues s.inputs residues → number_at s residues i ≢ 1

-- values that satisfy the clauses are those of inputs that make the term 1
abbrev pub SatisfiedMakesOne : Type 0
SatisfiedMakesOne = (s : Stored) (i : ℕ) (cnf : Cnf) (values : List Bool) → StandsForGoal s i cnf → Satisfies (λ v. slice_index_or values v false) cnf.store → MakesOne s i (residues_in s.inputs values)

-- where nothing satisfies the clauses, no inputs make the term 1
abbrev pub UnsatisfiableIsNever : Type 0
UnsatisfiableIsNever = (s : Stored) (i : ℕ) (cnf : Cnf) → StandsForGoal s i cnf → IsUnsatisfiable cnf.store → IsNever s i
