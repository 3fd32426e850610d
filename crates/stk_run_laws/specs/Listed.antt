-- What runs violate is one of the function's conditions, and what they hit is one of its candidates; both lists are in
-- order.
use Rattle.std.specs.Prelude.{ℕ, ◌≡◌, ◌<◌, ◌⊎◌, true, List, [], ◌∷◌, ℤ}
use Rattle.stk_tree.specs.Syntax.{FunctionTree}
use Rattle.stk_numbers.specs.declared.conditions.CandKind.{CandKind}
use Rattle.stk_numbers.specs.declared.conditions.CandKind.TheVariants.{Arm, AlwaysTrue, AlwaysFalse, Algebra}
use Rattle.stk_numbers.specs.declared.conditions.Candidate.{Candidate}
use Rattle.stk_numbers.specs.declared.conditions.Condition.{Condition}
use Rattle.stk_numbers.specs.declared.conditions.Kinds.{Kinds}
use Rattle.stk_numbers.specs.Taken.{number_of}
use Rattle.stk_meaning.specs.declared.entry.Entry.{Entry}
use Rattle.stk_meaning.specs.declared.entry.Entry.TheVariants.{Ub}
use Rattle.stk_meaning.specs.Typings.{Typing}
use Rattle.stk_meaning.specs.Memory.{Memory}
use Rattle.stk_meaning.specs.Paths.{path}
use Rattle.stk_meaning.specs.Executions.{Answer, ExecutionStart, execution}
use Rattle.stk_meaning.specs.Lists.{conditions, candidates}
use Rattle.stk_meaning.specs.Hits.{hits}
use Rattle.stk_run_laws.specs.Visits.{IsIn, IsNumbered}
use Rattle.stk_run_laws.specs.TypedOperands.{HasScalarOperands}

-- each condition that a trace violates is one of the function's, and each candidate that it hits
pub record IsListed (ty : Typing) (without : Kinds) (f : FunctionTree) (trace : List Entry) : Type 0 where
  pub violated : (k : Condition) → IsIn (Ub k) trace → IsIn k (conditions ty without f)
  pub hit : (c : Candidate) (e : Entry) → IsIn e trace → hits c e ≡ true → IsIn c (candidates ty f)

-- in path runs, from any numbers, and in executions, from any start
abbrev pub PathRunsAreListed : Type 0
PathRunsAreListed = (ty : Typing) (without : Kinds) (f : FunctionTree) → HasScalarOperands ty f → (numbers : List ℤ) → IsListed ty without f (path ty without f numbers)

abbrev pub ExecutionsAreListed : Type 0
ExecutionsAreListed = (ty : Typing) (without : Kinds) (f : FunctionTree) → HasScalarOperands ty f → (start : ExecutionStart) (memory : Memory) (answers : List Answer) (n : ℕ) → IsListed ty without f (execution ty without f start memory answers n)

-- the order of conditions: by node, and then by kind
abbrev pub ConditionBefore : Condition → Condition → Type 0
ConditionBefore a b = (a.node < b.node) ⊎ ((a.node ≡ b.node) × (number_of a.kind < number_of b.kind))

-- the order of candidates: by node, and then by what it may be found to be
abbrev pub candidate_number : CandKind → ℕ
candidate_number Arm = 0
candidate_number AlwaysTrue = 1
candidate_number AlwaysFalse = 2
candidate_number Algebra = 3

abbrev pub CandidateBefore : Candidate → Candidate → Type 0
CandidateBefore a b = (a.node < b.node) ⊎ ((a.node ≡ b.node) × (candidate_number a.kind < candidate_number b.kind))

-- elements are in an order: each stands before all that follow it, so none is there twice
abbrev pub IsBeforeAll : {A : Type 0} → (A → A → Type 0) → A → List A → Type 0
IsBeforeAll Before x [] = Unit {0}
IsBeforeAll Before x (y ∷ ys) = Before x y × IsBeforeAll Before x ys

abbrev pub AreInOrder : {A : Type 0} → (A → A → Type 0) → List A → Type 0
AreInOrder Before [] = Unit {0}
AreInOrder Before (x ∷ xs) = IsBeforeAll Before x xs × AreInOrder Before xs

abbrev pub ConditionsAreInOrder : Type 0
ConditionsAreInOrder = (ty : Typing) (without : Kinds) (f : FunctionTree) → IsNumbered ty f → AreInOrder ConditionBefore (conditions ty without f)

abbrev pub CandidatesAreInOrder : Type 0
CandidatesAreInOrder = (ty : Typing) (f : FunctionTree) → IsNumbered ty f → AreInOrder CandidateBefore (candidates ty f)
