-- What an answer says.
use Rattle.std.specs.Prelude.{◌≡◌, ℕ, ◌+◌, ◌≤◌, false, List, length, slice_index_or}
use Rattle.stk_clauses.specs.declared.literal.Lit.{Lit}
use Rattle.stk_clauses.specs.Literals.{Satisfies}
use Rattle.stk_clauses.specs.Derivations.{IsRefutation, IsSpentLog}
use Rattle.stk_solver.specs.declared.solving.Answer.{Answer}
use Rattle.stk_solver.specs.declared.solving.Answer.TheVariants.{Satisfied, Refuted, Spent}

-- values that satisfy the clauses, one for each variable; a refutation of at most one step more than the budget; or a
-- spent log of the budget
abbrev pub IsAnswer : ℕ → List (List Lit) → ℕ → Answer → Type 0
IsAnswer vars given budget (Satisfied values) = (length values.bits ≡ vars) × Satisfies (λ v. slice_index_or values.bits v false) given
IsAnswer vars given budget (Refuted derivation) = IsRefutation vars given derivation.steps × (length derivation.steps ≤ budget + 1)
IsAnswer vars given budget (Spent log) = IsSpentLog vars given budget log.steps
