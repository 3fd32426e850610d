-- What the clauses of a goal say of a query.
use Rattle.std.proofs.Common.{ℕ, List, sym, ◌∙◌, arith}
use Rattle.stk_tree.specs.Syntax.{FunctionTree}
use Rattle.stk_numbers.specs.declared.conditions.Candidate.{Candidate}
use Rattle.stk_numbers.specs.declared.conditions.Condition.{Condition}
use Rattle.stk_numbers.specs.declared.conditions.Kinds.{Kinds}
use Rattle.stk_meaning.specs.Typings.{Typing}
use Rattle.stk_clauses.specs.declared.store.Cnf.{Cnf}
use Rattle.stk_clauses.specs.Literals.{IsUnsatisfiable}
use Rattle.stk_gates.proofs.Decided.{every_input}
use Rattle.stk_gates.specs.Laws.{values_for}
use Rattle.stk_terms.specs.Terms.{Stored}
use Rattle.stk_terms.specs.Fitting.{AreResidues}
use Rattle.stk_blast.specs.Laws.{input_bits}
use Rattle.stk_blast.proofs.InputBits.{enough}
use Rattle.stk_cnf.specs.Standing.{variables}
use Rattle.stk_goal_clauses.specs.Standing.{StandsForInputs, StandsForGoal, IsWithinBound}
use Rattle.stk_goals.specs.Queries.{IsGoalOf}
use Rattle.stk_goals.proofs.Answered.{stands_for, bits_of_goal}
use Rattle.stk_source_audit.specs.Functions.{IsFormulaOf}

-- the clauses of a goal of the query
pub formula_of_goal : (ty : Typing) (without : Kinds) (f : FunctionTree) (c : Candidate) (set : List Condition) (s : Stored) (i : ℕ) → IsGoalOf ty without f c set s i → (own : Cnf) → StandsForGoal s i own → IsWithinBound s i own → IsFormulaOf ty without f c set own
formula_of_goal ty without f c set s i h own stands within =
    let bits = bits_of_goal ty without f c set s i h in
    let cheap = h.within in
    record {
      stands = stands_for ty without f c set s i h own stands;
      within = omega (arith, bits, within, cheap);
    }

-- where nothing satisfies clauses that stand for a test of inputs, no inputs pass it
pub nothing_passes : (widths : List ℕ) (IsSo : List ℕ → Type 0) (own : Cnf) → StandsForInputs widths IsSo own → IsUnsatisfiable own.store → (rs : List ℕ) → AreResidues widths rs → IsSo rs → ⊥
nothing_passes widths IsSo own st unsat rs fit so =
    let bits = input_bits widths rs in
    let g = values_for st.table bits in
    let both = every_input st.table bits st.ordered (enough widths rs fit ∙ sym st.bits) in
    unsat (variables st.table st.stands.ands g) (st.stands.extensions g both.0 ((st.exact rs fit).1 so))
