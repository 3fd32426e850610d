-- Clauses that stand for what inputs make true: for a goal, a term of width 1, and for any test of inputs.
use Rattle.std.specs.Prelude.{◌≡◌, ◌↔◌, ℕ, ◌+◌, ◌≤◌, true, List, sum}
use Rattle.stk_clauses.specs.declared.store.Cnf.{Cnf}
use Rattle.stk_gates.specs.declared.edge.Edge.{Edge}
use Rattle.stk_gates.specs.Edges.{edge_value}
use Rattle.stk_gates.specs.Tables.{Table, IsOrdered, IsEdge}
use Rattle.stk_gates.specs.Laws.{values_for}
use Rattle.stk_terms.specs.Terms.{Stored}
use Rattle.stk_terms.specs.Fitting.{AreResidues}
use Rattle.stk_terms.specs.Values.{number_at}
use Rattle.stk_terms.specs.Cost.{cost}
use Rattle.stk_blast.specs.Laws.{input_bits}
use Rattle.stk_cnf.specs.Standing.{StandsFor}

-- There is a table of gates whose inputs are the bits of inputs of these widths, in order, the least bit first, and an
-- edge of it that is true exactly for the residues of inputs that the test holds of; the clauses stand for this edge.
pub record StandsForInputs (widths : List ℕ) (IsSo : List ℕ → Type 0) (cnf : Cnf) : Type 0 where
  pub table : Table
  pub edge : Edge
  pub ordered : IsOrdered table
  pub among : IsEdge table edge
  pub bits : table.inputs ≡ sum widths
  pub exact : (residues : List ℕ) → AreResidues widths residues → (edge_value (values_for table (input_bits widths residues)) edge ≡ true) ↔ IsSo residues
  pub stands : StandsFor table edge cnf

-- clauses stand for a goal: for the inputs that make the term 1
abbrev pub StandsForGoal : Stored → ℕ → Cnf → Type 0
StandsForGoal s i cnf = StandsForInputs s.inputs (λ residues. number_at s residues i ≡ 1) cnf

-- there are at most as many variables as the terms have input bits and the term costs
abbrev pub IsWithinBound : Stored → ℕ → Cnf → Type 0
IsWithinBound s i cnf = cnf.vars ≤ sum s.inputs + cost s i
