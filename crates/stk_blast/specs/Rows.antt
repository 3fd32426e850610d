-- What the row of a term is.
use Rattle.std.specs.Prelude.{◌≡◌, ℕ, ◌<◌, Bool, List, [], length, get_or}
use Rattle.stk_gates.specs.declared.edge.Edge.{Edge}
use Rattle.stk_gates.specs.Tables.{Table, Obeys}
use Rattle.stk_arith.specs.Rows.{number, AreEdges}
use Rattle.stk_terms.specs.Terms.{Stored}
use Rattle.stk_terms.specs.Values.{width_at, number_at}
use Rattle.stk_blast.specs.Inputs.{residues_of}

-- the row has the width of the term at the place i, its edges are of the table, and its number is the term's for every
-- input
pub record IsRow (t : Table) (s : Stored) (i : ℕ) (row : List Edge) : Type 0 where
  pub long : length row ≡ width_at s i
  pub edges : AreEdges t row
  pub value : (values : ℕ → Bool) → Obeys t values → number values row ≡ number_at s (residues_of s.inputs values) i

-- the row is the one of the place j among the rows of the first places of the list
pub record IsRowOf (ps : List ℕ) (rows : List (List Edge)) (j : ℕ) (row : List Edge) : Type 0 where
  pub at : ℕ
  pub before : at < length rows
  pub place : get_or ps at 0 ≡ j
  pub is : row ≡ get_or rows at []
