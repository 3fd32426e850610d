-- Marks of the gates on which an edge depends.
use Rattle.std.specs.Prelude.{◌≡◌, ℕ, ◌+◌, ◌/◌, ◌≤◌, Bool, true, false, List, Some, length, slice_get, slice_index_or}
use Rattle.stk_gates.specs.declared.edge.Edge.{Edge}
use Rattle.stk_gates.specs.Tables.{Table, gate_count}
use Rattle.stk_cnf.specs.Standing.{Needs}

-- the gate is marked
abbrev pub IsMarked : List Bool → ℕ → Type 0
IsMarked marks n = slice_index_or marks n false ≡ true

-- the goal's gate is marked, what is marked is needed, and the operands of each marked gate from low on are marked
pub record AreMarked (t : Table) (goal : Edge) (marks : List Bool) (low : ℕ) : Type 0 where
  pub sized : length marks ≡ gate_count t
  pub itself : IsMarked marks (goal.0 / 2)
  pub sound : (n : ℕ) → IsMarked marks n → Needs t goal n
  pub closed : (k : ℕ) (p : Edge × Edge) → low ≤ 1 + t.inputs + k → IsMarked marks (1 + t.inputs + k) → slice_get t.pairs k ≡ Some p → IsMarked marks (p.0.0 / 2) × IsMarked marks (p.1.0 / 2)
