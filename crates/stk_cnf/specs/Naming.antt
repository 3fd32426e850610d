-- Names of gates: the variables that they have.
use Rattle.std.specs.Prelude.{◌≡◌, ℕ, ◌+◌, ◌-◌, ◌*◌, ◌/◌, ◌<◌, ◌≤◌, ◌⊎◌, ◌↔◌, Bool, List, Some, length, slice_get, slice_index}
use Rattle.std.specs.List.{Contains}
use Rattle.stk_gates.specs.declared.edge.Edge.{Edge}
use Rattle.stk_gates.specs.Tables.{Table, gate_count}
use Rattle.stk_cnf.specs.Clauses.{HasName}
use Rattle.stk_cnf.specs.Marks.{IsMarked}

-- the inputs are the first variables, and these AND gates the next ones
pub record IsNaming (t : Table) (ands names : List ℕ) : Type 0 where
  pub inputs : (k : ℕ) → k < t.inputs → slice_index names (1 + k) ≡ k
  pub gate_names : (j : ℕ) → j < length ands → slice_index names (slice_index ands j) ≡ t.inputs + j

-- the constant, an input, or one of these gates
abbrev pub IsAmong : Table → List ℕ → ℕ → Type 0
IsAmong t ands n = (n ≤ t.inputs) ⊎ ((j : ℕ) × (j < length ands) × (slice_index ands j ≡ n))

-- these AND gates and the edge stand on nothing else
pub record IsClosed (t : Table) (ands : List ℕ) (goal : Edge) : Type 0 where
  pub within : (j : ℕ) → j < length ands → (t.inputs < slice_index ands j) × (slice_index ands j < gate_count t)
  pub operands : (j : ℕ) (p : Edge × Edge) → j < length ands → slice_get t.pairs (slice_index ands j - (1 + t.inputs)) ≡ Some p → IsAmong t ands (p.0.0 / 2) × IsAmong t ands (p.1.0 / 2)
  pub goal_among : IsAmong t ands (goal.0 / 2)

-- the gate and its two edges have names
abbrev pub HasNames : Table → List ℕ → ℕ → ℕ → Type 0
HasNames t names vars n = HasName names vars (record { 0 = 2 * n }) × ((p : Edge × Edge) → slice_get t.pairs (n - (1 + t.inputs)) ≡ Some p → HasName names vars p.0 × HasName names vars p.1)

-- the marked AND gates below end, in ascending order, with the names of the gates so far
pub record IsNumberedTo (t : Table) (marks : List Bool) (names ands : List ℕ) (vars end : ℕ) : Type 0 where
  pub long : length names ≡ end
  pub naming : IsNaming t ands names
  pub rising : (i j : ℕ) → i < j → j < length ands → slice_index ands i < slice_index ands j
  pub exact : (n : ℕ) → Contains ands n ↔ ((t.inputs < n) × (n < end) × IsMarked marks n)
  pub count : vars ≡ t.inputs + length ands
  pub few : vars < end

-- all marked AND gates have names
abbrev pub IsNumbering : Table → List Bool → List ℕ → List ℕ → ℕ → Type 0
IsNumbering t marks names ands vars = IsNumberedTo t marks names ands vars (gate_count t)
