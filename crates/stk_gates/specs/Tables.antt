-- Gate tables, which values of gates fit them, and how a table grows.
use Rattle.std.specs.Prelude.{◌≡◌, ℕ, ◌+◌, ◌*◌, ◌^◌, ◌<◌, ◌≤◌, ◌⊎◌, Bool, false, ◌&&◌, List, Some, None, length, slice_get, slice_index_or}
use Rattle.stk_gates.specs.declared.edge.Edge.{Edge}
use Rattle.stk_gates.specs.Edges.{edge_value, folded, in_order}

-- how many inputs there are, and the two edges of each AND gate, in order. Gate 0 is the constant false, then come the
-- inputs, then the AND gates
pub record Table : Type 0 where
  pub inputs : ℕ
  pub pairs : List (Edge × Edge)

-- the constant, the inputs and the AND gates
abbrev pub gate_count : Table → ℕ
gate_count t = 1 + t.inputs + length t.pairs

-- n more gates may come in
abbrev pub HasRoom : Table → ℕ → Type 0
HasRoom t n = gate_count t + n ≤ 2 ^ 29

-- the edge comes from a gate of the table
abbrev pub IsEdge : Table → Edge → Type 0
IsEdge t e = e.0 < 2 * gate_count t

-- these values of gates are those of the table: gate 0 is false, and each AND gate is the AND of its two edges. The
-- inputs are free
pub record Obeys (t : Table) (gates : ℕ → Bool) : Type 0 where
  pub constant : gates 0 ≡ false
  pub ands : (k : ℕ) (p : Edge × Edge) → slice_get t.pairs k ≡ Some p → gates (1 + t.inputs + k) ≡ edge_value gates p.0 && edge_value gates p.1

-- these bits are the values of the inputs
pub record HasInputs (t : Table) (gates : ℕ → Bool) (bits : List Bool) : Type 0 where
  pub many : length bits ≡ t.inputs
  pub each : (k : ℕ) → k < t.inputs → gates (1 + k) ≡ slice_index_or bits k false

-- the edge is that of the AND gate of a and b, not inverted
pub record IsGateOf (t : Table) (a b e : Edge) : Type 0 where
  pub place : ℕ
  pub number : e.0 ≡ 2 * (1 + t.inputs + place)
  pub operands : slice_get t.pairs place ≡ Some (in_order a b)

-- the old gates are the first ones of the new table
pub record Extends (old new : Table) : Type 0 where
  pub inputs : new.inputs ≡ old.inputs
  pub longer : length old.pairs ≤ length new.pairs
  pub kept : (k : ℕ) (p : Edge × Edge) → slice_get old.pairs k ≡ Some p → slice_get new.pairs k ≡ Some p

-- at most n gates came in
abbrev pub AddsWithin : Table → Table → ℕ → Type 0
AddsWithin old new n = gate_count new ≤ gate_count old + n

-- each AND gate stands on earlier gates
abbrev pub IsOrdered : Table → Type 0
IsOrdered t = (k : ℕ) (p : Edge × Edge) → slice_get t.pairs k ≡ Some p → (p.0.0 < 2 * (1 + t.inputs + k)) × (p.1.0 < 2 * (1 + t.inputs + k))

-- no AND gate is one that could do without, and each has its lower edge first
abbrev pub IsReduced : Table → Type 0
IsReduced t = (k : ℕ) (p : Edge × Edge) → slice_get t.pairs k ≡ Some p → (p.0.0 < p.1.0) × (folded p.0 p.1 ≡ None)

-- no two AND gates have the same edges, in either order
abbrev pub IsShared : Table → Type 0
IsShared t = (j k : ℕ) (p q : Edge × Edge) → slice_get t.pairs j ≡ Some p → slice_get t.pairs k ≡ Some q → (p ≡ q) ⊎ (p ≡ (q.1, q.0)) → j ≡ k
