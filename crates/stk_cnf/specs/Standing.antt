-- What a list of clauses says of an edge.
use Rattle.std.specs.Prelude.{◌≡◌, ℕ, ◌+◌, ◌-◌, ◌*◌, ◌/◌, ◌<◌, ◌≤◌, ◌↔◌, Bool, true, if◌then◌else◌, nat_lt, List, Some, length, slice_get, slice_index}
use Rattle.std.specs.List.{Contains, All}
use Rattle.stk_clauses.specs.declared.literal.Lit.{Lit}
use Rattle.stk_clauses.specs.declared.store.Cnf.{Cnf}
use Rattle.stk_clauses.specs.Literals.{Satisfies, AreBelow}
use Rattle.stk_gates.specs.declared.edge.Edge.{Edge}
use Rattle.stk_gates.specs.Edges.{edge_value}
use Rattle.stk_gates.specs.Tables.{Table, Obeys}

-- the gates on which an edge depends: its own, and the operands of each of them
pub data Needs (t : Table) (goal : Edge) : ℕ → Type 0 where
  itself : Needs t goal (goal.0 / 2)
  first : (k : ℕ) (p : Edge × Edge) → Needs t goal (1 + t.inputs + k) → slice_get t.pairs k ≡ Some p → Needs t goal (p.0.0 / 2)
  second : (k : ℕ) (p : Edge × Edge) → Needs t goal (1 + t.inputs + k) → slice_get t.pairs k ≡ Some p → Needs t goal (p.1.0 / 2)

-- the variables where the gates have these values: the inputs, then these AND gates
abbrev pub variables : Table → List ℕ → (ℕ → Bool) → ℕ → Bool
variables t ands gates i = if nat_lt i t.inputs then gates (1 + i) else gates (slice_index ands (i - t.inputs))

-- the variables are all inputs and the AND gates that the edge needs, in ascending order; what satisfies the clauses
-- are exactly the extensions of the inputs that make the edge true, one for each; there are at most three clauses for
-- each of these gates and one more, of at most three literals
pub record StandsFor (t : Table) (goal : Edge) (cnf : Cnf) : Type 0 where
  pub ands : List ℕ
  pub ascending : (i j : ℕ) → i < j → j < length ands → slice_index ands i < slice_index ands j
  pub needed : (n : ℕ) → Contains ands n ↔ (Needs t goal n × (t.inputs < n))
  pub count : cnf.vars ≡ t.inputs + length ands
  pub within : All (AreBelow cnf.vars) cnf.store
  pub extensions : (gates : ℕ → Bool) → Obeys t gates → edge_value gates goal ≡ true → Satisfies (variables t ands gates) cnf.store
  pub alone : (v gates : ℕ → Bool) → Satisfies v cnf.store → Obeys t gates → ((k : ℕ) → k < t.inputs → gates (1 + k) ≡ v k) → (edge_value gates goal ≡ true) × ((i : ℕ) → i < cnf.vars → v i ≡ variables t ands gates i)
  pub few : length cnf.store ≤ 3 * length ands + 1
  pub short : All (λ (c : List Lit). length c ≤ 3) cnf.store
