-- Clauses over variables and over edges, as values.
use Rattle.std.specs.Prelude.{◌≡◌, ◌==◌, ℕ, ◌+◌, ◌-◌, ◌/◌, ◌<◌, ◌≤◌, Bool, true, false, not, ◌&&◌, ◌||◌, if◌then◌else◌, List, [], ◌∷◌, ◌++◌, length, slice_index, slice_get, Option, Some, None}
use Rattle.std.specs.List.{All}
use Rattle.stk_clauses.specs.declared.literal.Lit.{Lit}
use Rattle.stk_clauses.specs.Literals.{literal_value, AreBelow}
use Rattle.stk_gates.specs.declared.edge.Edge.{Edge}
use Rattle.stk_gates.specs.Edges.{edge_value}
use Rattle.stk_gates.specs.Tables.{Table}

-- whether one of the literals is true
abbrev pub clause_value : (ℕ → Bool) → List Lit → Bool
clause_value v [] = false
clause_value v (l ∷ ls) = clause_value v ls || literal_value v l

-- whether each of the clauses is true
abbrev pub cnf_value : (ℕ → Bool) → List (List Lit) → Bool
cnf_value v [] = true
cnf_value v (c ∷ cs) = cnf_value v cs && clause_value v c

-- the gates' values, where each gate has the variable that the list names, and gate 0 none
abbrev pub named : List ℕ → (ℕ → Bool) → ℕ → Bool
named names v n = if n == 0 then false else v (slice_index names n)

-- whether the first is the AND of the others
abbrev pub ties : Bool → Bool → Bool → Bool
ties g x y = if g then x && y else not (x && y)

-- whether a gate with these edges, if it has any, has the AND of their values
abbrev pub tied_by : (ℕ → Bool) → ℕ → Option (Edge × Edge) → Bool
tied_by gates n None = true
tied_by gates n (Some p) = ties (gates n) (edge_value gates p.0) (edge_value gates p.1)

-- whether each of these AND gates has the AND of its edges' values
abbrev pub all_tied : Table → (ℕ → Bool) → List ℕ → Bool
all_tied t gates [] = true
all_tied t gates (n ∷ ns) = all_tied t gates ns && tied_by gates n (slice_get t.pairs (n - (1 + t.inputs)))

-- the edge's gate is in the list, and has a variable below vars unless it is the constant
abbrev pub HasName : List ℕ → ℕ → Edge → Type 0
HasName names vars e = (e.0 / 2 < length names) × (1 < e.0 → slice_index names (e.0 / 2) < vars)

-- at most n clauses came in, each of at most three literals with variables below vars, and together they say this
pub record IsGrown (vars n : ℕ) (old new : List (List Lit)) (says : (ℕ → Bool) → Bool) : Type 0 where
  pub value : (v : ℕ → Bool) → cnf_value v new ≡ cnf_value v old && says v
  pub few : length new ≤ length old + n
  pub short : All (λ (c : List Lit). length c ≤ 3) old → All (λ (c : List Lit). length c ≤ 3) new
  pub below : All (AreBelow vars) old → All (AreBelow vars) new

-- the clause of the constant true alone is left out, and that of the constant false alone is the empty clause
pub record IsPutAlone (edges : List Edge) (old new : List (List Lit)) : Type 0 where
  pub none : edges ≡ (record { 0 = 1 }) ∷ [] → new ≡ old
  pub empty : edges ≡ (record { 0 = 0 }) ∷ [] → new ≡ old ++ [] ∷ []
