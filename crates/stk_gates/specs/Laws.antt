-- What inputs give, and what tables that grow keep.
use Rattle.std.specs.Prelude.{◌≡◌, ℕ, ◌+◌, ◌<◌, ◌&&◌, Bool, false, List, [], ◌∷◌, ◌++◌, length, slice_index_or}
use Rattle.stk_gates.specs.declared.edge.Edge.{Edge}
use Rattle.stk_gates.specs.Edges.{edge_value}
use Rattle.stk_gates.specs.Tables.{Table, IsEdge, Obeys, HasInputs, Extends, IsOrdered}

-- the value of each gate in a list of the first gates' values
abbrev pub known_as : List Bool → ℕ → Bool
known_as known n = slice_index_or known n false

-- the values of all gates in order: those known so far, and each further gate's from those before it
abbrev pub gate_values : List Bool → List (Edge × Edge) → List Bool
gate_values known [] = known
gate_values known (p ∷ ps) = gate_values (known ++ (edge_value (known_as known) p.0 && edge_value (known_as known) p.1) ∷ []) ps

-- each gate's value for these inputs
abbrev pub values_for : Table → List Bool → ℕ → Bool
values_for t bits = known_as (gate_values (false ∷ bits) t.pairs)

-- for any inputs there are values of gates that the table has
abbrev pub EveryInputGives : Type 0
EveryInputGives = (t : Table) (bits : List Bool) → IsOrdered t → length bits ≡ t.inputs → Obeys t (values_for t bits) × HasInputs t (values_for t bits) bits

-- values that a table has and that are the same on the inputs are the same on all its edges
abbrev pub InputsDecide : Type 0
InputsDecide = (t : Table) (f g : ℕ → Bool) → IsOrdered t → Obeys t f → Obeys t g → ((k : ℕ) → k < t.inputs → f (1 + k) ≡ g (1 + k)) → (e : Edge) → IsEdge t e → edge_value f e ≡ edge_value g e

-- an edge of a table has the same value for the same inputs in a table that extends it
abbrev pub OlderEdgesKeep : Type 0
OlderEdgesKeep = (s t : Table) (bits : List Bool) (e : Edge) → IsOrdered s → IsOrdered t → Extends s t → length bits ≡ s.inputs → IsEdge s e → edge_value (values_for t bits) e ≡ edge_value (values_for s bits) e
