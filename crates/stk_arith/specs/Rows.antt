-- Rows of edges as numbers, the least bit first.
use Rattle.std.specs.Prelude.{ℕ, ◌+◌, ◌-◌, ◌*◌, ◌%◌, ◌^◌, Bool, true, false, List, [], ◌∷◌, if◌then◌else◌, nat_lt}
use Rattle.std.specs.List.{All}
use Rattle.stk_gates.specs.declared.edge.Edge.{Edge}
use Rattle.stk_gates.specs.Edges.{edge_value}
use Rattle.stk_gates.specs.Tables.{Table, IsEdge}

-- 1 for true
abbrev pub bit : Bool → ℕ
bit true = 1
bit false = 0

-- a row's number, where each gate has the value that gates tells: the least bit first
abbrev pub number : (ℕ → Bool) → List Edge → ℕ
number gates [] = 0
number gates (e ∷ es) = bit (edge_value gates e) + 2 * number gates es

-- each edge of the row is one of the table
abbrev pub AreEdges : Table → List Edge → Type 0
AreEdges t row = All (IsEdge t) row

-- the numbers of w bits in their order with a sign: 0 for the lowest one, whose highest bit alone is 1
abbrev pub signed_place : ℕ → ℕ → ℕ
signed_place w n = (n + 2 ^ (w - 1)) % 2 ^ w

-- whether the first of two numbers of w bits is smaller, with or without a sign
abbrev pub is_less : Bool → ℕ → ℕ → ℕ → Bool
is_less signed w x y = if signed then nat_lt (signed_place w x) (signed_place w y) else nat_lt x y
