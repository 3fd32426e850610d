-- Edges, what they mean, and which ANDs of two edges need no gate.
use Rattle.std.specs.Prelude.{◌==◌, ℕ, ◌+◌, ◌-◌, ◌/◌, ◌%◌, Bool, not, ◌||◌, Option, Some, None, if◌then◌else◌, nat_lt}
use Rattle.stk_gates.specs.declared.edge.Edge.{Edge}

-- the value of an edge, where each gate has the value that gates tells
abbrev pub edge_value : (ℕ → Bool) → Edge → Bool
edge_value gates e = if e.0 % 2 == 0 then gates (e.0 / 2) else not (gates (e.0 / 2))

-- the edge of the same gate with the other value
abbrev pub inverse : Edge → Edge
inverse e = record { 0 = if e.0 % 2 == 0 then e.0 + 1 else e.0 - 1 }

-- the edge that an AND of two edges is without a gate of its own: one with false or of an edge and its inverse is
-- false, one with true or of an edge and itself is an edge that is there
abbrev pub folded : Edge → Edge → Option Edge
folded a b =
    if a.0 == 0 || b.0 == 0 || a.0 == (inverse b).0 then Some (record { 0 = 0 })
    else (if a.0 == 1 || a.0 == b.0 then Some b
    else (if b.0 == 1 then Some a else None))

-- two edges, the lower one first
abbrev pub in_order : Edge → Edge → Edge × Edge
in_order a b = if nat_lt a.0 b.0 then (a, b) else (b, a)
