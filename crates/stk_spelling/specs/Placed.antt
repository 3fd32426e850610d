-- Where the nodes of a unit stand.
use Rattle.std.specs.Prelude.{ℕ, List, get_or}
use Rattle.stk_base.specs.declared.span.Span.{Span}
use Rattle.stk_tree.specs.declared.node.Node.{Node}
use Rattle.stk_tree.specs.View.{view_unit}
use Rattle.stk_tree.specs.Unlaid.{no_node}
use Rattle.stk_nodes.specs.Rows.{unit_row}
use Rattle.stk_function_types.specs.Units.{TypedUnit}

-- an input, and the nodes of a unit of it, in the order of their numbers
pub record Placed : Type 0 where
  pub bytes : List ℕ
  pub nodes : List Node

-- where the node of a number stands
abbrev pub span_at : Placed → ℕ → Span
span_at p k = (get_or p.nodes k no_node).span

-- those of a unit that is typed
abbrev pub placed_in : TypedUnit → Placed
placed_in t = record { bytes = t.bytes; nodes = unit_row (view_unit t.unit) }
