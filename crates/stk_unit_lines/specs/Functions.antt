-- Where the nodes of a unit stand, and how the keys of a function are spelled.
use Rattle.std.specs.Prelude.{ℕ, List, map}
use Rattle.stk_tree.specs.Syntax.{UnitTree, FunctionTree}
use Rattle.stk_nodes.specs.Rows.{unit_row}
use Rattle.stk_numbers.specs.declared.conditions.Kinds.{Kinds}
use Rattle.stk_meaning.specs.Typings.{Typing}
use Rattle.stk_meaning.specs.Keys.{keys_of}
use Rattle.stk_spelling.specs.Placed.{Placed}
use Rattle.stk_spelling.specs.Named.{names_of}
use Rattle.stk_spelling.specs.Texts.{key_text}

-- where the nodes of a unit stand
abbrev pub unit_placed : List ℕ → UnitTree → Placed
unit_placed bytes u = record { bytes = bytes; nodes = unit_row u }

-- how the keys of a function are spelled, in order
abbrev pub function_keys : Placed → Typing → Kinds → FunctionTree → List (List ℕ)
function_keys q ty without f = map (key_text q (names_of ty f)) (keys_of ty without f)
