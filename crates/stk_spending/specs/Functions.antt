-- What the walk of a function may cost at most: its body; where each object lies in memory, a sum, two comparisons and
-- two guards; and that a pair of objects shares no byte, two comparisons and two guards.
use Rattle.std.specs.Prelude.{ℕ, ◌+◌, ◌*◌, length}
use Rattle.stk_tree.specs.Syntax.{FunctionTree}
use Rattle.stk_numbers.specs.declared.conditions.Kinds.{Kinds}
use Rattle.stk_meaning.specs.Typings.{Typing}
use Rattle.stk_meaning.specs.Keys.{objects_of, setting_of, body_of}
use Rattle.stk_meaning.specs.Weights.{pairs_among}
use Rattle.stk_spending.specs.Statements.{statement_spent}

abbrev pub function_spent : Typing → Kinds → FunctionTree → ℕ
function_spent ty without f =
    let g = setting_of ty without f in
    let objects = objects_of ty without f in
    1926 * length objects + 1286 * pairs_among g.kept objects + statement_spent g (body_of f)
