-- What a walk may cost is within the weight of its function.
use Rattle.std.specs.Prelude.{◌+◌, ◌*◌, ◌≤◌}
use Rattle.stk_tree.specs.Syntax.{FunctionTree}
use Rattle.stk_tree.specs.Nodes.{function_nodes}
use Rattle.stk_numbers.specs.declared.conditions.Kinds.{Kinds}
use Rattle.stk_meaning.specs.Typings.{Typing}
use Rattle.stk_meaning.specs.Keys.{function_visits}
use Rattle.stk_meaning.specs.Weights.{weight}
use Rattle.stk_run_laws.specs.Visits.{EachVisit}
use Rattle.stk_spending.specs.Functions.{function_spent}
use Rattle.stk_type_laws.specs.Bits.{VisitHasBits}

-- whichever kinds of conditions are taken out
abbrev pub WalksAreWithinWeight : Type 0
WalksAreWithinWeight = (ty : Typing) (without : Kinds) (f : FunctionTree) → EachVisit (VisitHasBits ty) (function_visits ty f)
    → function_spent ty without f + 16 * (function_nodes f + 1) ≤ weight ty without f
