-- What a walk may cost is within the weight of its function.
use Rattle.std.proofs.Common.{◌+◌, ◌*◌, ◌≤◌, false, arith}
use Rattle.stk_tree.specs.Syntax.{FunctionTree}
use Rattle.stk_tree.specs.Syntax as s
use Rattle.stk_numbers.specs.declared.conditions.Kinds.{Kinds}
use Rattle.stk_meaning.specs.Typings.{Typing}
use Rattle.stk_meaning.specs.Keys.{setting_of, function_visits}
use Rattle.stk_meaning.specs.Weights.{weight}
use Rattle.stk_run_laws.specs.Visits.{EachVisit}
use Rattle.stk_spending.specs.Functions.{function_spent}
use Rattle.stk_tree.specs.Nodes.{function_nodes}
use Rattle.stk_type_laws.specs.Bits.{VisitHasBits}
use Rattle.stk_type_laws.specs.Within.{WalksAreWithinWeight}
use Rattle.stk_type_laws.proofs.CostStatements.{statement_within}

within : (ty : Typing) (without : Kinds) (f : FunctionTree) → EachVisit (VisitHasBits ty) (function_visits ty f) → function_spent ty without f + 16 * (function_nodes f + 1) ≤ weight ty without f
within ty without (s.function word b d body) h = omega (arith, statement_within (setting_of ty without (s.function word b d body)) false body h.1)

pub walks_are_within : WalksAreWithinWeight
walks_are_within ty without f h = within ty without f h
