-- How much the goals of a walk add to what its values cost.
use Rattle.std.specs.Prelude.{◌≡◌, ◌+◌, ◌*◌, ◌≤◌, List, map}
use Rattle.stk_tree.specs.Syntax.{FunctionTree}
use Rattle.stk_tree.specs.Nodes.{function_nodes}
use Rattle.stk_numbers.specs.declared.conditions.Kinds.{Kinds}
use Rattle.stk_meaning.specs.Typings.{Typing}
use Rattle.stk_meaning.specs.Lists.{candidates}
use Rattle.stk_run_laws.specs.Visits.{IsNumbered}
use Rattle.stk_run_laws.specs.TypedOperands.{HasScalarOperands}
use Rattle.stk_terms.specs.declared.term.TermId.{TermId}
use Rattle.stk_values.specs.declared.walked.Step.{Step}
use Rattle.stk_values.specs.Walks.{event_of}
use Rattle.stk_event_laws.specs.Listed.{body_events}
use Rattle.stk_event_laws.specs.Positions.{listed_event}
use Rattle.stk_goals.specs.Goals.{most_added}

-- where steps say the events of the walk of a function's body, a goal adds at most 16 for each node of the function and
-- of its unit
abbrev pub GoalsAddLittle : Type 0
GoalsAddLittle =
    (ty : Typing) (without : Kinds) (f : FunctionTree) → IsNumbered ty f → HasScalarOperands ty f → (steps : List (Step TermId)) →
    map (λ x. event_of x) steps ≡ map (listed_event (candidates ty f)) (body_events ty without f) → most_added steps ≤ 16 * (function_nodes f + 1)
