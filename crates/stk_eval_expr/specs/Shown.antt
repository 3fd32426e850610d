-- What the code's places, sides and flows are among those of runs.
use Rattle.stk_meaning.specs.Typings.{Typing, type_in, number_kind}
use Rattle.stk_meaning.specs.Expressions as runs
use Rattle.stk_meaning.specs.Replacements.{Replaced}
use Rattle.stk_meaning.specs.Worlds as worlds
use Rattle.stk_eval_expr.specs.declared.asked.Replacement.{Replacement}
use Rattle.stk_eval_expr.specs.declared.state.Sides.{Sides}
use Rattle.stk_eval_expr.specs.declared.state.Flow.{Flow}
use Rattle.stk_eval_expr.specs.declared.state.Flow.TheVariants as flow

-- a side of a comparison
abbrev pub sides_shown : Sides → runs.Sides
sides_shown s = record { number = s.number; left = s.left; right = s.right }

-- how a statement ends
abbrev pub flow_shown : Flow → worlds.Flow
flow_shown flow.Normal = worlds.Normal
flow_shown flow.Break = worlds.Break
flow_shown flow.Continue = worlds.Continue
flow_shown flow.Return = worlds.Return

-- what a replacement says, with the kind of the operand that is kept
abbrev pub replacement_shown : Typing → Replaced → Replacement
replacement_shown ty f = record { kind = number_kind (type_in ty f.kept); is_right = f.is_right; sum_first = f.sum_first; zero_first = f.zero_first }
