use Rattle.std.proofs.Common.{ap, ◌∙◌}
use Rattle.stk_tree.specs.View.{view_statement_form}
use Rattle.stk_function_types.specs.Nodes.{typing_in}
use Rattle.stk_meaning.specs.Visits.{turn_visits}
use Rattle.stk_meaning.specs.Changes.{kept_spot}
use Rattle.stk_function_env.specs.Changed.{changed_by_any}
use Rattle.stk_function_env.specs.Settings.{setting_in}
use Rattle.stk_function_env.proofs.Changing.{changes-list}
use Rattle.stk_function_env.proofs.changes.changed_in_turn.Goals as goal

pub returns : goal.returns
returns c q =
    ap (λ cs. changed_by_any cs (kept_spot q)) c.in_ok-list.ensures ∙ changes-list (setting_in c.args.setting.now) (turn_visits (typing_in c.args.setting.now.types) (view_statement_form c.args.f.now)) (kept_spot q)
