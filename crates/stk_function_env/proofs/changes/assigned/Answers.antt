use Rattle.std.proofs.Common.{ℕ, ◌≡◌, List, ◌∙◌, subst}
use Rattle.std.specs.Prelude.{IfOk}
use Rattle.stk_tree.specs.View.{view_statement_form}
use Rattle.stk_function_types.specs.Nodes.{typing_in}
use Rattle.stk_meaning.specs.Visits.{turn_visits}
use Rattle.stk_function_env.specs.Settings.{setting_in}
use Rattle.stk_function_env.proofs.Changing.{assigned_from}
use Rattle.stk_function_env.proofs.changes.assigned.Goals as goal

pub returns : goal.returns
returns c =
    subst (λ (xs : List ℕ). IfOk c.those_among.result (λ out. out.items ≡ xs)) (assigned_from (setting_in c.args.setting.now) (turn_visits (typing_in c.args.setting.now.types) (view_statement_form c.args.f.now)) _ _ _ c.in_ok-changed.ensures (c.as_slice.ensures.value ∙ c.in_ok-list.ensures) c.registers.ensures) c.those_among.ensures
