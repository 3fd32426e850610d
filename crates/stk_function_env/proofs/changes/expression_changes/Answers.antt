use Rattle.std.proofs.Common.{◌≡◌, ◌++◌, OnOk, List, map, true, ap, ◌∙◌, subst}
use Rattle.std.proofs.Common.{rules}
use Rattle.stk_tree.specs.View.{view_expression}
use Rattle.stk_meaning.specs.Visits.{expression_visits}
use Rattle.stk_function_types.specs.Nodes.{typing_in}
use Rattle.stk_function_types.specs.Visits.{MarkedVisit, marked_visit, marked_visits, role_in}
use Rattle.stk_function_types.specs.Gathered.{gathered}
use Rattle.stk_function_env.specs.declared.changes.Change.{Change}
use Rattle.stk_function_env.specs.Changed.{visit_change_list}
use Rattle.stk_function_env.specs.Settings.{setting_in}
use Rattle.stk_function_env.proofs.Flat.{change_list-flat, flat_expression}
use Rattle.stk_function_env.proofs.changes.expression_changes.Goals as goal

pub returns : goal.returns
returns c =
    let g = setting_in c.args.setting.now in
    let met : map marked_visit c.as_slice.result.now ≡ marked_visits true (expression_visits (typing_in c.args.setting.now.types) (role_in c.args.role) (view_expression c.args.e.now)) = search rules in
    subst (λ (xs : List Change). OnOk c.visits_changes.result (c.visits_changes.new.out.items ≡ c.args.out.now.items ++ xs)) (ap (λ (ms : List MarkedVisit). gathered (visit_change_list g) ms) met ∙ change_list-flat g _ (flat_expression (typing_in c.args.setting.now.types) (role_in c.args.role) (view_expression c.args.e.now))) c.visits_changes.ensures
