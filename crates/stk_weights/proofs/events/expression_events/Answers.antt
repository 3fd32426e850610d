use Rattle.std.proofs.Common.{◌≡◌, ◌++◌, OnOk, List, map, true, ap, ◌∙◌, subst, rules}
use Rattle.stk_tree.specs.View.{view_expression}
use Rattle.stk_meaning.specs.Visits.{Visits, expression_visits}
use Rattle.stk_function_types.specs.Nodes.{typing_in}
use Rattle.stk_function_types.specs.Visits.{MarkedVisit, marked_visit, marked_visits, role_in}
use Rattle.stk_function_types.specs.Gathered.{gathered}
use Rattle.stk_function_types.proofs.Gathering.{gathered-marked_visits}
use Rattle.stk_function_env.specs.Settings.{setting_in}
use Rattle.stk_weights.specs.declared.events.Event.{Event}
use Rattle.stk_weights.specs.Events.{visit_events}
use Rattle.stk_weights.proofs.events.expression_events.Goals as goal

pub returns : goal.returns
returns c =
    let g = setting_in c.args.setting.now in
    let all_visits : Visits = expression_visits (typing_in c.args.setting.now.types) (role_in c.args.role) (view_expression c.args.e.now) in
    let met : map marked_visit c.as_slice.result.now ≡ marked_visits true all_visits = search rules in
    subst (λ (xs : List Event). OnOk c.visits_events.result (c.visits_events.new.out.items ≡ c.args.out.now.items ++ xs)) (ap (λ (ms : List MarkedVisit). gathered (visit_events g) ms) met ∙ gathered-marked_visits (visit_events g) all_visits) c.visits_events.ensures
