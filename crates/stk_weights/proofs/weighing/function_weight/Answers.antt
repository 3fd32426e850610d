use Rattle.std.proofs.Common.{◌≡◌, List, true, map, sym, ap, ◌∙◌, subst, rules}
use Rattle.stk_tree.specs.View.{view_function}
use Rattle.stk_function_types.specs.Nodes.{typing_in}
use Rattle.stk_meaning.specs.Keys.{function_visits}
use Rattle.stk_function_types.specs.Visits.{marked_visit, marked_visits, MarkedVisit}
use Rattle.stk_function_env.specs.Settings.{setting_in}
use Rattle.stk_weights.specs.Sums.{capped}
use Rattle.stk_weights.specs.MarkedVisit.{marked_weight}
use Rattle.stk_weights.specs.Events.{counts}
use Rattle.stk_weights.specs.Counting.{total}
use Rattle.stk_weights.specs.Loads.{IsLimited}
use Rattle.stk_weights.proofs.Summing.{weight_parts}
use Rattle.stk_weights.proofs.Limited.{visits_limited}
use Rattle.stk_weights.proofs.weighing.function_weight.Goals as goal

pub returns-clause-is : goal.returns-clause-is
returns-clause-is c =
    let g = setting_in c.args.setting.now in
    let all_visits = function_visits (typing_in c.args.setting.now.types) (view_function c.args.f.now) in
    let met : map marked_visit c.as_slice.result.now ≡ marked_visits true all_visits = search rules in
    let own : c.in_ok-own.own ≡ capped (marked_weight g (marked_visits true all_visits)) = c.in_ok-own.ensures.is ∙ ap (λ (ms : List MarkedVisit). capped (marked_weight g ms)) met in
    c.sum_of_visits.ensures (marked_weight g (marked_visits true all_visits)) (total (λ r. counts g r all_visits) g.registers) own c.in_ok-count.ensures ∙ ap capped (sym (weight_parts g true all_visits))

pub returns-clause-limited : goal.returns-clause-limited
returns-clause-limited c =
    let g = setting_in c.args.setting.now in
    let all_visits = function_visits (typing_in c.args.setting.now.types) (view_function c.args.f.now) in
    let met : map marked_visit c.as_slice.result.now ≡ marked_visits true all_visits = search rules in
    visits_limited g all_visits (subst (λ (ms : List MarkedVisit). IsLimited g ms) met c.in_ok-own.ensures.limited)
