use Rattle.std.proofs.Common.{◌*◌, ◌≤◌, true, ◌∙◌, subst}
use Rattle.stk_tree.specs.View.{view_function}
use Rattle.stk_function_types.specs.Nodes.{typing_in}
use Rattle.stk_meaning.specs.Places.{Setting}
use Rattle.stk_meaning.specs.Keys.{function_visits}
use Rattle.stk_meaning.specs.Weights.{visits_weight, weight}
use Rattle.stk_function_env.specs.Settings.{setting_in}
use Rattle.stk_weights.specs.Loads.{load, visit_limit}
use Rattle.stk_weights.proofs.Wholes.{weight_is, weight_few, exactly}
use Rattle.stk_weights.proofs.weighing.defined_weight.Goals as goal

pub returns-clause-is : goal.returns-clause-is
returns-clause-is c =
    c.sum_of_three.ensures ∙ weight_is (typing_in c.args.setting.now.types) c.args.setting.now.without (view_function c.args.f.now) (setting_in c.args.setting.now) c.args.setting.now.keys _ c.in_ok-nodes.nodes c.in_ok-own.own c.in_ok-objects.objects c.requires.whole.setting c.requires.whole.keys c.requires.nodes c.in_ok-nodes.ensures c.in_ok-own.ensures.is c.in_ok-objects.ensures

pub returns-clause-exact : goal.returns-clause-exact
returns-clause-exact c = λ few.
    let f = view_function c.args.f.now in
    let limited = subst (λ (g : Setting). visits_weight g true (function_visits g.typing f) ≤ visit_limit g * load (function_visits g.typing f)) c.requires.whole.setting c.in_ok-own.ensures.limited in
    exactly c.sum_of_three.result (weight (typing_in c.args.setting.now.types) c.args.setting.now.without f) (returns-clause-is c) (weight_few (typing_in c.args.setting.now.types) c.args.setting.now.without f few limited)
