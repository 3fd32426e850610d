use Rattle.std.proofs.Common.{◌≡◌, ◌≤◌, sym, ap, ◌∙◌, subst, arith}
use Rattle.stk_tree.specs.declared.unit.Unit.{Unit}
use Rattle.stk_tree.specs.Nodes.{function_nodes, unit_nodes}
use Rattle.stk_tree.specs.View.{view_function, view_unit}
use Rattle.stk_function_types.specs.Units.{TypedUnit}
use Rattle.stk_function_types.specs.Nodes.{typing_in}
use Rattle.stk_weights.specs.Sums.{capped}
use Rattle.stk_weights.specs.Units.{unit_weight, IsSettingOf}
use Rattle.stk_weights.proofs.weighing.weight_of.Goals as goal

pub defined_weight-requires-clause-whole : goal.defined_weight-requires-clause-whole
defined_weight-requires-clause-whole c =
    let e = sym (ap (λ (t : TypedUnit). t.unit) c.types.ensures) ∙ sym c.unit-unit.ensures ∙ c.in-Defines.is in
    subst (λ (u : Unit). IsSettingOf (view_unit u) c.args.setting.now) e c.requires

pub returns-in_ok-sum-in-Defines-clause-is : goal.returns-in_ok-sum-in-Defines-clause-is
returns-in_ok-sum-in-Defines-clause-is c =
    let e = sym (ap (λ (t : TypedUnit). t.unit) c.types.ensures) ∙ sym c.unit-unit.ensures ∙ c.in-Defines.is in
    subst (λ (u : Unit). c.in_ok-sum-in-Defines.sum ≡ capped (unit_weight (typing_in c.args.setting.now.types) c.args.setting.now.without (view_unit u))) (sym e) c.in_ok-sum-in-Defines.ensures.is

pub returns-in_ok-sum-in-Defines-clause-exact : goal.returns-in_ok-sum-in-Defines-clause-exact
returns-in_ok-sum-in-Defines-clause-exact c = λ few.
    let e = sym (ap (λ (t : TypedUnit). t.unit) c.types.ensures) ∙ sym c.unit-unit.ensures ∙ c.in-Defines.is in
    let nodes = subst (λ (u : Unit). unit_nodes (view_unit u) ≤ 20000) e few in
    let own : function_nodes (view_function c.in-Defines.f) ≤ 20000 = omega (arith, nodes) in
    subst (λ (u : Unit). c.in_ok-sum-in-Defines.sum ≡ unit_weight (typing_in c.args.setting.now.types) c.args.setting.now.without (view_unit u)) (sym e) (c.in_ok-sum-in-Defines.ensures.exact own)
