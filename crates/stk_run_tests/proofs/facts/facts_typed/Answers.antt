use Rattle.std.proofs.Common.{sym, ap, ◌∙◌, subst}
use Rattle.stk_tree.specs.declared.unit.Unit.{Unit}
use Rattle.stk_tree.specs.View.{view_function, view_unit}
use Rattle.stk_function_types.specs.Units.{TypedUnit}
use Rattle.stk_function_types.specs.Nodes.{typing_in}
use Rattle.stk_weights.specs.Units.{IsSettingOf}
use Rattle.stk_run_tests.proofs.Whole.{whole}
use Rattle.stk_run_tests.proofs.facts.facts_typed.Goals as goal

pub facts_under-requires-clause-whole : goal.facts_under-requires-clause-whole
facts_under-requires-clause-whole c =
    let p = c.in_ok-setting-in-Defines.setting in
    let e = ap (λ (t : TypedUnit). t.unit) c.in_ok-setting-in-Defines.ensures.types ∙ sym c.unit.ensures ∙ c.in-Defines.is in
    subst (λ (u : Unit). IsSettingOf (view_unit u) p) (sym e) (whole p (typing_in c.args.types.now) _ (view_function c.in-Defines.f) c.in_ok-setting-in-Defines.ensures.setting c.in_ok-setting-in-Defines.ensures.keys)
