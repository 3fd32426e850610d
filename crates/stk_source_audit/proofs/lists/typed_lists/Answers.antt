use Rattle.std.proofs.Common.{◌≡◌, sym, ap, subst, ◌∙◌}
use Rattle.stk_tree.specs.View.{view_function, view_unit}
use Rattle.stk_function_types.specs.Units.{TypedUnit}
use Rattle.stk_function_types.specs.Nodes.{typing_in}
use Rattle.stk_units.specs.Functions.{IsDefinition}
use Rattle.stk_units.specs.Causes.{measured_cause}
use Rattle.stk_units.proofs.Measures.{of_function, whole, measured_here, weighed}
use Rattle.stk_source_audit.proofs.Listed.{no_lists, lists_by}
use Rattle.stk_source_audit.proofs.lists.typed_lists.Goals as goal

pub function_weight-requires-clause-whole : goal.function_weight-requires-clause-whole
function_weight-requires-clause-whole c =
    let f = view_function c.args.f.now in
    let made = c.in_ok-setting.ensures in
    whole f c.in_ok-setting.setting (subst (λ (t : TypedUnit). IsDefinition (view_unit t.unit) f) (sym made.types) c.requires.is) (of_function f c.in_ok-setting.setting c.args.types.now c.args.without made.setting made.keys made.types)

pub returns-then-is_some : goal.returns-then-is_some
returns-then-is_some c =
    let f = view_function c.args.f.now in
    let t = c.args.types.now in
    let p = c.in_ok-setting.setting in
    let made = c.in_ok-setting.ensures in
    let cause : measured_cause (typing_in t) c.args.without (view_unit t.unit) ≡ c.weight_cause.result
    = measured_here f p t c.args.without c.weight_cause.result c.requires.is made.setting made.types (weighed f p t c.in_ok-weight.weight c.weight_cause.result c.requires.is made.types c.weight_cause.ensures c.in_ok-weight.ensures) in
    no_lists (typing_in t) c.args.without f (measured_cause (typing_in t) c.args.without (view_unit t.unit)) c.weight_cause.result cause (sym c.is_some.ensures ∙ c.if-is_some.true)

pub returns : goal.returns
returns c =
    let f = view_function c.args.f.now in
    let t = c.args.types.now in
    let p = c.in_ok-setting.setting in
    let made = c.in_ok-setting.ensures in
    let cause : measured_cause (typing_in t) c.args.without (view_unit t.unit) ≡ c.weight_cause.result
    = measured_here f p t c.args.without c.weight_cause.result c.requires.is made.setting made.types (weighed f p t c.in_ok-weight.weight c.weight_cause.result c.requires.is made.types c.weight_cause.ensures c.in_ok-weight.ensures) in
    lists_by (typing_in t) c.args.without f (measured_cause (typing_in t) c.args.without (view_unit t.unit)) c.weight_cause.result p.without p.keys c.in_ok-lists.lists cause (sym c.is_some.ensures ∙ c.if-is_some.false) (ap (λ g. g.without) made.setting) made.keys c.in_ok-lists.ensures
