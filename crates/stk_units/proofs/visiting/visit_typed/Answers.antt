use Rattle.std.proofs.Common.{◌≡◌, ◌≤◌, sym, ap, subst, ◌∙◌}
use Rattle.stk_tree.specs.View.{view_function, view_unit}
use Rattle.stk_meaning.specs.Weights.{most_weight}
use Rattle.stk_function_types.specs.Units.{TypedUnit}
use Rattle.stk_function_types.specs.Nodes.{typing_in}
use Rattle.stk_units.specs.Functions.{IsDefinition}
use Rattle.stk_units.specs.Known.{IsTypedFunction}
use Rattle.stk_units.proofs.Measures.{of_function, whole, numbered, light, weighed}
use Rattle.stk_units.proofs.Visits.{left_here, judged_here}
use Rattle.stk_units.proofs.visiting.visit_typed.Goals as goal

pub function_weight-requires-clause-whole : goal.function_weight-requires-clause-whole
function_weight-requires-clause-whole g c =
    let f = view_function c.args.f.now in
    let made = c.in_ok-setting.ensures in
    whole f c.in_ok-setting.setting (subst (λ (t : TypedUnit). IsDefinition (view_unit t.unit) f) (sym made.types) c.requires.is) (of_function f c.in_ok-setting.setting c.args.types.now c.args.unit.now.without made.setting made.keys made.types)

pub returns-in-Some : goal.returns-in-Some
returns-in-Some g c =
    let t = c.args.types.now in
    let f = view_function c.args.f.now in
    let made = c.in_ok-setting.ensures in
    left_here g.V.UnitVisitor.leaves g.V.UnitVisitor.judges c.leave_out.result c.args.visitor.now c.leave_out.new.self c.args.out.now c.leave_out.new.out c.args.asked.now c.leave_out.new.asked f c.in_ok-setting.setting t c.args.unit.now.without c.args.unit.now.input.now c.args.unit.now.tokens.now c.weight_cause.result c.in-Some.cause
    c.requires.is c.requires.input made.setting made.types (weighed f c.in_ok-setting.setting t c.in_ok-weight.weight c.weight_cause.result c.requires.is made.types c.weight_cause.ensures c.in_ok-weight.ensures) c.in-Some.is c.leave_out.ensures

pub judge-requires-clause-of : goal.judge-requires-clause-of
judge-requires-clause-of g c =
    let made = c.in_ok-setting.ensures in
    of_function (view_function c.args.f.now) c.in_ok-setting.setting c.args.types.now c.args.unit.now.without made.setting made.keys made.types

pub judge-requires-clause-numbered : goal.judge-requires-clause-numbered
judge-requires-clause-numbered g c = numbered (typing_in c.in_ok-setting.setting.types) (view_unit c.args.types.now.unit) (view_function c.args.f.now) c.requires.is c.requires.read.laid_out

pub judge-requires-clause-typed : goal.judge-requires-clause-typed
judge-requires-clause-typed g c =
    let f = view_function c.args.f.now in
    let p = c.in_ok-setting.setting in
    let made = c.in_ok-setting.ensures in
    let kinds : p.without ≡ c.args.unit.now.without = ap (λ g. g.without) made.setting in
    subst (λ w. IsTypedFunction (typing_in p.types) w f) (sym kinds) (subst (λ (x : TypedUnit). IsTypedFunction (typing_in x) c.args.unit.now.without f) (sym made.types) c.requires.typed)

pub judge-requires-clause-light : goal.judge-requires-clause-light
judge-requires-clause-light g c =
    let same = c.in_ok-weight.ensures (view_function c.args.f.now) (subst (λ (x : TypedUnit). IsDefinition (view_unit x.unit) (view_function c.args.f.now)) (sym c.in_ok-setting.ensures.types) c.requires.is) in
    subst (λ w. w ≤ most_weight) same (light c.in_ok-weight.weight (sym c.weight_cause.ensures ∙ c.in-None.is))

pub returns : goal.returns
returns g c =
    let t = c.args.types.now in
    let f = view_function c.args.f.now in
    let made = c.in_ok-setting.ensures in
    judged_here g.V.UnitVisitor.leaves g.V.UnitVisitor.judges c.judge.result c.args.visitor.now c.judge.new.self c.args.out.now c.judge.new.out c.args.asked.now c.judge.new.asked f c.in_ok-setting.setting t c.args.unit.now.without c.args.unit.now.tokens.now c.weight_cause.result
    c.requires.is made.setting made.types (weighed f c.in_ok-setting.setting t c.in_ok-weight.weight c.weight_cause.result c.requires.is made.types c.weight_cause.ensures c.in_ok-weight.ensures) c.in-None.is c.judge.ensures
