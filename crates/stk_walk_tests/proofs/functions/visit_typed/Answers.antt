use Rattle.std.proofs.Common.{◌≡◌, ◌≤◌, sym, ap, subst, ◌∙◌, arith}
use Rattle.stk_tree.specs.View.{view_function, view_unit}
use Rattle.stk_tree.specs.Nodes.{unit_nodes}
use Rattle.stk_meaning.specs.Weights.{weight, most_weight}
use Rattle.stk_function_types.specs.Units.{TypedUnit}
use Rattle.stk_function_types.specs.Nodes.{typing_in}
use Rattle.stk_weights.specs.Units.{unit_weight}
use Rattle.stk_units.specs.Functions.{IsDefinition}
use Rattle.stk_units.specs.Known.{IsTypedFunction}
use Rattle.stk_units.proofs.Measures.{of_function, whole, numbered}
use Rattle.stk_walk_tests.proofs.functions.visit_typed.Goals as goal

pub weight_of-requires : goal.weight_of-requires
weight_of-requires g c =
    let f = view_function c.args.f.now in
    let p = c.in_ok-setting.setting in
    let made = c.in_ok-setting.ensures in
    whole f p (subst (λ (t : TypedUnit). IsDefinition (view_unit t.unit) f) (sym made.types) c.requires.is) (of_function f p c.args.types.now c.args.without made.setting made.keys made.types)

pub visit_function-requires-clause-of : goal.visit_function-requires-clause-of
visit_function-requires-clause-of g c =
    let made = c.in_ok-setting.ensures in
    of_function (view_function c.args.f.now) c.in_ok-setting.setting c.args.types.now c.args.without made.setting made.keys made.types

pub visit_function-requires-clause-numbered : goal.visit_function-requires-clause-numbered
visit_function-requires-clause-numbered g c = numbered (typing_in c.in_ok-setting.setting.types) (view_unit c.args.types.now.unit) (view_function c.args.f.now) c.requires.is c.requires.read.laid_out

pub visit_function-requires-clause-typed : goal.visit_function-requires-clause-typed
visit_function-requires-clause-typed g c =
    let f = view_function c.args.f.now in
    let p = c.in_ok-setting.setting in
    let made = c.in_ok-setting.ensures in
    let kinds : p.without ≡ c.args.without = ap (λ g. g.without) made.setting in
    subst (λ w. IsTypedFunction (typing_in p.types) w f) (sym kinds) (subst (λ (x : TypedUnit). IsTypedFunction (typing_in x) c.args.without f) (sym made.types) c.requires.typed)

pub visit_function-requires-clause-light : goal.visit_function-requires-clause-light
visit_function-requires-clause-light g c =
    let f = view_function c.args.f.now in
    let p = c.in_ok-setting.setting in
    let made = c.in_ok-setting.ensures in
    let d : IsDefinition (view_unit p.types.unit) f = subst (λ (t : TypedUnit). IsDefinition (view_unit t.unit) f) (sym made.types) c.requires.is in
    let few : unit_nodes (view_unit p.types.unit) ≤ 20000 = subst (λ (t : TypedUnit). unit_nodes (view_unit t.unit) ≤ 20000) (sym made.types) c.requires.few in
    let same : c.in_ok-weight.weight ≡ weight (typing_in p.types) p.without f = c.in_ok-weight.ensures.exact few ∙ ap (unit_weight (typing_in p.types) p.without) d.1 in
    omega (arith, sym same, c.if-weight-gt-MOST_WEIGHT.false)
