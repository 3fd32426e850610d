use Rattle.std.proofs.Common.{sym, subst}
use Rattle.stk_tree.specs.View.{view_function, view_unit}
use Rattle.stk_function_types.specs.Units.{TypedUnit}
use Rattle.stk_function_types.specs.Nodes.{typing_in}
use Rattle.stk_units.specs.Known.{IsTypedFunction}
use Rattle.stk_units.proofs.Measures.{is_typed}
use Rattle.stk_walk_tests.proofs.functions.visit_defined.Goals as goal

pub visit_typed-requires-clause-typed : goal.visit_typed-requires-clause-typed
visit_typed-requires-clause-typed g c =
    let u = view_unit c.args.unit.now in
    let f = view_function c.args.f.now in
    let w = c.args.without in
    let t = is_typed c.args.bytes.now w c.args.names.now u c.in-Ok.types c.in-Ok.ensures.answer in
    subst (λ (x : TypedUnit). IsTypedFunction (typing_in x) w f) (sym c.in-Ok.ensures.is) (c.requires.typed t.result t.facts t.typed)

pub visit_typed-requires-clause-few : goal.visit_typed-requires-clause-few
visit_typed-requires-clause-few g c =
    let t = is_typed c.args.bytes.now c.args.without c.args.names.now (view_unit c.args.unit.now) c.in-Ok.types c.in-Ok.ensures.answer in
    rw c.in-Ok.ensures.is t.nodes
