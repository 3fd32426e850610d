use Rattle.std.proofs.Common.{ap}
use Rattle.stk_tree.specs.View.{view_function, view_unit}
use Rattle.stk_units.specs.Functions.{IsDefinition}
use Rattle.stk_units.proofs.Typed.{typed_well_of}
use Rattle.stk_walk_tests.proofs.functions.visit_tree.Goals as goal

pub visit_defined-requires-clause-typed : goal.visit_defined-requires-clause-typed
visit_defined-requires-clause-typed g c =
    let u = view_unit c.args.unit.now in
    let f = view_function c.in-Defines.f in
    let d : IsDefinition u f = (c.in-Defines.field-0, ap view_unit c.in-Defines.is) in
    typed_well_of c.args.bytes.now _ c.args.tokens.now u c.args.names.now f d c.requires.accepted
