use Rattle.std.proofs.Common.{ap}
use Rattle.stk_tree.specs.declared.unit.Unit.{Unit}
use Rattle.stk_tree.specs.View.{view_function, view_unit}
use Rattle.stk_units.specs.Functions.{is_definition, IsDefinition}
use Rattle.stk_units.proofs.Typed.{typed_well_of}
use Rattle.stk_units.proofs.Visits.{function_visited, nothing_visited}
use Rattle.stk_units.proofs.visiting.visit_tree.Goals as goal

pub visit_function-requires-clause-typed : goal.visit_function-requires-clause-typed
visit_function-requires-clause-typed g c =
    let u = view_unit c.args.tree.now in
    let f = view_function c.in-Defines.f in
    let d : IsDefinition u f = (c.in-Defines.field-0, ap view_unit c.in-Defines.is) in
    typed_well_of c.args.unit.now.input.now c.args.unit.now.without c.args.unit.now.tokens.now u c.args.names.now f d c.requires.accepted

pub returns-in-Defines : goal.returns-in-Defines
returns-in-Defines g c = λ es h.
    let u = view_unit c.args.tree.now in
    let f = view_function c.in-Defines.f in
    let d : IsDefinition u f = (c.in-Defines.field-0, ap view_unit c.in-Defines.is) in
    let unit = c.args.unit.now in
    function_visited g.V.UnitVisitor.leaves g.V.UnitVisitor.judges c.visit_function.result c.args.visitor.now c.visit_function.new.visitor c.args.out.now c.visit_function.new.out c.args.asked.now c.visit_function.new.asked unit.input.now unit.without unit.mark es c.args.names.now unit.body unit.tokens.now u f d h c.visit_function.ensures

pub returns-in-Empty : goal.returns-in-Empty
returns-in-Empty g c = λ es h.
    let unit = c.args.unit.now in
    nothing_visited g.V.UnitVisitor.leaves g.V.UnitVisitor.judges c.args.visitor.now c.args.out.now c.args.asked.now unit.input.now unit.without unit.mark es c.args.names.now unit.body unit.tokens.now (view_unit c.args.tree.now) h (ap (λ (v : Unit). is_definition (view_unit v)) c.in-Empty.is)

pub returns-in-Declares : goal.returns-in-Declares
returns-in-Declares g c = λ es h.
    let unit = c.args.unit.now in
    nothing_visited g.V.UnitVisitor.leaves g.V.UnitVisitor.judges c.args.visitor.now c.args.out.now c.args.asked.now unit.input.now unit.without unit.mark es c.args.names.now unit.body unit.tokens.now (view_unit c.args.tree.now) h (ap (λ (v : Unit). is_definition (view_unit v)) c.in-Declares.is)
