use Rattle.std.proofs.Common.{ap}
use Rattle.std.proofs.lemmas.Result.{IfOk-weaker}
use Rattle.stk_tree.specs.View.{view_function, view_unit}
use Rattle.stk_units.specs.Functions.{IsDefinition}
use Rattle.stk_source_audit.specs.Judged.{AreUnitLists}
use Rattle.stk_source_audit.proofs.Listed.{lists_of_unit}
use Rattle.stk_source_audit.proofs.lists.unit_lists.Goals as goal

pub returns-in-Defines : goal.returns-in-Defines
returns-in-Defines c =
    let u = view_unit c.args.unit.now in
    let f = view_function c.in-Defines.f in
    let d : IsDefinition u f = (c.in-Defines.field-0, ap view_unit c.in-Defines.is) in
    IfOk-weaker c.function_lists.result _ (AreUnitLists c.args.bytes.now c.args.without c.args.names.now u) (λ o h. lists_of_unit c.args.bytes.now c.args.without c.args.names.now u f o d h) c.function_lists.ensures
