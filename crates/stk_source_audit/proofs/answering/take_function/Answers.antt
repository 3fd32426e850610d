use Rattle.std.proofs.Common.{◌≡◌, Option, Some, refl, subst}
use Rattle.std.specs.Prelude.{option_map}
use Rattle.stk_tree.specs.declared.unit.Unit.{Unit}
use Rattle.stk_tree.specs.View.{view_unit}
use Rattle.stk_source_audit.specs.declared.lists.FunctionLists.{FunctionLists}
use Rattle.stk_source_audit.specs.Finding.{HasFound}
use Rattle.stk_source_audit.specs.Judged.{AreUnitLists}
use Rattle.stk_source_audit.proofs.Taken.{taken_up}
use Rattle.stk_source_audit.proofs.answering.take_function.Goals as goal

pub returns-in-Some-2 : goal.returns-in-Some-2
returns-in-Some-2 c =
    let text = c.args.text.now in
    let now = c.find_unit.new.names in
    let tree-is = c.in_ok-tree.tree-is in
    let some-is = c.in-Some.is in
    let unit-is = c.get.ensures in
    let tree : c.in_ok-tree.field-0.tree ≡ Some c.in-Some.unit = cc in
    let unit : c.get.result.now ≡ c.in-Some.unit = cc in
    let found = subst (λ (o : Option Unit). HasFound text.bytes.now text.tokens.now c.args.names.now c.args.pieces.now c.args.at (option_map view_unit o) now c.in_ok-tree.field-0.rest.now) tree c.in_ok-tree.ensures in
    let lists = subst (λ (o : Option FunctionLists). AreUnitLists text.bytes.now c.args.without now (view_unit c.get.result.now) o) c.in-Some-2.is c.in_ok-lists.ensures in
    let own = subst (λ (u : Unit). AreUnitLists text.bytes.now c.args.without now (view_unit u) (Some c.in-Some-2.lists)) unit lists in
    taken_up text.bytes.now text.tokens.now c.args.names.now c.args.pieces.now c.args.without c.args.at now c.in_ok-tree.field-0.rest.now (record { at = c.args.at; without = c.args.without; unit = c.in-Some.unit; lists = c.in-Some-2.lists }) found own refl refl
