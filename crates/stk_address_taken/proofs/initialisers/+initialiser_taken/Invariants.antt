use Rattle.std.proofs.Common.{◌≡◌, ◌++◌, drop, map}
use Rattle.stk_tree.specs.View.{view_item, items}
use Rattle.stk_address_taken.specs.Expressions.{items_taken}
use Rattle.stk_address_taken.proofs.initialisers.+initialiser_taken.Given as goal

abbrev pub invariant-items_taken-loop-i : goal.invariant-items_taken-loop-i
invariant-items_taken-loop-i l = l.out.items ++ items_taken l.bytes l.bindings (items (map view_item (drop l.i-index l.list))) ≡ l.initial.out.items ++ items_taken l.bytes l.bindings (items (map view_item l.list))
