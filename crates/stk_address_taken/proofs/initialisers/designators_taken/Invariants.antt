use Rattle.std.proofs.Common.{◌≡◌, ◌++◌, drop, map}
use Rattle.stk_tree.specs.View.{view_designator, designators}
use Rattle.stk_address_taken.specs.Expressions.{designators_taken}
use Rattle.stk_address_taken.proofs.initialisers.designators_taken.Given as goal

abbrev pub invariant-loop-d : goal.invariant-loop-d
invariant-loop-d l = l.out.items ++ designators_taken l.bytes l.bindings (designators (map view_designator (drop l.d-index l.list))) ≡ l.initial.out.items ++ designators_taken l.bytes l.bindings (designators (map view_designator l.list))
