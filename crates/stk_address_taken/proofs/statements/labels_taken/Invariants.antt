use Rattle.std.proofs.Common.{◌≡◌, ◌++◌, drop, map}
use Rattle.stk_tree.specs.View.{view_label, labels}
use Rattle.stk_address_taken.specs.Statements.{labels_taken}
use Rattle.stk_address_taken.proofs.statements.labels_taken.Given as goal

abbrev pub invariant-loop-x : goal.invariant-loop-x
invariant-loop-x l = l.out.items ++ labels_taken l.bytes l.bindings (labels (map view_label (drop l.x-index l.list))) ≡ l.initial.out.items ++ labels_taken l.bytes l.bindings (labels (map view_label l.list))
