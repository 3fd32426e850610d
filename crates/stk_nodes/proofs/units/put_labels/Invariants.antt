use Rattle.std.proofs.Common.{◌≡◌, ◌++◌, map, drop}
use Rattle.stk_nodes.specs.Rows.{labels_row}
use Rattle.stk_tree.specs.View.{labels, view_label}
use Rattle.stk_nodes.proofs.units.put_labels.Given as goal

abbrev pub invariant-loop-x : goal.invariant-loop-x
invariant-loop-x l = l.out.items ++ labels_row (labels (map view_label (drop l.x-index l.list))) ≡ l.initial.out.items ++ labels_row (labels (map view_label l.list))
