use Rattle.std.proofs.Common.{◌≡◌, ◌+◌, map, drop}
use Rattle.stk_tree.specs.Nodes.{labels_nodes}
use Rattle.stk_tree.specs.View.{labels, view_label}
use Rattle.stk_tree_calls.proofs.count_units.labels_nodes.Given as goal

abbrev pub invariant-loop-x : goal.invariant-loop-x
invariant-loop-x l = l.total + labels_nodes (labels (map view_label (drop l.x-index l.list))) ≡ labels_nodes (labels (map view_label l.list))
