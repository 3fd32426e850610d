use Rattle.std.proofs.Common.{◌≡◌, map, drop}
use Rattle.stk_tree.specs.Placed.{labels_placed}
use Rattle.stk_tree.specs.View.{labels, view_label}
use Rattle.stk_tree_calls.proofs.placed_units.labels_placed.Given as goal

abbrev pub invariant-loop-x : goal.invariant-loop-x
invariant-loop-x l = labels_placed (labels (map view_label (drop l.x-index l.list))) ≡ labels_placed (labels (map view_label l.list))
