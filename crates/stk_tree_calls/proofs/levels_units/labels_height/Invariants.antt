use Rattle.std.proofs.Common.{◌≡◌, map, max, drop}
use Rattle.stk_tree.specs.Height.{labels_height}
use Rattle.stk_tree.specs.View.{labels, view_label}
use Rattle.stk_tree_calls.proofs.levels_units.labels_height.Given as goal

abbrev pub invariant-loop-x : goal.invariant-loop-x
invariant-loop-x l = max l.most (labels_height (labels (map view_label (drop l.x-index l.list)))) ≡ labels_height (labels (map view_label l.list))
