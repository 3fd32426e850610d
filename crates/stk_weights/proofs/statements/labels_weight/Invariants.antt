use Rattle.std.proofs.Common.{◌≡◌, ◌+◌, ◌-◌, ◌^◌, ◌≤◌, drop, map}
use Rattle.stk_tree.specs.View.{view_label, labels}
use Rattle.stk_meaning.specs.Weights.{labels_weight}
use Rattle.stk_weights.specs.Sums.{capped}
use Rattle.stk_weights.proofs.statements.labels_weight.Given as goal

abbrev pub invariant-loop-x : goal.invariant-loop-x
invariant-loop-x l = record {
  small : l.sum ≤ 2 ^ 64 - 1;
  weighed : capped (l.sum + labels_weight (labels (map view_label (drop l.x-index l.list)))) ≡ capped (labels_weight (labels (map view_label l.list)));
}
