use Rattle.std.proofs.Common.{◌≡◌, ◌+◌, length, map, take, drop}
use Rattle.stk_nodes.specs.Setter.{setter}
use Rattle.stk_tree.specs.Layout.{laid_labels}
use Rattle.stk_tree.specs.Nodes.{labels_nodes}
use Rattle.stk_tree.specs.Syntax.{then_label}
use Rattle.stk_tree.specs.Tokens.{labels_tokens}
use Rattle.stk_tree.specs.View.{chained, labels, view_label}
use Rattle.stk_nodes.proofs.lay_declarations.lay_labels.Given as goal

abbrev pub invariant-loop-i : goal.invariant-loop-i
invariant-loop-i l = record {
  tree : laid_labels (setter l.records) l.fn.at.number l.fn.at.token (labels (map view_label l.fn.list)) ≡ chained then_label (laid_labels (setter l.records) l.end.number (l.end.token) (labels (map view_label (drop l.i l.list)))) (map view_label (take l.i l.list));
  number : l.end.number + labels_nodes (labels (map view_label (drop l.i l.list))) ≡ l.fn.at.number + labels_nodes (labels (map view_label l.fn.list));
  token : l.end.token + length (labels_tokens (labels (map view_label (drop l.i l.list)))) ≡ l.fn.at.token + length (labels_tokens (labels (map view_label l.fn.list)));
}
