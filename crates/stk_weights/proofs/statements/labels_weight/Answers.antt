use Rattle.std.proofs.Common.{List, drop, map, ap, arith}
use Rattle.stk_tree.specs.declared.statement.Label.{Label}
use Rattle.stk_tree.specs.View.{view_label, labels}
use Rattle.stk_meaning.specs.Weights.{labels_weight}
use Rattle.stk_weights.proofs.Ends.{drop_none, summed_end}
use Rattle.stk_weights.proofs.statements.labels_weight.Goals as goal

pub returns : goal.returns
returns c =
    let xs = c.args.list.now in
    let i = c.loop-x.x-index in
    summed_end c.loop-x.sum (labels_weight (labels (map view_label (drop i xs)))) (labels_weight (labels (map view_label xs))) c.loop-x.invariant.small (ap (λ (ys : List Label). labels_weight (labels (map view_label ys))) (drop_none xs i (omega arith))) c.loop-x.invariant.weighed
