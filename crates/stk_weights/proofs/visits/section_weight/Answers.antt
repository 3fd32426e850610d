use Rattle.std.proofs.Common.{map, arith}
use Rattle.stk_tree.specs.View.{view_label, labels}
use Rattle.stk_weights.proofs.Limits.{labels_limit}
use Rattle.stk_weights.proofs.visits.section_weight.Goals as goal

pub returns-clause-limited : goal.returns-clause-limited
returns-clause-limited c = omega (arith, labels_limit (labels (map view_label c.args.list.now)))
