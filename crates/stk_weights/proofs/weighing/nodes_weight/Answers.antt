use Rattle.std.proofs.Common.{ap, arith, length}
use Rattle.stk_tree.specs.View.{view_unit}
use Rattle.stk_nodes.proofs.Lengths.{unit_row-length}
use Rattle.stk_weights.proofs.weighing.nodes_weight.Goals as goal

pub returns : goal.returns
returns c = omega (arith, c.saturating_mul.ensures, c.len-count.ensures, c.in_ok-row.row.ok.0, ap length c.in_ok-row.ensures, unit_row-length (view_unit c.args.unit.now))
