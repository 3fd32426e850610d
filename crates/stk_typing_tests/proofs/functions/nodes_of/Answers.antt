use Rattle.std.proofs.Common.{ap, arith, length}
use Rattle.stk_tree.specs.View.{view_unit}
use Rattle.stk_nodes.proofs.Lengths.{unit_row-length}
use Rattle.stk_typing_tests.proofs.functions.nodes_of.Goals as goal

pub returns : goal.returns
returns c = λ is. omega (arith, c.if-len-ge4294967296.false, c.len.ensures, c.in_ok-nodes.nodes.ok.0, ap length c.in_ok-nodes.ensures, unit_row-length (view_unit c.args.unit.now))
