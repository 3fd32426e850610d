use Rattle.std.proofs.Common.{◌<◌, ◌^◌, ap, arith, length, rules}
use Rattle.stk_tree.specs.View.{view_unit}
use Rattle.stk_nodes.proofs.Lengths.{unit_row-length}
use Rattle.stk_typed.proofs.typing.node_count.Goals as goal

pub overflow_cast-result : goal.overflow_cast-result
overflow_cast-result c =
    let small : c.len.result < 2 ^ 32 = omega (arith, c.requires, c.len.ensures, c.in_ok-row.row.ok.0, ap length c.in_ok-row.ensures, unit_row-length (view_unit c.args.unit.now)) in
    search rules

pub returns : goal.returns
returns c = omega (arith, c.len.ensures, c.in_ok-row.row.ok.0, ap length c.in_ok-row.ensures, unit_row-length (view_unit c.args.unit.now))
