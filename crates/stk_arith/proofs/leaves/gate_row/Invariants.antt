use Rattle.std.proofs.Common.{◌≡◌}
use Rattle.stk_arith.specs.Words.{row_from}
use Rattle.stk_arith.proofs.leaves.gate_row.Given as goal

abbrev pub invariant-loop-i : goal.invariant-loop-i
invariant-loop-i l = l.row.items ≡ row_from l.first l.i
