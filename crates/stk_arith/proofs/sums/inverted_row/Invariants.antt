use Rattle.std.proofs.Common.{◌≡◌, ℕ, ◌+◌, ◌^◌, Bool, length, take}
use Rattle.stk_gates.specs.Tables.{Table}
use Rattle.stk_arith.specs.Rows.{number, AreEdges}
use Rattle.stk_arith.proofs.sums.inverted_row.Given as goal

abbrev pub invariant-loop-i : goal.invariant-loop-i
invariant-loop-i l = record {
  length : length l.inverted.items ≡ l.i;
  edges : (t : Table) → AreEdges t l.row → AreEdges t l.inverted.items;
  value : (values : ℕ → Bool) → number values l.inverted.items + number values (take l.i l.row) + 1 ≡ 2 ^ l.i;
}
