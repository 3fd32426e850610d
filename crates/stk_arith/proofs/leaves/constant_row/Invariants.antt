use Rattle.std.proofs.Common.{◌≡◌, ℕ, ◌%◌, ◌^◌, Bool, length}
use Rattle.stk_gates.specs.Tables.{Table, Obeys}
use Rattle.stk_arith.specs.Rows.{number, AreEdges}
use Rattle.stk_arith.proofs.leaves.constant_row.Given as goal

abbrev pub invariant-loop-i : goal.invariant-loop-i
invariant-loop-i l = record {
  long : length l.row.items ≡ l.i;
  edges : (t : Table) → AreEdges t l.row.items;
  value : (t : Table) (values : ℕ → Bool) → Obeys t values → number values l.row.items ≡ l.value % 2 ^ l.i;
}
