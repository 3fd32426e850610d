use Rattle.std.proofs.Common.{◌≡◌, ℕ, ◌+◌, ◌-◌, ◌*◌, ◌%◌, ◌^◌, ◌≤◌, Bool, length, take}
use Rattle.stk_gates.specs.Tables.{gate_count, Obeys, Extends}
use Rattle.stk_arith.specs.Rows.{number, AreEdges}
use Rattle.stk_arith.proofs.product.multiply.Given as goal

abbrev pub invariant-loop-i : goal.invariant-loop-i
invariant-loop-i l = record {
  long : length l.row.items ≡ length l.a;
  edges : AreEdges l.gates l.row.items;
  value : (values : ℕ → Bool) → Obeys l.gates values → number values l.row.items ≡ (number values l.a * number values (take l.i l.b)) % 2 ^ length l.a;
  extends : Extends l.fn.gates l.gates;
  adds : gate_count l.gates + 5 * ((length l.a - l.i) * (length l.a - l.i + 1)) ≤ gate_count l.fn.gates + 5 * (length l.a * (length l.a + 1));
}
