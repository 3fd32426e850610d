use Rattle.std.proofs.Common.{◌≡◌, ℕ, ◌+◌, ◌*◌, ◌^◌, Bool, length, take}
use Rattle.stk_gates.specs.Tables.{IsEdge, Obeys, Extends, AddsWithin}
use Rattle.stk_gates.specs.Edges.{edge_value}
use Rattle.stk_arith.specs.Rows.{bit, number, AreEdges}
use Rattle.stk_arith.proofs.sums.add_rows.Given as goal

abbrev pub invariant-loop-i : goal.invariant-loop-i
invariant-loop-i l = record {
  length : length l.row.items ≡ l.i;
  edges : AreEdges l.gates l.row.items;
  carry : IsEdge l.gates l.carried;
  value : (values : ℕ → Bool) → Obeys l.gates values → number values l.row.items + 2 ^ l.i * bit (edge_value values l.carried) ≡ number values (take l.i l.a) + number values (take l.i l.b) + bit (edge_value values l.fn.carry);
  extends : Extends l.fn.gates l.gates;
  adds : AddsWithin l.fn.gates l.gates (9 * l.i);
}
