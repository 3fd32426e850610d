use Rattle.std.proofs.Common.{◌≡◌, ℕ, ◌*◌, ◌^◌, Bool, ◌/◌, length, take}
use Rattle.stk_gates.specs.Edges.{edge_value}
use Rattle.stk_gates.specs.Tables.{Obeys, Extends, AddsWithin}
use Rattle.stk_arith.specs.Rows.{number, AreEdges}
use Rattle.stk_arith.specs.Shifts.{signed_bits}
use Rattle.stk_arith.proofs.right.filling_right.Given as goal

abbrev pub invariant-loop-k : goal.invariant-loop-k
invariant-loop-k l = record {
  long : length l.row.items ≡ length l.a;
  edges : AreEdges l.gates l.row.items;
  value : (values : ℕ → Bool) → Obeys l.gates values → signed_bits (edge_value values l.fill) (length l.a) (number values l.row.items) ≡ signed_bits (edge_value values l.fill) (length l.a) (number values l.a) / 2 ^ number values (take l.k l.b);
  extends : Extends l.fn.gates l.gates;
  adds : AddsWithin l.fn.gates l.gates (l.k * (3 * length l.a));
}
