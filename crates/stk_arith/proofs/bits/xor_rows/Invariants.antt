use Rattle.std.proofs.Common.{◌≡◌, ℕ, ◌*◌, Bool, bit_xor, length, take}
use Rattle.stk_gates.specs.Tables.{Obeys, Extends, AddsWithin}
use Rattle.stk_arith.specs.Rows.{number, AreEdges}
use Rattle.stk_arith.proofs.bits.xor_rows.Given as goal

abbrev pub invariant-loop-i : goal.invariant-loop-i
invariant-loop-i l = record {
  long : length l.row.items ≡ l.i;
  edges : AreEdges l.gates l.row.items;
  value : (values : ℕ → Bool) → Obeys l.gates values → number values l.row.items ≡ bit_xor (number values (take l.i l.a)) (number values (take l.i l.b));
  extends : Extends l.fn.gates l.gates;
  adds : AddsWithin l.fn.gates l.gates (3 * l.i);
}
