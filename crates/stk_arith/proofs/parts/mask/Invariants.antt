use Rattle.std.proofs.Common.{◌≡◌, ℕ, ◌*◌, Bool, length, take}
use Rattle.stk_gates.specs.Edges.{edge_value}
use Rattle.stk_gates.specs.Tables.{Obeys, Extends, AddsWithin}
use Rattle.stk_arith.specs.Rows.{bit, number, AreEdges}
use Rattle.stk_arith.proofs.parts.mask.Given as goal

abbrev pub invariant-loop-i : goal.invariant-loop-i
invariant-loop-i l = record {
  long : length l.masked.items ≡ l.i;
  edges : AreEdges l.gates l.masked.items;
  value : (values : ℕ → Bool) → Obeys l.gates values → number values l.masked.items ≡ bit (edge_value values l.test) * number values (take l.i l.row);
  extends : Extends l.fn.gates l.gates;
  adds : AddsWithin l.fn.gates l.gates l.i;
}
