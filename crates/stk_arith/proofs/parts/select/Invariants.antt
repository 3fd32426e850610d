use Rattle.std.proofs.Common.{◌≡◌, ℕ, ◌*◌, Bool, if◌then◌else◌, length, take}
use Rattle.stk_gates.specs.Edges.{edge_value}
use Rattle.stk_gates.specs.Tables.{Obeys, Extends, AddsWithin}
use Rattle.stk_arith.specs.Rows.{number, AreEdges}
use Rattle.stk_arith.proofs.parts.select.Given as goal

abbrev pub invariant-loop-i : goal.invariant-loop-i
invariant-loop-i l = record {
  length : length l.row.items ≡ l.i;
  edges : AreEdges l.gates l.row.items;
  value : (values : ℕ → Bool) → Obeys l.gates values → number values l.row.items ≡ (if edge_value values l.test then number values (take l.i l.yes) else number values (take l.i l.no));
  extends : Extends l.fn.gates l.gates;
  adds : AddsWithin l.fn.gates l.gates (3 * l.i);
}
