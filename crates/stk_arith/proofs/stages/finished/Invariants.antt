use Rattle.std.proofs.Common.{◌≡◌, ℕ, ◌+◌, ◌*◌, Bool, if◌then◌else◌, ◌&&◌, length, take, replicate}
use Rattle.stk_gates.specs.Tables.{IsEdge, Obeys, Extends, AddsWithin}
use Rattle.stk_gates.specs.Edges.{edge_value}
use Rattle.stk_arith.specs.Rows.{number, AreEdges}
use Rattle.stk_arith.proofs.stages.finished.Given as goal

abbrev pub invariant-loop-i : goal.invariant-loop-i
invariant-loop-i l = record {
  long : length l.all.items ≡ l.i;
  edges : AreEdges l.gates l.all.items;
  filled_edge : IsEdge l.gates l.filled;
  filled : (values : ℕ → Bool) → Obeys l.gates values → edge_value values l.filled ≡ edge_value values l.over && edge_value values l.fn.fill;
  value : (values : ℕ → Bool) → Obeys l.gates values → number values l.all.items ≡ (if edge_value values l.over then number values (take l.i (replicate (length l.row) l.fn.fill)) else number values (take l.i l.row));
  extends : Extends l.fn.gates l.gates;
  adds : AddsWithin l.fn.gates l.gates (2 * l.i + 1);
}
