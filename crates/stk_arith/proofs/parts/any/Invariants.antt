use Rattle.std.proofs.Common.{◌≡◌, ℕ, Bool, take}
use Rattle.stk_gates.specs.Tables.{IsEdge, Obeys, Extends, AddsWithin}
use Rattle.stk_gates.specs.Edges.{edge_value}
use Rattle.stk_arith.specs.Rows.{number}
use Rattle.std.proofs.Common.{nat_lt}
use Rattle.stk_arith.proofs.parts.any.Given as goal

abbrev pub invariant-loop-i : goal.invariant-loop-i
invariant-loop-i l = record {
  edge : IsEdge l.gates l.some;
  value : (values : ℕ → Bool) → Obeys l.gates values → edge_value values l.some ≡ nat_lt 0 (number values (take l.i l.row));
  extends : Extends l.fn.gates l.gates;
  adds : AddsWithin l.fn.gates l.gates l.i;
}
