use Rattle.std.proofs.Common.{◌≡◌, ℕ, ◌*◌, Bool, not, nat_eq, take}
use Rattle.stk_gates.specs.Edges.{edge_value}
use Rattle.stk_gates.specs.Tables.{IsEdge, Obeys, Extends, AddsWithin}
use Rattle.stk_arith.specs.Rows.{number}
use Rattle.stk_arith.proofs.compared.equal.Given as goal

abbrev pub invariant-loop-i : goal.invariant-loop-i
invariant-loop-i l = record {
  edge : IsEdge l.gates l.apart;
  value : (values : ℕ → Bool) → Obeys l.gates values → edge_value values l.apart ≡ not (nat_eq (number values (take l.i l.a)) (number values (take l.i l.b)));
  extends : Extends l.fn.gates l.gates;
  adds : AddsWithin l.fn.gates l.gates (4 * l.i);
}
