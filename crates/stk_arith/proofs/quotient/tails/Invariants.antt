use Rattle.std.proofs.Common.{◌≡◌, ℕ, ◌+◌, ◌-◌, ◌≤◌, Bool, length, drop, get_or, nat_lt}
use Rattle.stk_gates.specs.declared.edge.Edge.{Edge}
use Rattle.stk_gates.specs.Edges.{edge_value}
use Rattle.stk_gates.specs.Tables.{Obeys, Extends, AddsWithin}
use Rattle.stk_arith.specs.Rows.{number, AreEdges}
use Rattle.stk_arith.proofs.quotient.tails.Given as goal

abbrev pub invariant-loop-k : goal.invariant-loop-k
invariant-loop-k l = record {
  long : length l.tails.items ≡ length l.row + 1;
  edges : AreEdges l.gates l.tails.items;
  value : (values : ℕ → Bool) → Obeys l.gates values → (j : ℕ) (c : Edge) → length l.row - l.k ≤ j → j ≤ length l.row → edge_value values (get_or l.tails.items j c) ≡ nat_lt 0 (number values (drop j l.row));
  extends : Extends l.fn.gates l.gates;
  adds : AddsWithin l.fn.gates l.gates l.k;
}
