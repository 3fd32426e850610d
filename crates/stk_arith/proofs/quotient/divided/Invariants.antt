use Rattle.std.proofs.Common.{◌≡◌, ℕ, ◌+◌, ◌-◌, ◌*◌, Bool, length}
use Rattle.stk_gates.specs.Tables.{Obeys, Extends, AddsWithin}
use Rattle.stk_arith.specs.Rows.{number, AreEdges}
use Rattle.std.proofs.Common.{drop}
use Rattle.stk_arith.specs.Division.{AreTails, IsDivided}
use Rattle.stk_arith.proofs.quotient.divided.Given as goal

abbrev pub invariant-loop-k : goal.invariant-loop-k
invariant-loop-k l = record {
  long : length l.quotient.items ≡ length l.a;
  rest_long : length l.rest.items ≡ l.k;
  edges : AreEdges l.gates l.quotient.items;
  rest_edges : AreEdges l.gates l.rest.items;
  value : (values : ℕ → Bool) → Obeys l.gates values → IsDivided (number values (drop (length l.a - l.k) l.a)) (number values l.b) (number values (drop (length l.a - l.k) l.quotient.items)) (number values l.rest.items);
  tail_edges : AreEdges l.gates l.tails.items;
  tails : (values : ℕ → Bool) → Obeys l.gates values → AreTails values l.b l.tails.items;
  tails_long : length l.tails.items ≡ length l.b + 1;
  extends : Extends l.fn.gates l.gates;
  adds : AddsWithin l.fn.gates l.gates (length l.a + l.k * (12 * length l.a + 9));
}
