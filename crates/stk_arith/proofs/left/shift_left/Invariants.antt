use Rattle.std.proofs.Common.{◌≡◌, ℕ, ◌*◌, Bool, length, take}
use Rattle.stk_gates.specs.Tables.{Obeys, Extends, AddsWithin}
use Rattle.stk_arith.specs.Rows.{number, AreEdges}
use Rattle.stk_arith.specs.Shifts.{shifted_left}
use Rattle.stk_arith.proofs.left.shift_left.Given as goal

abbrev pub invariant-loop-k : goal.invariant-loop-k
invariant-loop-k l = record {
  long : length l.row.items ≡ length l.a;
  edges : AreEdges l.gates l.row.items;
  value : (values : ℕ → Bool) → Obeys l.gates values → number values l.row.items ≡ shifted_left (length l.a) (number values l.a) (number values (take l.k l.b));
  extends : Extends l.fn.gates l.gates;
  adds : AddsWithin l.fn.gates l.gates (l.k * (3 * length l.a));
}
