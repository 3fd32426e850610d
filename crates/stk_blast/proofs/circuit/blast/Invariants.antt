use Rattle.std.proofs.Common.{◌≡◌, ℕ, ◌+◌, ◌<◌, [], length, get_or}
use Rattle.stk_gates.specs.Tables.{Extends, AddsWithin}
use Rattle.stk_terms.specs.Parts.{is_part}
use Rattle.stk_terms.specs.Cost.{weight}
use Rattle.stk_blast.specs.Rows.{IsRow}
use Rattle.stk_blast.proofs.circuit.blast.Given as goal

abbrev pub invariant-loop-i : goal.invariant-loop-i
invariant-loop-i l = record {
  long : length l.rows.items ≡ l.i;
  made : (m : ℕ) → m < l.i → IsRow l.gates l.terms (get_or l.order m 0) (get_or l.rows.items m []);
  extends : Extends l.fn.gates l.gates;
  adds : AddsWithin l.fn.gates l.gates (weight l.terms (is_part l.terms l.id.0) (get_or l.order l.i (l.id.0 + 1)));
}
