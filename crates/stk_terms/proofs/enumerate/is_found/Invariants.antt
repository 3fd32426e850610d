use Rattle.std.proofs.Common.{◌≡◌, ◌+◌, ℕ, ◌≢◌, ◌<◌, length}
use Rattle.stk_terms.specs.Values.{number_at}
use Rattle.stk_terms.specs.Ordered.{residues_at}
use Rattle.stk_terms.proofs.enumerate.is_found.Given as goal

abbrev pub invariant-loop-number : goal.invariant-loop-number
invariant-loop-number l = record {
  none : (k : ℕ) → k < l.number → number_at l.terms (residues_at l.terms.inputs k) l.goal.0 ≢ 1;
  long : length l.numbers ≡ l.goal.0 + 1;
}
