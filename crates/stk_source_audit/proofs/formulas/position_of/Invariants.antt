use Rattle.std.proofs.Common.{◌≡◌, ◌≢◌, ℕ, ◌<◌}
use Rattle.std.specs.Prelude.{slice_index_or}
use Rattle.stk_source_audit.proofs.formulas.position_of.Given as goal

abbrev pub invariant-loop-other : goal.invariant-loop-other
invariant-loop-other l = record {
  counts : l.position ≡ l.other-index;
  apart : (i : ℕ) → i < l.other-index → slice_index_or l.candidates i l.candidate ≢ l.candidate;
}
