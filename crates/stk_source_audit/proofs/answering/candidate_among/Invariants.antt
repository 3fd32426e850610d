use Rattle.std.proofs.Common.{◌≡◌, ℕ, ◌<◌}
use Rattle.std.specs.Prelude.{slice_index_or}
use Rattle.stk_numbers.specs.declared.conditions.Candidate.{Candidate}
use Rattle.stk_bundle.specs.Claims.{candidate_number}
use Rattle.stk_source_audit.proofs.answering.candidate_among.Given as goal

abbrev pub invariant-loop-candidate : goal.invariant-loop-candidate
invariant-loop-candidate l = (x : Candidate) (i : ℕ) → i < l.candidate-index → slice_index_or l.candidates i x ≡ x → x.node ≡ l.node → candidate_number x.kind ≡ l.kind → ⊥
