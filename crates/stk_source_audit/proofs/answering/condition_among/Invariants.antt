use Rattle.std.proofs.Common.{◌≡◌, ℕ, ◌<◌}
use Rattle.std.specs.Prelude.{slice_index_or}
use Rattle.stk_numbers.specs.declared.conditions.Condition.{Condition}
use Rattle.stk_numbers.specs.Taken.{number_of}
use Rattle.stk_source_audit.proofs.answering.condition_among.Given as goal

abbrev pub invariant-loop-condition : goal.invariant-loop-condition
invariant-loop-condition l = (x : Condition) (i : ℕ) → i < l.condition-index → slice_index_or l.conditions i x ≡ x → x.node ≡ l.node → number_of x.kind ≡ l.kind → ⊥
