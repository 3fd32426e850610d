use Rattle.std.proofs.Common.{◌≡◌, length}
use Rattle.stk_meaning.specs.Hits.{is_hit_free}
use Rattle.stk_source_audit.proofs.hit_free.is_hit_free.Given as goal

abbrev pub invariant-loop-entry : goal.invariant-loop-entry
invariant-loop-entry l = is_hit_free l.set l.candidate l.rest ≡ is_hit_free l.set l.candidate l.trace

abbrev pub decreases-loop-entry : goal.decreases-loop-entry
decreases-loop-entry l = length l.rest
