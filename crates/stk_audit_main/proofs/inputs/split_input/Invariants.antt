use Rattle.std.proofs.Common.{length}
use Rattle.stk_audit_main.proofs.Splitting.{HasPassed}
use Rattle.stk_audit_main.proofs.inputs.split_input.Given as goal

abbrev pub invariant-loop-line : goal.invariant-loop-line
invariant-loop-line l = HasPassed l.text l.rest

abbrev pub decreases-loop-line : goal.decreases-loop-line
decreases-loop-line l = length l.rest
