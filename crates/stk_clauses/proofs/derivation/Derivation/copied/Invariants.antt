use Rattle.std.proofs.Common.{◌≡◌, take}
use Rattle.stk_clauses.proofs.derivation.Derivation.copied.Given as goal

abbrev pub invariant-loop-step : goal.invariant-loop-step
invariant-loop-step l = l.steps.items ≡ take l.step-index l.given
