use Rattle.stk_symbols.specs.Matters.{events_of, IsIndexOf}
use Rattle.stk_symbols.proofs.step_index.StepIndex.of.Given as goal

abbrev pub invariant-loop-step : goal.invariant-loop-step
invariant-loop-step l = IsIndexOf l.index (events_of l.steps) l.step-index
