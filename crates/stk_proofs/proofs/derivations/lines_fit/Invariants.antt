use Rattle.std.proofs.Common.{take}
use Rattle.std.specs.List.{All}
use Rattle.stk_proofs.specs.Lrat.{FitsLratLine}
use Rattle.stk_proofs.proofs.derivations.lines_fit.Given as goal

abbrev pub invariant-loop-step : goal.invariant-loop-step
invariant-loop-step l = All FitsLratLine (take l.step-index l.steps)
