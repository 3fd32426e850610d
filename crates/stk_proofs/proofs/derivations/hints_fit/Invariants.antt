use Rattle.std.proofs.Common.{ℕ, ◌+◌, ◌^◌, ◌<◌, take}
use Rattle.std.specs.List.{All}
use Rattle.stk_proofs.proofs.derivations.hints_fit.Given as goal

abbrev pub invariant-loop-hint : goal.invariant-loop-hint
invariant-loop-hint l = All (λ (h : ℕ). h + 1 < 2 ^ 31) (take l.hint-index l.hints)
