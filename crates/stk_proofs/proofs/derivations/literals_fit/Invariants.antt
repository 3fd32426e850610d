use Rattle.std.proofs.Common.{◌+◌, ◌/◌, ◌^◌, ◌<◌, take}
use Rattle.std.specs.List.{All}
use Rattle.stk_clauses.specs.declared.literal.Lit.{Lit}
use Rattle.stk_proofs.proofs.derivations.literals_fit.Given as goal

abbrev pub invariant-loop-literal : goal.invariant-loop-literal
invariant-loop-literal l = All (λ (m : Lit). m.0 / 2 + 1 < 2 ^ 31) (take l.literal-index l.literals)
