use Rattle.std.proofs.Common.{◌≡◌, drop}
use Rattle.stk_numbers.specs.Suffixes.{first_holding}
use Rattle.stk_numbers.proofs.suffixes.first_holding.Given as goal

abbrev pub invariant-loop-kind : goal.invariant-loop-kind
invariant-loop-kind l = first_holding (drop l.kind-index l.kinds) l.number ≡ first_holding l.kinds l.number
