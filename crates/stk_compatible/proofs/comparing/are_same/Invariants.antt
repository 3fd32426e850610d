use Rattle.std.proofs.Common.{◌≡◌}
use Rattle.stk_compatible.specs.Pairs.{are_same, pairs_of}
use Rattle.stk_compatible.proofs.comparing.are_same.Given as goal

abbrev pub invariant-loop : goal.invariant-loop
invariant-loop l = are_same (pairs_of l.waiting.items) ≡ are_same (pairs_of l.initial.waiting.items)
