use Rattle.std.proofs.Common.{◌≡◌, take}
use Rattle.stk_wide_judge.proofs.known.copied.Given as goal

abbrev pub invariant-loop-number : goal.invariant-loop-number
invariant-loop-number l = l.numbers.items ≡ take l.number-index l.given
