use Rattle.std.proofs.Common.{◌≡◌, ◌++◌, take, drop, reverse}
use Rattle.stk_meaning.specs.Findings.{members}
use Rattle.stk_wide_judge.proofs.guessing.query_set.Given as goal

abbrev pub invariant-loop-condition : goal.invariant-loop-condition
invariant-loop-condition l = l.set.items ≡ take l.condition-index l.below

abbrev pub invariant-loop-i : goal.invariant-loop-i
invariant-loop-i l = l.set.items ≡ l.below ++ members (reverse (drop l.i l.needs))
