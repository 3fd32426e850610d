use Rattle.std.proofs.Common.{◌≡◌, take}
use Rattle.stk_meaning.specs.Findings.{members}
use Rattle.stk_wide_judge.proofs.guessing.members_of.Given as goal

abbrev pub invariant-loop-need : goal.invariant-loop-need
invariant-loop-need l = l.set.items ≡ members (take l.need-index l.needs)
