use Rattle.std.proofs.Common.{◌≡◌, ◌++◌, drop}
use Rattle.stk_meaning.specs.Findings.{members}
use Rattle.stk_claims.proofs.closing.members.Given as goal

abbrev pub invariant-loop-need : goal.invariant-loop-need
invariant-loop-need l = l.set.items ++ members (drop l.need-index l.needs) ≡ members l.needs
