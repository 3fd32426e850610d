use Rattle.std.proofs.Common.{◌≡◌, ◌++◌, drop}
use Rattle.stk_audit_rules.specs.Starts.{others}
use Rattle.stk_audit.proofs.starts.others.Given as goal

abbrev pub invariant-loop-member : goal.invariant-loop-member
invariant-loop-member l = l.set.items ++ others l.condition (drop l.member-index l.members) ≡ others l.condition l.members
