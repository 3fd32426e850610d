use Rattle.stk_audit_rules.proofs.Truth
use Rattle.stk_audit_rules.proofs.laws.yes_is_true.Goals as goal

pub returns : goal.returns
returns g c = Truth.yes_is_true g.S.Audited.world
