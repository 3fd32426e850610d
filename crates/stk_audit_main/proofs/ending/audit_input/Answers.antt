use Rattle.stk_audit_main.proofs.Ended.{none_large}
use Rattle.stk_audit_main.proofs.ending.audit_input.Goals as goal

pub returns-clause-small : goal.returns-clause-small
returns-clause-small g c = λ h. none_large c.args.bytes.now c.split_input.result.0.now c.split_input.result.1.now c.is_large.result c.split_input.ensures c.is_large.ensures.1 c.if-is_large.false h
