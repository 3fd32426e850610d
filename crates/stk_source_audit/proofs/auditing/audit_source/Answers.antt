use Rattle.std.specs.Prelude.{IfOk}
use Rattle.stk_audit_rules.specs.Audits.{IsAudit}
use Rattle.stk_audit_rules.specs.Truths.{HasTrueClaims}
use Rattle.stk_source_audit.proofs.Audited.{of_reading, sound_there}
use Rattle.stk_source_audit.proofs.auditing.audit_source.Goals as goal

pub returns-clause-answer : goal.returns-clause-answer
returns-clause-answer c =
    of_reading c.args.bytes.now c.args.tokens.now c.args.pieces.now c.new-answering.result c.new-answering.ensures (λ w. IfOk c.audit_of.result (IsAudit w c.args.bundle.now)) c.audit_of.ensures.answer

pub returns-clause-claims : goal.returns-clause-claims
returns-clause-claims c =
    of_reading c.args.bytes.now c.args.tokens.now c.args.pieces.now c.new-answering.result c.new-answering.ensures (λ w. IfOk c.audit_of.result (HasTrueClaims w c.args.bundle.now))
    (c.audit_of.ensures.claims (sound_there c.args.bytes.now c.args.tokens.now c.args.pieces.now c.new-answering.result c.new-answering.ensures))
