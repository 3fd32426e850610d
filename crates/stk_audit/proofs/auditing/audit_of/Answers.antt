use Rattle.std.proofs.Common.{sym, subst}
use Rattle.stk_audit_rules.specs.declared.audit.Audit.TheVariants as audits
use Rattle.stk_audit_rules.specs.Audits.{IsAudit}
use Rattle.stk_audit.specs.Stepping.{IsEnd}
use Rattle.stk_audit.proofs.Turns.{with_claims}
use Rattle.stk_audit.proofs.auditing.audit_of.Goals as goal

pub returns-in-Holds-clause-answer : goal.returns-in-Holds-clause-answer
returns-in-Holds-clause-answer g c =
    subst (λ cs. IsAudit (g.A.Answering.world (g.A.Answering.about c.args.answering.now)) c.args.bundle.now (audits.Yes cs)) (sym c.from_vec.ensures) (subst (IsEnd (g.A.Answering.world (g.A.Answering.about c.args.answering.now)) c.args.bundle.now c.all_lines.new.progress) c.in-Holds.is c.in_ok-all_lines.ensures.end)

pub returns-in-Holds-clause-claims : goal.returns-in-Holds-clause-claims
returns-in-Holds-clause-claims g c = λ sound.
    with_claims (g.A.Answering.world (g.A.Answering.about c.args.answering.now)) c.args.bundle.now (audits.Yes c.from_vec.result) (subst (λ cs. IsAudit (g.A.Answering.world (g.A.Answering.about c.args.answering.now)) c.args.bundle.now (audits.Yes cs)) (sym c.from_vec.ensures) (subst (IsEnd (g.A.Answering.world (g.A.Answering.about c.args.answering.now)) c.args.bundle.now c.all_lines.new.progress) c.in-Holds.is c.in_ok-all_lines.ensures.end)) sound

pub returns-in-Fails-clause-answer : goal.returns-in-Fails-clause-answer
returns-in-Fails-clause-answer g c = subst (IsEnd (g.A.Answering.world (g.A.Answering.about c.args.answering.now)) c.args.bundle.now c.all_lines.new.progress) c.in-Fails.is c.in_ok-all_lines.ensures.end
