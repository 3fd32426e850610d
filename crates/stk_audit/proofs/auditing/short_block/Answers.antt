use Rattle.std.proofs.Common.{sym, subst}
use Rattle.stk_audit_rules.specs.Audits as audits
use Rattle.stk_audit.specs.Stepping.{IsEndFrom}
use Rattle.stk_audit.proofs.auditing.short_block.Goals as goal

pub returns-in_default : goal.returns-in_default
returns-in_default g c =
    subst (λ s. IsEndFrom (g.A.Answering.world (g.A.Answering.about c.args.answering.now)) c.args.stage c.args.progress.now c.args.rest.now s) (sym c.missing_line.ensures) (audits.short_block c.requires.short (λ e. absurd (c.in_default.not-Set e)))
