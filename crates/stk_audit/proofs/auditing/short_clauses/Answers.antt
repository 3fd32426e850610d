use Rattle.std.proofs.Common.{sym, subst}
use Rattle.stk_bundle.specs.declared.stage.Stage.TheVariants as stage
use Rattle.stk_audit_rules.specs.Audits as audits
use Rattle.stk_audit.specs.Progressing.{known_in}
use Rattle.stk_audit.specs.Stepping.{IsEndFrom}
use Rattle.stk_audit.proofs.Closing.{shown_here, fails_here}
use Rattle.stk_audit.proofs.auditing.short_clauses.Goals as goal

pub returns-in-Some : goal.returns-in-Some
returns-in-Some g c = audits.short_start c.requires.short (fails_here (g.A.Answering.world (g.A.Answering.about c.args.answering.now)) (known_in c.args.progress.now) c.claim_of.result.1 c.in_ok-line.field-0 c.in-Some.line c.in_ok-line.ensures c.in-Some.is)

pub returns-in-None : goal.returns-in-None
returns-in-None g c =
    let shown = shown_here (g.A.Answering.world (g.A.Answering.about c.args.answering.now)) (known_in c.args.progress.now) c.claim_of.result.1 c.in_ok-line.field-0 c.in_ok-line.ensures c.in-None.is in
    subst (λ s. IsEndFrom (g.A.Answering.world (g.A.Answering.about c.args.answering.now)) stage.Set c.args.progress.now c.args.rest.now s) (sym c.missing_line.ensures) (audits.short_block c.requires.short (λ e. (shown.0, c.claim_of.result.1, shown.1)))
