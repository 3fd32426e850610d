use Rattle.std.proofs.Common.{sym, ◌∙◌, refl}
use Rattle.stk_bundle.specs.declared.line.BundleLine.TheVariants as line
use Rattle.stk_audit_rules.specs.declared.audit.Why.TheVariants as why
use Rattle.stk_audit_rules.specs.Reasons as rules
use Rattle.stk_audit.specs.Progressing.{known_in}
use Rattle.stk_audit.proofs.Lines.{it_holds, it_fails}
use Rattle.stk_audit.proofs.stepping.source.Goals as goal

pub returns-then-length-source_length : goal.returns-then-length-source_length
returns-then-length-source_length g c = λ block.
    it_holds (g.A.Answering.world (g.A.Answering.about c.args.answering.now)) c.args.progress.now c.args.progress.now (line.Source c.args.length) block (known_in c.args.progress.now) refl refl (rules.source (c.if-length-source_length.true ∙ c.source_length.ensures))

pub returns-else-length-source_length : goal.returns-else-length-source_length
returns-else-length-source_length g c = λ block.
    it_fails (g.A.Answering.world (g.A.Answering.about c.args.answering.now)) c.args.progress.now c.args.progress.now (line.Source c.args.length) block c.fails.result why.Name c.fails.ensures (rules.other_length (λ e. c.if-length-source_length.false (e ∙ sym c.source_length.ensures)))
