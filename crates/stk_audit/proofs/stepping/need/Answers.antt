use Rattle.std.proofs.Common.{ap, ◌∙◌, Some}
use Rattle.stk_bundle.specs.declared.line.BundleLine.TheVariants as line
use Rattle.stk_audit_rules.specs.declared.audit.Why.TheVariants as why
use Rattle.stk_audit_rules.specs.Knowing.{with_member, with_start}
use Rattle.stk_audit_rules.specs.Reasons as rules
use Rattle.stk_audit.specs.Progressing.{known_in}
use Rattle.stk_audit.proofs.Lines.{it_holds, it_fails}
use Rattle.stk_audit.proofs.stepping.need.Goals as goal

pub returns-in_default : goal.returns-in_default
returns-in_default g c = λ block.
    it_fails (g.A.Answering.world (g.A.Answering.about c.args.answering.now)) c.args.progress.now c.args.progress.now (line.Need c.args.node c.args.kind c.args.start.now) block c.fails.result why.Name c.fails.ensures (rules.no_condition c.in_default.ensures)

pub returns : goal.returns
returns g c = λ block.
    it_holds (g.A.Answering.world (g.A.Answering.about c.args.answering.now)) c.args.progress.now c.add_start.new.self (line.Need c.args.node c.args.kind c.args.start.now) block (with_start (with_member (known_in c.args.progress.now) c.in-Some.condition) c.args.progress.now.number c.args.start.now (Some c.in-Some.condition))
    (c.in_ok-add_start.ensures.known ∙ (ap (λ t. with_start t c.add_member.new.self.number c.args.start.now (Some c.in-Some.condition)) c.in_ok-add_member.ensures.known
    ∙ ap (λ n. with_start (with_member (known_in c.args.progress.now) c.in-Some.condition) n c.args.start.now (Some c.in-Some.condition)) c.in_ok-add_member.ensures.number))
    (c.in_ok-add_start.ensures.number ∙ c.in_ok-add_member.ensures.number) (rules.need c.in-Some.ensures)
