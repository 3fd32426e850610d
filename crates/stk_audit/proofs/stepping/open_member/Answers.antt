use Rattle.stk_bundle.specs.declared.line.BundleLine.TheVariants as line
use Rattle.stk_audit_rules.specs.declared.audit.Why.TheVariants as why
use Rattle.stk_audit_rules.specs.Knowing.{with_member}
use Rattle.stk_audit_rules.specs.Reasons as rules
use Rattle.stk_audit.specs.Progressing.{known_in}
use Rattle.stk_audit.proofs.Lines.{it_holds, it_fails}
use Rattle.stk_audit.proofs.stepping.open_member.Goals as goal

pub returns-in_default : goal.returns-in_default
returns-in_default g c = λ block.
    it_fails (g.A.Answering.world (g.A.Answering.about c.args.answering.now)) c.args.progress.now c.args.progress.now (line.Open c.args.node c.args.kind) block c.fails.result why.Name c.fails.ensures (rules.no_open c.in_default.ensures)

pub returns : goal.returns
returns g c = λ block.
    it_holds (g.A.Answering.world (g.A.Answering.about c.args.answering.now)) c.args.progress.now c.add_member.new.self (line.Open c.args.node c.args.kind) block (with_member (known_in c.args.progress.now) c.in-Some.condition) c.in_ok-add_member.ensures.known c.in_ok-add_member.ensures.number (rules.open_member c.in-Some.ensures)
