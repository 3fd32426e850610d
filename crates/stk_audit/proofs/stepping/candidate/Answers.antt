use Rattle.stk_bundle.specs.declared.line.BundleLine.TheVariants as line
use Rattle.stk_audit_rules.specs.declared.audit.Why.TheVariants as why
use Rattle.stk_audit_rules.specs.Knowing.{with_candidate}
use Rattle.stk_audit_rules.specs.Reasons as rules
use Rattle.stk_audit.specs.Progressing.{known_in}
use Rattle.stk_audit.proofs.Lines.{it_holds, it_fails}
use Rattle.stk_audit.proofs.stepping.candidate.Goals as goal

pub returns-in-Some-clause-unstable : goal.returns-in-Some-clause-unstable
returns-in-Some-clause-unstable g c = λ block.
    it_holds (g.A.Answering.world (g.A.Answering.about c.args.answering.now)) c.args.progress.now c.begin_candidate.new.self (line.Unstable c.args.node c.args.kind) block (with_candidate (known_in c.args.progress.now) c.in-Some.candidate) c.begin_candidate.ensures.known c.begin_candidate.ensures.number (rules.unstable c.in-Some.ensures)

pub returns-in-Some-clause-left : goal.returns-in-Some-clause-left
returns-in-Some-clause-left g c = λ block.
    it_holds (g.A.Answering.world (g.A.Answering.about c.args.answering.now)) c.args.progress.now c.begin_candidate.new.self (line.Left c.args.node c.args.kind) block (with_candidate (known_in c.args.progress.now) c.in-Some.candidate) c.begin_candidate.ensures.known c.begin_candidate.ensures.number (rules.left c.in-Some.ensures)

pub returns-in-None-clause-unstable : goal.returns-in-None-clause-unstable
returns-in-None-clause-unstable g c = λ block.
    it_fails (g.A.Answering.world (g.A.Answering.about c.args.answering.now)) c.args.progress.now c.args.progress.now (line.Unstable c.args.node c.args.kind) block c.fails.result why.Name c.fails.ensures (rules.no_candidate c.in-None.ensures)

pub returns-in-None-clause-left : goal.returns-in-None-clause-left
returns-in-None-clause-left g c = λ block.
    it_fails (g.A.Answering.world (g.A.Answering.about c.args.answering.now)) c.args.progress.now c.args.progress.now (line.Left c.args.node c.args.kind) block c.fails.result why.Name c.fails.ensures (rules.no_left c.in-None.ensures)
