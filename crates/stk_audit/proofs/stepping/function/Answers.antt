use Rattle.std.proofs.Common.{sym, ◌∙◌}
use Rattle.stk_bundle.specs.declared.line.BundleLine.TheVariants as line
use Rattle.stk_audit_rules.specs.declared.audit.Why.TheVariants as why
use Rattle.stk_audit_rules.specs.Knowing.{with_function}
use Rattle.stk_audit_rules.specs.Reasons as rules
use Rattle.stk_audit_rules.proofs.Claims.{false_true}
use Rattle.stk_audit.specs.Progressing.{known_in}
use Rattle.stk_audit.proofs.Lines.{it_holds, it_fails}
use Rattle.stk_audit.proofs.stepping.function.Goals as goal

pub returns-then-not-is_next_function-clause-step : goal.returns-then-not-is_next_function-clause-step
returns-then-not-is_next_function-clause-step g c = λ block.
    it_fails (g.A.Answering.world (g.A.Answering.about c.args.answering.now)) c.args.progress.now c.args.progress.now (line.Function c.args.at) block c.fails.result why.Name c.fails.ensures (rules.no_function (λ h. false_true (sym c.if-not-is_next_function.true ∙ (c.is_next_function.ensures ∙ h.next))))

pub returns-then-not-branch-clause-step : goal.returns-then-not-branch-clause-step
returns-then-not-branch-clause-step g c = λ block.
    it_fails (g.A.Answering.world (g.A.Answering.about c.args.answering.now)) c.args.progress.now c.args.progress.now (line.Function c.args.at) block c.fails-then-not-branch.result why.Name c.fails-then-not-branch.ensures (rules.no_function (λ h. false_true (sym c.if-not-branch.true ∙ (c.in_ok-take_up.ensures.found ∙ h.exists))))

pub returns-clause-step : goal.returns-clause-step
returns-clause-step g c = λ block.
    it_holds (g.A.Answering.world (g.A.Answering.about c.args.answering.now)) c.args.progress.now c.begin_function.new.self (line.Function c.args.at) block (with_function (known_in c.args.progress.now) c.args.at) c.begin_function.ensures.known c.begin_function.ensures.number
    (rules.function (record { exists = sym c.in_ok-take_up.ensures.found ∙ c.if-not-branch.false; next = sym c.is_next_function.ensures ∙ c.if-not-is_next_function.false }))
