use Rattle.std.proofs.Common.{sym, ◌∙◌}
use Rattle.stk_audit_rules.proofs.Claims.{false_true}
use Rattle.stk_audit.specs.Hands.{function_at}
use Rattle.stk_audit.proofs.Showing.{none_tested, one_tested, one_fails, all_tested, shows_by, answered_by, asked_free}
use Rattle.stk_audit.proofs.starts.failing_start_of.Goals as goal

pub loop-start-init : goal.loop-start-init
loop-start-init g c = λ h e. none_tested (function_at (g.A.Answering.world (g.A.Answering.about c.args.answering.now)) h) c.args.candidate c.args.members.now c.args.starts.now

pub is_answer-requires : goal.is_answer-requires
is_answer-requires g c =
    asked_free (g.A.Answering.world (g.A.Answering.about c.args.answering.now)) (g.A.Answering.hand c.args.answering.now) c.args.candidate c.args.members.now c.deref.result.now c.in-Some.start.now.shows c.requires (c.deref.ensures.value ∙ c.in_ok-set.ensures)

pub loop-start-preserved : goal.loop-start-preserved
loop-start-preserved g c = λ h e.
    let f = function_at (g.A.Answering.world (g.A.Answering.about c.args.answering.now)) h in
    one_tested f c.args.candidate c.args.members.now c.args.starts.now c.loop-start.rest.now c.in-Some.behind.now c.in-Some.start.now (c.loop-start.invariant h e) c.in-Some.ensures.cases.0
    (shows_by f c.args.candidate c.args.members.now c.deref.result.now c.in-Some.start.now c.as_slice.result.now (c.deref.ensures.value ∙ c.in_ok-set.ensures) c.as_slice.ensures ((c.in_ok-is_answer.ensures h e).0 c.if-not-branch.false))

pub returns-then-not-branch : goal.returns-then-not-branch
returns-then-not-branch g c = λ h e.
    let f = function_at (g.A.Answering.world (g.A.Answering.about c.args.answering.now)) h in
    one_fails f c.args.candidate c.args.members.now c.args.starts.now c.loop-start.rest.now c.in-Some.behind.now c.in-Some.start.now (c.loop-start.invariant h e) c.in-Some.ensures.cases.0
    (λ shows. false_true (sym c.if-not-branch.true ∙ (c.in_ok-is_answer.ensures h e).1 (answered_by f c.args.candidate c.args.members.now c.deref.result.now c.in-Some.start.now c.as_slice.result.now (c.deref.ensures.value ∙ c.in_ok-set.ensures) c.as_slice.ensures shows)))

pub returns : goal.returns
returns g c = λ h e.
    all_tested (function_at (g.A.Answering.world (g.A.Answering.about c.args.answering.now)) h) c.args.candidate c.args.members.now c.args.starts.now c.loop-start.rest.now (c.loop-start.invariant h e) c.in_default.ensures.cases
