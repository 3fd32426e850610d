use Rattle.std.proofs.Common.{refl}
use Rattle.stk_bundle.specs.declared.line.BundleLine.TheVariants as line
use Rattle.stk_audit.specs.Progressing.{known_in}
use Rattle.stk_audit.proofs.Closing.{start_fails, is_too_wide, is_answered, is_tried}
use Rattle.stk_audit.proofs.proving.tried.Goals as goal

pub returns-in-Some-clause-step : goal.returns-in-Some-clause-step
returns-in-Some-clause-step g c = λ block.
    start_fails (g.A.Answering.world (g.A.Answering.about c.args.answering.now)) (known_in c.args.progress.now) c.claim_of-at.result.1 c.args.progress.now.number c.in-Some.line line.Tried block c.in_ok-line.field-0 refl c.in_ok-line.ensures c.in-Some.is

pub returns-then-not-tries_all-clause-step : goal.returns-then-not-tries_all-clause-step
returns-then-not-tries_all-clause-step g c = λ block.
    is_too_wide (g.A.Answering.world (g.A.Answering.about c.args.answering.now)) c.args.progress.now c.claim_of-at.result.1 (g.A.Answering.hand c.args.answering.now) c.requires.hand block c.fails.result c.in_ok-line.field-0 c.tries_all.result c.in_ok-line.ensures c.in_default.is c.tries_all.ensures c.if-not-tries_all.true c.fails.ensures

pub returns-then-not-branch-clause-step : goal.returns-then-not-branch-clause-step
returns-then-not-branch-clause-step g c = λ block.
    is_answered (g.A.Answering.world (g.A.Answering.about c.args.answering.now)) c.args.progress.now c.claim_of-at.result.1 (g.A.Answering.hand c.args.answering.now) c.requires.hand block c.fails-then-not-branch.result c.in_ok-line.field-0 c.deref.result.now c.in_ok-none_answers.field-0 c.in_ok-line.ensures c.in_default.is c.deref.ensures.value c.in_ok-none_answers.ensures.none c.if-not-branch.true c.fails-then-not-branch.ensures

pub returns-clause-step : goal.returns-clause-step
returns-clause-step g c = λ block.
    is_tried (g.A.Answering.world (g.A.Answering.about c.args.answering.now)) c.args.progress.now c.claim_of-at.result.1 (g.A.Answering.hand c.args.answering.now) c.requires.hand c.add_claim.new.self block c.in_ok-line.field-0 c.deref.result.now c.claim_of-at.result.0 c.tries_all.result c.in_ok-none_answers.field-0 c.in_ok-line.ensures c.in_default.is c.deref.ensures.value c.claim_of-at.ensures.here
    c.tries_all.ensures c.if-not-tries_all.false c.in_ok-none_answers.ensures.none c.if-not-branch.false c.in_ok-add_claim.ensures.known c.in_ok-add_claim.ensures.number
