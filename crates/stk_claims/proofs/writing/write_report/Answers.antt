use Rattle.std.proofs.Common.{◌∙◌}
use Rattle.stk_meaning.specs.Findings.{members}
use Rattle.stk_claims.specs.Closing.{typing_of, without_of, tree_of}
use Rattle.stk_claims.proofs.Fitting.{texts_fit}
use Rattle.stk_claims.proofs.Taken.{wrote_report}
use Rattle.stk_claims.proofs.writing.write_report.Goals as goal

pub report_text-requires : goal.report_text-requires
report_text-requires g c =
    let x = c.args.function.now in
    let r = c.args.report.now in
    let claimed = c.requires.claimed in
    texts_fit (typing_of x) (without_of x) (tree_of x) r.candidate (members r.needs.now) x.budget claimed.searched.bits claimed.searched.light claimed.most c.in_ok-closing.closing c.in_ok-closing.ensures.closes

pub returns-clause-written : goal.returns-clause-written
returns-clause-written g c =
    let x = c.args.function.now in
    let r = c.args.report.now in
    wrote_report (typing_of x) (without_of x) (tree_of x) x.budget x.at r.candidate r.start.now r.needs.now c.args.begun x.kinds.now c.requires.claimed.kinds c.in_ok-closing.closing c.in_ok-closing.ensures.closes
    (g.K.Sink.taken c.args.out.now) (g.K.Sink.taken c.write_all.new.sink) (g.D.Decider.given_up c.args.decider.now) (g.D.Decider.given_up c.closing_of.new.decider) c.as_slice.result.now (c.as_slice.ensures.value ∙ c.in_ok-text.ensures) c.in_ok-write_all.ensures.all c.closing_of.ensures.later c.in_ok-closing.ensures.rose
