use Rattle.std.proofs.Common.{inr, arith}
use Rattle.std.proofs.lemmas.Option.{slice_get-get_or}
use Rattle.stk_tree.specs.View.{view_function}
use Rattle.stk_findings.proofs.Searched.{typed_functions_are_searched}
use Rattle.stk_findings.specs.Searched.{about_searched, subject_searched}
use Rattle.stk_bundles.proofs.Growing.{none_written, one_more_written, written_few, stops_before, stops_within, all_written}
use Rattle.stk_bundles.proofs.Placing.{is_placed, is_sure, on_err}
use Rattle.stk_bundles.specs.Wrote.{HasStopped}
use Rattle.stk_bundles.proofs.functions.write_claims.Goals as goal

pub loop-at-init : goal.loop-at-init
loop-at-init g c =
    let s = c.args.searched.now in
    let a = about_searched s in
    record {
      written = none_written (subject_searched s) a.typing a.without a.tree s.budget c.args.place.now.at s.candidates.now (g.K.Sink.taken c.args.out.now) (g.D.Decider.given_up c.args.decider.now) c.one_function-counts.result c.one_function-counts.ensures;
      ready = c.requires.ready;
      later = omega arith;
    }

pub finding-requires-clause-placed : goal.finding-requires-clause-placed
finding-requires-clause-placed g c =
    let s = c.args.searched.now in
    is_placed (about_searched s) s.candidates.now c.loop-at.at _ c.requires.searched.candidates (omega (arith, c.loop-at-test.true, c.loop-at.auto.at-end))

pub write_finding_parts-requires-clause-claimed : goal.write_finding_parts-requires-clause-claimed
write_finding_parts-requires-clause-claimed g c =
    let s = c.args.searched.now in
    record {
      searched = typed_functions_are_searched s.tables.now (view_function s.function.now) c.requires.searched.typed;
      candidates = c.requires.searched.candidates;
      kinds = c.requires.kinds;
      least = c.requires.searched.least;
      most = c.requires.searched.most;
    }

pub write_finding_parts-requires-clause-at : goal.write_finding_parts-requires-clause-at
write_finding_parts-requires-clause-at g c =
    let s = c.args.searched.now in
    slice_get-get_or s.candidates.now c.loop-at.at _ (omega (arith, c.loop-at-test.true, c.loop-at.auto.at-end))

pub write_finding_parts-requires-clause-sure : goal.write_finding_parts-requires-clause-sure
write_finding_parts-requires-clause-sure g c =
    let s = c.args.searched.now in
    let a = about_searched s in
    is_sure a.typing a.without a.tree s.budget _ c.in_ok-finding.finding c.in_ok-finding.ensures.lawful

pub returns-in_err-finding-clause-stopped : goal.returns-in_err-finding-clause-stopped
returns-in_err-finding-clause-stopped g c =
    let s = c.args.searched.now in
    let a = about_searched s in
    let taken = g.K.Sink.taken in
    on_err c.from_residual.result (HasStopped (subject_searched s) a.typing a.without a.tree s.budget c.args.place.now.at s.candidates.now (taken c.args.out.now) (taken c.loop-at.out))
    (inr (stops_before (subject_searched s) a.typing a.without a.tree s.budget c.args.place.now.at s.candidates.now c.loop-at.at (taken c.args.out.now) (taken c.loop-at.out) _ _ c.loop-at.begun c.loop-at.counts c.loop-at.invariant.written))

pub returns-in_err-begun-clause-stopped : goal.returns-in_err-begun-clause-stopped
returns-in_err-begun-clause-stopped g c =
    let s = c.args.searched.now in
    let a = about_searched s in
    let taken = g.K.Sink.taken in
    on_err c.from_residual-in_err-begun.result (HasStopped (subject_searched s) a.typing a.without a.tree s.budget c.args.place.now.at s.candidates.now (taken c.args.out.now) (taken c.write_finding_parts.new.out))
    (inr (stops_within (subject_searched s) a.typing a.without a.tree s.budget c.args.place.now.at s.candidates.now c.loop-at.at (taken c.args.out.now) (taken c.loop-at.out) _ _ c.loop-at.begun c.loop-at.counts c.loop-at.invariant.written _ (omega (arith, c.loop-at-test.true, c.loop-at.auto.at-end))
    (taken c.write_finding_parts.new.out) c.in_ok-finding.finding c.in_ok-finding.ensures.lawful c.in_err-begun.ensures.stopped))

pub with_finding-counts-requires : goal.with_finding-counts-requires
with_finding-counts-requires g c =
    let s = c.args.searched.now in
    let a = about_searched s in
    let taken = g.K.Sink.taken in
    written_few (subject_searched s) a.typing a.without a.tree s.budget c.args.place.now.at s.candidates.now c.loop-at.at (taken c.args.out.now) (taken c.loop-at.out) _ _ c.loop-at.begun c.loop-at.counts c.loop-at.invariant.written c.requires.few

pub loop-at-preserved : goal.loop-at-preserved
loop-at-preserved g c =
    let s = c.args.searched.now in
    let a = about_searched s in
    let taken = g.K.Sink.taken in
    let given_up = g.D.Decider.given_up in
    let inv = c.loop-at.invariant in
    record {
      written = one_more_written (subject_searched s) a.typing a.without a.tree s.budget c.args.place.now.at s.candidates.now c.loop-at.at (taken c.args.out.now) (taken c.loop-at.out) _ _ c.loop-at.begun c.loop-at.counts inv.written _ (omega (arith, c.loop-at-test.true, c.loop-at.auto.at-end))
          (taken c.write_finding_parts.new.out) (given_up c.finding.new.decider) (given_up c.write_finding_parts.new.decider) c.in_ok-begun.begun c.with_finding-counts.result c.in_ok-finding.finding c.with_finding-counts.ensures c.in_ok-finding.ensures.lawful c.in_ok-finding.ensures.counted c.finding.ensures.later c.write_finding_parts.ensures.given_up c.in_ok-begun.ensures.written;
      ready = c.in_ok-finding.ensures.ready;
      later = omega (arith, inv.later, c.write_finding_parts.ensures.later);
    }

pub returns-clause-written : goal.returns-clause-written
returns-clause-written g c =
    let s = c.args.searched.now in
    let a = about_searched s in
    let taken = g.K.Sink.taken in
    all_written (subject_searched s) a.typing a.without a.tree s.budget c.args.place.now.at s.candidates.now c.loop-at.at (taken c.args.out.now) (taken c.loop-at.out) _ _ c.loop-at.begun c.loop-at.counts (omega (arith, c.loop-at.auto.at-end)) c.loop-at.invariant.written
