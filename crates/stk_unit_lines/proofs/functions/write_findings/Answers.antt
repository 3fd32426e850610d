use Rattle.std.proofs.Common.{◌+◌, arith}
use Rattle.stk_tree.specs.View.{view_function}
use Rattle.stk_function_types.specs.Nodes.{typing_in}
use Rattle.stk_findings.specs.Searched.{about_searched, subject_searched}
use Rattle.stk_spelling.specs.Placed.{placed_in}
use Rattle.stk_unit_lines.specs.Parts.{AreFindingLines}
use Rattle.stk_unit_lines.specs.Wrote.{HasStopped}
use Rattle.stk_unit_lines.proofs.Taking.{none_written, one_more_written, stops_before, stops_within, all_written, written_few, on_err}
use Rattle.stk_unit_lines.proofs.Judging.{is_placed}
use Rattle.stk_unit_lines.proofs.functions.write_findings.Goals as goal

pub loop-at-init : goal.loop-at-init
loop-at-init g c =
    let t = c.args.told.now in
    let s = c.args.searched.now in
    record {
      written = none_written (subject_searched s) (placed_in t.types.now) (typing_in t.types.now) (view_function t.function.now) t.keys.now s.candidates.now c.args.file.now.options (g.K.Sink.taken c.args.out.now) (g.D.Decider.given_up c.args.decider.now) c.one_function-counts.result c.one_function-counts.ensures;
      ready = c.requires.ready;
      later = omega arith;
    }

pub finding-requires-clause-placed : goal.finding-requires-clause-placed
finding-requires-clause-placed g c =
    let s = c.args.searched.now in
    is_placed (about_searched s) s.candidates.now c.loop-at.at _ c.requires.searched.candidates (omega (arith, c.loop-at-test.true, c.loop-at.auto.at-end))

pub returns-in_err-finding-clause-stopped : goal.returns-in_err-finding-clause-stopped
returns-in_err-finding-clause-stopped g c = λ all lawful.
    let t = c.args.told.now in
    let s = c.args.searched.now in
    let q = subject_searched s in
    on_err c.from_residual.result (HasStopped (AreFindingLines q (placed_in t.types.now) (typing_in t.types.now) (view_function t.function.now) t.keys.now s.candidates.now) c.args.file.now.options (g.K.Sink.taken c.args.out.now) (g.K.Sink.taken c.loop-at.out))
    (stops_before q (placed_in t.types.now) (typing_in t.types.now) (view_function t.function.now) t.keys.now s.candidates.now c.loop-at.at c.args.file.now.options (g.K.Sink.taken c.args.out.now) (g.K.Sink.taken c.loop-at.out) _ _ c.loop-at.counts all c.loop-at.invariant.written lawful)

pub returns-in_err-write_finding-clause-stopped : goal.returns-in_err-write_finding-clause-stopped
returns-in_err-write_finding-clause-stopped g c = λ all lawful.
    let t = c.args.told.now in
    let s = c.args.searched.now in
    let q = subject_searched s in
    on_err c.from_residual-in_err-write_finding.result (HasStopped (AreFindingLines q (placed_in t.types.now) (typing_in t.types.now) (view_function t.function.now) t.keys.now s.candidates.now) c.args.file.now.options (g.K.Sink.taken c.args.out.now) (g.K.Sink.taken c.write_finding.new.out))
    (stops_within q (placed_in t.types.now) (typing_in t.types.now) (view_function t.function.now) t.keys.now s.candidates.now c.loop-at.at _ c.args.file.now.options (g.K.Sink.taken c.args.out.now) (g.K.Sink.taken c.loop-at.out) (g.K.Sink.taken c.write_finding.new.out) _ _ c.loop-at.counts c.in_ok-finding.finding all (omega (arith, c.loop-at-test.true, c.loop-at.auto.at-end)) c.loop-at.invariant.written c.in_ok-finding.ensures.lawful c.in_err-write_finding.ensures.prefix lawful)

pub with_finding-counts-requires : goal.with_finding-counts-requires
with_finding-counts-requires g c =
    let t = c.args.told.now in
    let s = c.args.searched.now in
    written_few (subject_searched s) (placed_in t.types.now) (typing_in t.types.now) (view_function t.function.now) t.keys.now s.candidates.now c.loop-at.at c.args.file.now.options (g.K.Sink.taken c.args.out.now) (g.K.Sink.taken c.loop-at.out) _ _ c.loop-at.counts c.requires.few c.loop-at.invariant.written

pub loop-at-preserved : goal.loop-at-preserved
loop-at-preserved g c =
    let t = c.args.told.now in
    let s = c.args.searched.now in
    let given_up = g.D.Decider.given_up in
    let inv = c.loop-at.invariant in
    record {
      written = one_more_written (subject_searched s) (placed_in t.types.now) (typing_in t.types.now) (view_function t.function.now) t.keys.now s.candidates.now c.loop-at.at _ c.args.file.now.options (g.K.Sink.taken c.args.out.now) (g.K.Sink.taken c.loop-at.out) (g.K.Sink.taken c.write_finding.new.out)
          (given_up c.args.decider.now) (given_up c.loop-at.decider) (given_up c.finding.new.decider) c.loop-at.counts c.with_finding-counts.result c.in_ok-finding.finding (omega (arith, c.loop-at-test.true, c.loop-at.auto.at-end)) inv.written c.in_ok-finding.ensures.lawful c.in_ok-write_finding.ensures.all c.in_ok-finding.ensures.counted c.finding.ensures.later c.with_finding-counts.ensures;
      ready = c.in_ok-finding.ensures.ready;
      later = omega (arith, inv.later, c.write_finding.ensures.later);
    }

pub returns-clause-written : goal.returns-clause-written
returns-clause-written g c =
    let t = c.args.told.now in
    let s = c.args.searched.now in
    all_written (subject_searched s) (placed_in t.types.now) (typing_in t.types.now) (view_function t.function.now) t.keys.now s.candidates.now c.loop-at.at c.args.file.now.options (g.K.Sink.taken c.args.out.now) (g.K.Sink.taken c.loop-at.out) _ _ c.loop-at.counts (omega (arith, c.loop-at.auto.at-end)) c.loop-at.invariant.written
