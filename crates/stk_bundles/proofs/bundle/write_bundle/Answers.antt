use Rattle.stk_bundles.specs.Bundles.{TookBundlePrefix}
use Rattle.stk_bundles.proofs.Placing.{on_err}
use Rattle.stk_bundles.proofs.Taken.{bundle_taken, head_stops, units_stop, end_stops}
use Rattle.stk_bundles.proofs.bundle.write_bundle.Goals as goal

pub returns-in_err-begin-clause-prefix : goal.returns-in_err-begin-clause-prefix
returns-in_err-begin-clause-prefix g c =
    let f = c.args.file.now in
    on_err c.from_residual.result (TookBundlePrefix f.input.now f.without f.budget (g.K.Sink.taken c.args.out.now) (g.K.Sink.taken c.begin.new.out))
    (head_stops f.input.now f.without f.budget c.args.units.now.tokens c.args.units.now.pieces.items c.requires.are (g.K.Sink.taken c.args.out.now) (g.K.Sink.taken c.begin.new.out) c.in_err-begin.ensures.prefix)

pub returns-in_err-counts-clause-prefix : goal.returns-in_err-counts-clause-prefix
returns-in_err-counts-clause-prefix g c =
    let f = c.args.file.now in
    on_err c.from_residual-in_err-counts.result (TookBundlePrefix f.input.now f.without f.budget (g.K.Sink.taken c.args.out.now) (g.K.Sink.taken c.write_units.new.out))
    (units_stop f.input.now f.without f.budget c.args.units.now.tokens c.args.units.now.pieces.items c.requires.are (g.K.Sink.taken c.args.out.now) (g.K.Sink.taken c.begin.new.out) (g.K.Sink.taken c.write_units.new.out) c.in_ok-begin.ensures.all (rw (c.as_slice-tokens.ensures, c.as_slice.ensures.value) at c.in_err-counts.ensures.prefix))

pub returns-in_err-finish-clause-prefix : goal.returns-in_err-finish-clause-prefix
returns-in_err-finish-clause-prefix g c =
    let f = c.args.file.now in
    on_err c.from_residual-in_err-finish.result (TookBundlePrefix f.input.now f.without f.budget (g.K.Sink.taken c.args.out.now) (g.K.Sink.taken c.finish.new.out))
    (end_stops f.input.now f.without f.budget c.args.units.now.tokens c.args.units.now.pieces.items c.requires.are (g.K.Sink.taken c.args.out.now) (g.K.Sink.taken c.begin.new.out) (g.K.Sink.taken c.write_units.new.out) (g.K.Sink.taken c.finish.new.out) (g.D.Decider.given_up c.args.decider.now) (g.D.Decider.given_up c.write_units.new.decider) c.in_ok-counts.counts
    c.in_ok-begin.ensures.all (rw (c.as_slice-tokens.ensures, c.as_slice.ensures.value) at c.in_ok-counts.ensures.written) c.in_err-finish.ensures.prefix)

pub returns-clause-bundle : goal.returns-clause-bundle
returns-clause-bundle g c =
    let f = c.args.file.now in
    bundle_taken f.input.now f.without f.budget c.args.units.now.tokens c.args.units.now.pieces.items c.requires.are (g.K.Sink.taken c.args.out.now) (g.K.Sink.taken c.begin.new.out) (g.K.Sink.taken c.write_units.new.out) (g.K.Sink.taken c.finish.new.out) (g.K.Sink.flushed c.finish.new.out) (g.D.Decider.given_up c.args.decider.now) (g.D.Decider.given_up c.write_units.new.decider) c.in_ok-counts.counts c.status_of.result
    c.in_ok-begin.ensures.all (rw (c.as_slice-tokens.ensures, c.as_slice.ensures.value) at c.in_ok-counts.ensures.written) c.in_ok-finish.ensures.all c.in_ok-finish.ensures.flushed c.status_of.ensures
