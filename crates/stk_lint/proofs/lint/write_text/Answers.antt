use Rattle.stk_lint.specs.Lint.{TookPrefix}
use Rattle.stk_lint.proofs.Going.{on_err, text_taken, units_stop, summary_stops}
use Rattle.stk_lint.proofs.lint.write_text.Goals as goal

pub returns-in_err-counts-clause-prefix : goal.returns-in_err-counts-clause-prefix
returns-in_err-counts-clause-prefix g c =
    on_err c.from_residual.result (TookPrefix c.args.file.now.input.now c.args.file.now.options (g.K.Sink.taken c.args.out.now) (g.K.Sink.taken c.write_units.new.out))
    (units_stop c.args.file.now.input.now c.args.file.now.options c.args.units.now.tokens c.args.units.now.pieces.items c.requires.are c.requires.script c.requires.bundle (g.K.Sink.taken c.args.out.now) (g.K.Sink.taken c.write_units.new.out) (rw (c.as_slice-tokens.ensures, c.as_slice.ensures.value) at c.in_err-counts.ensures.prefix))

pub returns-in_err-finish-clause-prefix : goal.returns-in_err-finish-clause-prefix
returns-in_err-finish-clause-prefix g c =
    on_err c.from_residual-in_err-finish.result (TookPrefix c.args.file.now.input.now c.args.file.now.options (g.K.Sink.taken c.args.out.now) (g.K.Sink.taken c.finish.new.out))
    (summary_stops c.args.file.now.input.now c.args.file.now.options c.args.units.now.tokens c.args.units.now.pieces.items c.requires.are c.requires.script c.requires.bundle (g.K.Sink.taken c.args.out.now) (g.K.Sink.taken c.write_units.new.out) (g.K.Sink.taken c.finish.new.out) (g.D.Decider.given_up c.args.decider.now) (g.D.Decider.given_up c.write_units.new.decider) c.in_ok-counts.counts (rw (c.as_slice-tokens.ensures, c.as_slice.ensures.value) at c.in_ok-counts.ensures.written) c.in_err-finish.ensures.prefix)

pub returns-clause-text : goal.returns-clause-text
returns-clause-text g c =
    text_taken c.args.file.now.input.now c.args.file.now.options c.args.units.now.tokens c.args.units.now.pieces.items c.requires.are c.requires.script c.requires.bundle (g.K.Sink.taken c.args.out.now) (g.K.Sink.taken c.write_units.new.out) (g.K.Sink.taken c.finish.new.out) (g.K.Sink.flushed c.finish.new.out) (g.D.Decider.given_up c.args.decider.now) (g.D.Decider.given_up c.write_units.new.decider) c.in_ok-counts.counts c.status_of.result
    (rw (c.as_slice-tokens.ensures, c.as_slice.ensures.value) at c.in_ok-counts.ensures.written) c.in_ok-finish.ensures.all c.in_ok-finish.ensures.flushed c.status_of.ensures
