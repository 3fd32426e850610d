use Rattle.stk_lint.proofs.Asking.{if_bundle_taken, if_bundle_stops}
use Rattle.stk_lint.proofs.lint.write_bundled.Goals as goal

pub returns-clause-text : goal.returns-clause-text
returns-clause-text g c =
    if_bundle_taken c.args.file.now.input.now c.args.file.now.options (g.K.Sink.taken c.args.out.now) (g.K.Sink.taken c.write_bundle.new.out) (g.K.Sink.flushed c.write_bundle.new.out) (g.D.Decider.given_up c.args.decider.now) (g.D.Decider.given_up c.write_bundle.new.decider) c.write_bundle.result c.requires.script c.requires.bundle c.write_bundle.ensures.bundle

pub returns-clause-prefix : goal.returns-clause-prefix
returns-clause-prefix g c =
    if_bundle_stops c.args.file.now.input.now c.args.file.now.options (g.K.Sink.taken c.args.out.now) (g.K.Sink.taken c.write_bundle.new.out) c.write_bundle.result c.requires.script c.requires.bundle c.write_bundle.ensures.prefix
