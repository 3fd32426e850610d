use Rattle.std.proofs.Common.{ap}
use Rattle.stk_records.specs.declared.line.Spot.{Spot}
use Rattle.stk_records.specs.declared.line.Line.TheVariants.{Skipped}
use Rattle.stk_unit_lines.specs.Parts.{IsSkipLine}
use Rattle.stk_unit_lines.specs.Wrote.{HasStopped}
use Rattle.stk_unit_lines.proofs.Taking.{on_err, skip_wrote, skip_stopped}
use Rattle.stk_unit_lines.proofs.recording.write_skipped.Goals as goal

pub returns-in_err-write_record-clause-stopped : goal.returns-in_err-write_record-clause-stopped
returns-in_err-write_record-clause-stopped g c =
    let file = c.args.file.now in
    on_err c.from_residual-in_err-write_record.result (HasStopped (IsSkipLine file.input.now c.args.tokens.now c.args.cause) file.options (g.K.Sink.taken c.args.out.now) (g.K.Sink.taken c.write_record.new.out))
    (skip_stopped file.input.now c.args.tokens.now _ c.args.cause c.requires file.options (g.K.Sink.taken c.args.out.now) (g.K.Sink.taken c.write_record.new.out) (Skipped c.in_ok-at.at c.args.cause) (ap (λ (s : Spot). Skipped s c.args.cause) c.in_ok-at.ensures) c.in_err-write_record.ensures.prefix)

pub returns-clause-written : goal.returns-clause-written
returns-clause-written g c = λ n.
    let file = c.args.file.now in
    skip_wrote file.input.now c.args.tokens.now _ c.args.cause c.requires file.options (g.K.Sink.taken c.args.out.now) (g.K.Sink.taken c.write_record.new.out) (Skipped c.in_ok-at.at c.args.cause) (ap (λ (s : Spot). Skipped s c.args.cause) c.in_ok-at.ensures) n _
    c.one_skipped.ensures c.in_ok-write_record.ensures.all
