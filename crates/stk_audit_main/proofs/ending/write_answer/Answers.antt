use Rattle.std.proofs.Common.{◌∙◌}
use Rattle.stk_audit_main.proofs.Ended.{not_flushed}
use Rattle.stk_audit_main.proofs.ending.write_answer.Goals as goal

pub returns-in_err-flush-clause-prefix : goal.returns-in_err-flush-clause-prefix
returns-in_err-flush-clause-prefix g c =
    not_flushed c.from_residual-in_err-flush.result c.args.bundle.now c.args.source.now (g.K.Sink.taken c.args.out.now) (g.K.Sink.taken c.write_all.new.sink) (g.K.Sink.taken c.flush.new.self) c.in_ok-answer.answer c.as_slice.result.now c.in_ok-answer.ensures
    (c.as_slice.ensures.value ∙ c.in_ok-text.ensures)
    c.in_ok-write_all.ensures.all
    c.flush.ensures.taken
