use Rattle.std.proofs.Common.{sym, ◌∙◌}
use Rattle.stk_base.specs.Causes.{Rose}
use Rattle.stk_lint.proofs.Asking.{judged_written, judged_ends, judged_is_there, judged_fails, script_ends, script_taken, script_stops, script_missing}
use Rattle.stk_lint.proofs.lint.answer_units.Goals as goal

pub returns-in-None-clause-only : goal.returns-in-None-clause-only
returns-in-None-clause-only g c =
    rw c.ended.ensures (judged_ends c.write_judged-written.result (judged_written c.args.file.now.input.now c.args.file.now.options _ _ _ _ _ c.write_judged-written.result c.in-None.is c.write_judged-written.ensures.text))

pub returns-in-None-clause-none : goal.returns-in-None-clause-none
returns-in-None-clause-none g c = λ e.
    absurd (judged_is_there c.write_judged-written.result (judged_written c.args.file.now.input.now c.args.file.now.options _ _ _ _ _ c.write_judged-written.result c.in-None.is c.write_judged-written.ensures.text) (sym c.ended.ensures ∙ e))

pub returns-in-None-clause-fault : goal.returns-in-None-clause-fault
returns-in-None-clause-fault g c = λ e.
    judged_fails (Rose (g.K.Sink.faults c.args.out.now) (g.K.Sink.faults c.write_judged-written.new.out)) c.write_judged-written.result (judged_written c.args.file.now.input.now c.args.file.now.options _ _ _ _ _ c.write_judged-written.result c.in-None.is c.write_judged-written.ensures.text) c.write_judged-written.ensures.fault (sym c.ended.ensures ∙ e)

pub returns-in-Some-clause-only : goal.returns-in-Some-clause-only
returns-in-Some-clause-only g c = script_ends c.answer_script.result c.answer_script.ensures.only

pub returns-in-Some-clause-text : goal.returns-in-Some-clause-text
returns-in-Some-clause-text g c = script_taken c.args.file.now.input.now c.args.file.now.options c.in-Some.asked (g.K.Sink.taken c.args.out.now) (g.K.Sink.taken c.answer_script.new.out) (g.K.Sink.flushed c.answer_script.new.out) (g.D.Decider.given_up c.args.decider.now) c.answer_script.result c.in-Some.is c.answer_script.ensures.only c.answer_script.ensures.script

pub returns-in-Some-clause-none : goal.returns-in-Some-clause-none
returns-in-Some-clause-none g c = λ e.
    let none = c.answer_script.ensures.none e in
    script_missing c.args.file.now.input.now c.args.file.now.options c.in-Some.asked (g.K.Sink.taken c.args.out.now) (g.K.Sink.taken c.answer_script.new.out) (g.K.Sink.flushed c.args.out.now) (g.K.Sink.flushed c.answer_script.new.out) c.in-Some.is none.0 none.1 none.2

pub returns-in-Some-clause-prefix : goal.returns-in-Some-clause-prefix
returns-in-Some-clause-prefix g c = λ e.
    script_stops c.args.file.now.input.now c.args.file.now.options c.in-Some.asked (g.K.Sink.taken c.args.out.now) (g.K.Sink.taken c.answer_script.new.out) c.in-Some.is (c.answer_script.ensures.prefix e)
