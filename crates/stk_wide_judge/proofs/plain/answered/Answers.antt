use Rattle.std.proofs.Common.{◌≡◌, sym, ◌∙◌}
use Rattle.stk_tree.specs.View.{view_function}
use Rattle.stk_wide_judge.specs.Wide.{AskedFunction, asked_in}
use Rattle.stk_wide_judge.proofs.Later.{answer_about, valid_start}
use Rattle.stk_wide_judge.proofs.Settling.{known_answer}
use Rattle.stk_wide_judge.proofs.plain.answered.Goals as goal

pub returns-in-Some-clause-answer : goal.returns-in-Some-clause-answer
returns-in-Some-clause-answer g c =
    let a : AskedFunction = asked_in c.args.function.now.tables.now (view_function c.args.function.now.f.now) in
    known_answer a c.args.known.now.starts.items c.args.asked.candidate (g.Q.Questions.spent c.args.questions.now) c.args.known.now.table c.args.set.now c.in_ok-start.field-0 c.in-Some.start c.requires.known c.in-Some.is
    (c.in_ok-start.ensures a c.args.asked.candidate c.requires.known (c.as_slice.ensures.value ∙ c.in_ok-rows.ensures))

pub returns-clause-answer : goal.returns-clause-answer
returns-clause-answer g c =
    let a : AskedFunction = asked_in c.args.function.now.tables.now (view_function c.args.function.now.f.now) in
    answer_about a (g.Q.Questions.about c.args.questions.now) (g.Q.Questions.spent c.args.questions.now) c.args.asked.candidate c.args.set.now c.in_ok-answer.answer c.requires.about c.in_ok-answer.ensures.answer

pub returns-clause-known : goal.returns-clause-known
returns-clause-known g c =
    let a : AskedFunction = asked_in c.args.function.now.tables.now (view_function c.args.function.now.f.now) in
    let spent = g.Q.Questions.spent c.args.questions.now in
    let k = c.args.asked.candidate in
    let x = c.in_ok-answer.answer in
    c.in_ok-note.ensures (valid_start a spent k c.args.set.now x (answer_about a (g.Q.Questions.about c.args.questions.now) spent k c.args.set.now x c.requires.about c.in_ok-answer.ensures.answer)) c.requires.known
