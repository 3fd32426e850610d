use Rattle.stk_tree.specs.View.{view_function}
use Rattle.stk_wide_judge.specs.Wide.{AskedFunction, asked_in}
use Rattle.stk_wide_judge.proofs.Later.{answer_about, started}
use Rattle.stk_wide_judge.proofs.Undecided.{given_up_free}
use Rattle.stk_wide_judge.proofs.rounds.free_round.Goals as goal

pub returns-in_ok-add-in-Start-clause-known : goal.returns-in_ok-add-in-Start-clause-known
returns-in_ok-add-in-Start-clause-known g c =
    let a : AskedFunction = asked_in c.args.function.now.tables.now (view_function c.args.function.now.f.now) in
    let spent = g.Q.Questions.spent c.args.questions.now in
    let k = c.args.asked.candidate in
    let x = c.in_ok-answer.answer in
    let answer = answer_about a (g.Q.Questions.about c.args.questions.now) spent k c.args.function.now.conditions.now x c.requires.about c.in_ok-answer.ensures.answer in
    let found = started a spent k c.args.function.now.conditions.now x c.in-Start.start c.in-Start.is answer in
    c.in_ok-add-in-Start.ensures found.valid c.requires.known

pub returns-in-GivenUp-clause-found : goal.returns-in-GivenUp-clause-found
returns-in-GivenUp-clause-found g c =
    let a : AskedFunction = asked_in c.args.function.now.tables.now (view_function c.args.function.now.f.now) in
    let all = c.args.function.now.conditions.now in
    given_up_free a (g.Q.Questions.spent c.args.questions.now) _ _ c.args.asked.candidate (g.Q.Questions.about c.args.questions.now) all c.in_ok-answer.answer c.requires.about c.args.function.now.all c.in-GivenUp.is c.in_ok-answer.ensures.answer c.in_ok-answer.ensures.counted
