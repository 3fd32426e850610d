use Rattle.stk_findings.proofs.Answered.{is_answer}
use Rattle.stk_findings.proofs.questions.FunctionQuestionsQuestions.ask.Goals as goal

pub returns-clause-answer : goal.returns-clause-answer
returns-clause-answer g c =
    let s = c.args.self.now in
    is_answer s.goals c.args.candidate c.args.set.now s.budget c.in_ok-answer.answer c.in_ok-answer.ensures.right
