use Rattle.std.proofs.Common.{subst, sym}
use Rattle.stk_tree.specs.View.{view_function}
use Rattle.stk_guess.specs.Needed.{IsNeededSet}
use Rattle.stk_wide_judge.specs.declared.asking.QueryAnswer.{QueryAnswer}
use Rattle.stk_wide_judge.specs.Wide.{AskedFunction, asked_in, asked_subject}
use Rattle.stk_wide_judge.proofs.Later.{started, needed_earlier}
use Rattle.stk_wide_judge.proofs.Settling.{reported, undecided_hit}
use Rattle.stk_wide_judge.proofs.plain.hit_finding.Goals as goal

pub returns-in_ok-needs-in-Start-clause-lawful : goal.returns-in_ok-needs-in-Start-clause-lawful
returns-in_ok-needs-in-Start-clause-lawful g c =
    let a : AskedFunction = asked_in c.args.function.now.tables.now (view_function c.args.function.now.f.now) in
    let spent = g.Q.Questions.spent c.args.questions.now in
    let set = needed_earlier a spent (g.Q.Questions.spent c.answered.new.questions) c.args.asked.candidate c.args.function.now.conditions.now c.in_ok-needs-in-Start.needs c.in_ok-answered.ensures.later.spent c.in_ok-needs-in-Start.ensures.set in
    reported a spent c.args.asked.candidate c.args.function.now.conditions.now c.in-Start.start c.in_ok-needs-in-Start.needs c.args.function.now.all c.requires.none (started a spent c.args.asked.candidate _ c.in_ok-answered.field-0 c.in-Start.start c.in-Start.is c.in_ok-answered.ensures.answer) set

pub returns-in-GivenUp-clause-lawful : goal.returns-in-GivenUp-clause-lawful
returns-in-GivenUp-clause-lawful g c =
    let a : AskedFunction = asked_in c.args.function.now.tables.now (view_function c.args.function.now.f.now) in
    undecided_hit a (g.Q.Questions.spent c.args.questions.now) c.args.asked.candidate c.args.function.now.conditions.now c.in_ok-answered.field-0 c.args.function.now.all c.requires.none c.in-GivenUp.is c.in_ok-answered.ensures.answer
