use Rattle.std.proofs.Common.{subst}
use Rattle.stk_tree.specs.View.{view_function}
use Rattle.stk_wide_judge.specs.Wide.{AskedFunction, asked_in}
use Rattle.stk_wide_judge.specs.declared.rounds.Round.{Round}
use Rattle.stk_wide_judge.specs.Rounds.{IsRound}
use Rattle.stk_wide_judge.proofs.Undecided.{found_earlier}
use Rattle.stk_wide_judge.proofs.judging.by_guesses.Goals as goal

pub returns-in-Found-clause-found : goal.returns-in-Found-clause-found
returns-in-Found-clause-found g c =
    let a : AskedFunction = asked_in c.args.function.now.tables.now (view_function c.args.function.now.f.now) in
    let about = g.Q.Questions.about in
    let spent = g.Q.Questions.spent in
    let given_up = g.D.Decider.given_up in
    let k = c.args.asked.candidate in
    let l = c.loop-round in
    let now = given_up c.nth_round.new.decider in
    found_earlier a k (about c.args.questions.now) (about l.questions) (spent c.args.questions.now) (spent l.questions) (given_up c.args.decider.now) (given_up l.decider) now c.in-Found.finding l.invariant.later
    (subst (λ (r : Round). IsRound a (spent l.questions) (given_up l.decider) now k r) c.in-Found.is c.in_ok-finding.ensures.found)
