use Rattle.std.proofs.Common.{subst, Option}
use Rattle.stk_tree.specs.View.{view_function}
use Rattle.stk_meaning.specs.declared.finding.Finding.{Finding}
use Rattle.stk_wide_judge.specs.Wide.{AskedFunction, asked_in}
use Rattle.stk_wide_judge.specs.Rounds.{IsCountedFinding, IsFoundOr}
use Rattle.stk_wide_judge.proofs.Later.{lawful_result}
use Rattle.stk_wide_judge.proofs.judging.judge_candidate.Goals as goal

pub returns-in-Some-clause-lawful : goal.returns-in-Some-clause-lawful
returns-in-Some-clause-lawful g c =
    let a : AskedFunction = asked_in c.args.function.now.tables.now (view_function c.args.function.now.f.now) in
    let spent = g.Q.Questions.spent c.args.questions.now in
    let before = g.D.Decider.given_up c.args.decider.now in
    let now = g.D.Decider.given_up c.by_guesses.new.decider in
    let found : IsCountedFinding a spent before now c.args.asked.candidate c.in-Some.finding = subst (λ (o : Option Finding). IsFoundOr a spent before now c.args.asked.candidate o) c.in-Some.is c.in_ok-finding.ensures.found in
    found.lawful

pub returns-in-Some-clause-marks : goal.returns-in-Some-clause-marks
returns-in-Some-clause-marks g c =
    let a : AskedFunction = asked_in c.args.function.now.tables.now (view_function c.args.function.now.f.now) in
    let spent = g.Q.Questions.spent c.args.questions.now in
    let before = g.D.Decider.given_up c.args.decider.now in
    let now = g.D.Decider.given_up c.by_guesses.new.decider in
    let found : IsCountedFinding a spent before now c.args.asked.candidate c.in-Some.finding = subst (λ (o : Option Finding). IsFoundOr a spent before now c.args.asked.candidate o) c.in-Some.is c.in_ok-finding.ensures.found in
    found.counted

pub returns-in-None-clause-lawful : goal.returns-in-None-clause-lawful
returns-in-None-clause-lawful g c =
    let a : AskedFunction = asked_in c.args.function.now.tables.now (view_function c.args.function.now.f.now) in
    lawful_result a (g.Q.Questions.spent c.args.questions.now) (g.Q.Questions.spent c.by_guesses.new.questions) c.args.asked.candidate c.plain.result c.in_ok-finding.ensures.later.spent c.plain.ensures.lawful
