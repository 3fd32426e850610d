use Rattle.std.proofs.Common.{◌≡◌, ◌≤◌, length, sym, ap, ◌∙◌, subst, arith, eqb-true}
use Rattle.stk_tree.specs.View.{view_function}
use Rattle.stk_meaning.specs.declared.finding.Finding.{Finding}
use Rattle.stk_meaning.specs.declared.finding.Finding.TheVariants.{Clear}
use Rattle.stk_meaning.specs.Findings.{members}
use Rattle.stk_wide_judge.specs.Wide.{AskedFunction, asked_in}
use Rattle.stk_wide_judge.specs.declared.asking.QueryAnswer.{QueryAnswer}
use Rattle.stk_wide_judge.specs.Answers.{IsCounted}
use Rattle.stk_wide_judge.specs.Rounds.{IsCountedFinding}
use Rattle.stk_wide_judge.proofs.Later.{none_about, answer_about, started}
use Rattle.stk_wide_judge.proofs.Settling.{settled_free, none_free}
use Rattle.stk_wide_judge.proofs.Undecided.{decided_counted, given_up_guess, spent_nothing, found_after}
use Rattle.stk_wide_judge.proofs.rounds.one_round.Goals as goal

pub returns-then-is_some-clause-found : goal.returns-then-is_some-clause-found
returns-then-is_some-clause-found g c =
    let a : AskedFunction = asked_in c.args.function.now.tables.now (view_function c.args.function.now.f.now) in
    let n = g.D.Decider.given_up c.args.decider.now in
    let up : n ≤ n = omega arith in
    decided_counted a c.args.asked.candidate (g.Q.Questions.spent c.args.questions.now) n n Clear up
    (settled_free a c.args.known.now.starts.items c.args.asked.candidate c.args.known.now.table c.args.function.now.conditions.now c.args.function.now.all c.requires.known c.in_ok-free.free (sym c.is_some.ensures ∙ c.if-is_some.true)
    (c.in_ok-free.ensures a c.args.asked.candidate c.requires.known (c.as_slice.ensures.value ∙ c.in_ok-rows.ensures)))

pub returns-in-Never-clause-found : goal.returns-in-Never-clause-found
returns-in-Never-clause-found g c =
    let a : AskedFunction = asked_in c.args.function.now.tables.now (view_function c.args.function.now.f.now) in
    let starts = c.args.known.now.starts.items in
    let k = c.args.asked.candidate in
    let rows = c.as_slice.ensures.value ∙ c.in_ok-rows.ensures in
    let again = c.as_slice-2.ensures.value ∙ c.in_ok-rows.ensures in
    let last = c.as_slice-in-Never.ensures.value ∙ c.in_ok-rows.ensures in
    let apart = none_free a starts k c.args.function.now.conditions.now c.in_ok-free.free (sym c.is_some.ensures ∙ c.if-is_some.false) (c.in_ok-free.ensures a k c.requires.known rows) in
    let guess = c.in_ok-needs.ensures a k c.requires.known again c.args.function.now.all apart in
    let set = c.as_slice-4.ensures.value ∙ (c.in_ok-set.ensures ∙ ap members c.as_slice-3.ensures) in
    let never = none_about a (g.Q.Questions.about c.args.questions.now) (g.Q.Questions.spent c.args.questions.now) k (members c.in_ok-needs.needs) c.as_slice-4.result.now c.in_ok-start.field-0 c.requires.about set c.in-Never.is c.in_ok-start.ensures.answer in
    decided_counted a k (g.Q.Questions.spent c.args.questions.now) _ _ c.in_ok-finding-in-Never.finding c.in_ok-start.ensures.later.counted (c.in_ok-finding-in-Never.ensures a k c.requires.known last guess never)

pub returns-in-Start-clause-known : goal.returns-in-Start-clause-known
returns-in-Start-clause-known g c =
    let a : AskedFunction = asked_in c.args.function.now.tables.now (view_function c.args.function.now.f.now) in
    let spent = g.Q.Questions.spent c.args.questions.now in
    let k = c.args.asked.candidate in
    let x = c.in_ok-start.field-0 in
    let answer = answer_about a (g.Q.Questions.about c.args.questions.now) spent k c.as_slice-4.result.now x c.requires.about c.in_ok-start.ensures.answer in
    let found = started a spent k c.as_slice-4.result.now x c.in-Start.start c.in-Start.is answer in
    c.in_ok-add-in-Start.ensures found.valid c.requires.known

pub returns-then-len-function-clause-found : goal.returns-then-len-function-clause-found
returns-then-len-function-clause-found g c =
    let a : AskedFunction = asked_in c.args.function.now.tables.now (view_function c.args.function.now.f.now) in
    let starts = c.args.known.now.starts.items in
    let k = c.args.asked.candidate in
    let all = c.args.function.now.conditions.now in
    let rows = c.as_slice.ensures.value ∙ c.in_ok-rows.ensures in
    let again = c.as_slice-2.ensures.value ∙ c.in_ok-rows.ensures in
    let apart = none_free a starts k all c.in_ok-free.free (sym c.is_some.ensures ∙ c.if-is_some.false) (c.in_ok-free.ensures a k c.requires.known rows) in
    let guess = c.in_ok-needs.ensures a k c.requires.known again c.args.function.now.all apart in
    let set = c.as_slice-4.ensures.value ∙ (c.in_ok-set.ensures ∙ ap members c.as_slice-3.ensures) in
    let full : length c.as_slice-4.result.now ≡ length all = omega (arith, c.as_slice-4.ensures.len, c.len.ensures, c.if-len-function.true) in
    given_up_guess a (g.Q.Questions.spent c.args.questions.now) (g.D.Decider.given_up c.args.decider.now) (g.D.Decider.given_up c.ask.new.decider) k (g.Q.Questions.about c.args.questions.now) starts all c.as_slice-4.result.now c.in_ok-needs.needs c.in_ok-start.field-0
    c.requires.about c.args.function.now.all guess set full c.in-GivenUp.is c.in_ok-start.ensures.answer c.in_ok-start.ensures.counted

pub returns-then-is_empty-clause-found : goal.returns-then-is_empty-clause-found
returns-then-is_empty-clause-found g c =
    let a : AskedFunction = asked_in c.args.function.now.tables.now (view_function c.args.function.now.f.now) in
    let spent = g.Q.Questions.spent c.args.questions.now in
    let given_up = g.D.Decider.given_up in
    let before = given_up c.args.decider.now in
    let middle = given_up c.ask.new.decider in
    let now = given_up c.answered.new.decider in
    let k = c.args.asked.candidate in
    let x = c.in_ok-start.field-0 in
    let empty : length c.as_slice-4.result.now ≡ 0 = c.as_slice-4.ensures.len ∙ eqb-true _ _ (sym c.is_empty.ensures ∙ c.if-is_empty.true) in
    let hit = spent_nothing (g.Q.Questions.about c.args.questions.now) spent k c.as_slice-4.result.now x empty c.in-GivenUp.is c.in_ok-start.ensures.answer in
    let rose = subst (λ (y : QueryAnswer). IsCounted before middle y) c.in-GivenUp.is c.in_ok-start.ensures.counted in
    let later = c.in_ok-answer-in-GivenUp.ensures in
    subst (λ (f : Finding). IsCountedFinding a spent before now k f) (sym c.after_hit.ensures)
    (found_after a spent (g.Q.Questions.spent c.ask.new.self) before middle now k c.in_ok-start.ensures.later.spent hit c.in_ok-start.ensures.later.counted rose later.later.counted c.args.function.now.conditions.now c.args.function.now.all c.in_ok-answer-in-GivenUp.answer later.answer)
