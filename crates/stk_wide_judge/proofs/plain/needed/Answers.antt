use Rattle.std.proofs.Common.{◌≡◌, List, length, arith, sym, ◌∙◌, subst, refl}
use Rattle.stk_tree.specs.View.{view_function}
use Rattle.stk_meaning.specs.declared.finding.Need.{Need}
use Rattle.stk_guess.proofs.Deletion.{IsNeededBehind, none_needed, no_condition}
use Rattle.stk_wide_judge.specs.Wide.{AskedFunction, asked_in, asked_subject}
use Rattle.stk_spent_queries.specs.Marks.{open_count, AreCounted}
use Rattle.stk_spent_queries.proofs.Counting.{counted_none}
use Rattle.stk_wide_judge.proofs.Counting.{counted_answer, counted_reverse}
use Rattle.stk_wide_judge.proofs.Later.{later_same, later_more, answer_earlier}
use Rattle.stk_wide_judge.proofs.Deleting.{after_answer}
use Rattle.stk_wide_judge.proofs.plain.needed.Goals as goal

pub loop-i-init : goal.loop-i-init
loop-i-init g c =
    let a : AskedFunction = asked_in c.args.function.now.tables.now (view_function c.args.function.now.f.now) in
    let about = g.Q.Questions.about c.args.questions.now in
    let spent = g.Q.Questions.spent c.args.questions.now in
    let given_up = g.D.Decider.given_up c.args.decider.now in
    record {
      set = subst (λ (u : List Need). IsNeededBehind (asked_subject a spent) c.args.asked.candidate c.args.function.now.conditions.now (length c.args.function.now.conditions.now) u) (sym c.new-needs.ensures.items) (none_needed _ _ _ c.requires.none);
      known = c.requires.known;
      counted = subst (λ (u : List Need). AreCounted given_up given_up (open_count u)) (sym c.new-needs.ensures.items) (counted_none given_up given_up (omega arith));
      later = later_same about spent given_up;
    }

pub loop-i-preserved : goal.loop-i-preserved
loop-i-preserved g c =
    let a : AskedFunction = asked_in c.args.function.now.tables.now (view_function c.args.function.now.f.now) in
    let about = g.Q.Questions.about in
    let spent = g.Q.Questions.spent in
    let given_up = g.D.Decider.given_up in
    let at_first = given_up c.args.decider.now in
    let at_then = given_up c.loop-i.decider in
    let at_now = given_up c.answered.new.decider in
    let inv = c.loop-i.invariant in
    let first = c.args.questions.now in
    let then = c.loop-i.questions in
    let now = c.answered.new.questions in
    let answer = answer_earlier a (spent first) (spent then) c.args.asked.candidate c.as_slice-in-loop-i.result.now c.in_ok-answer.answer inv.later.spent c.in_ok-answer.ensures.answer in
    record {
      set = after_answer a (spent first) c.args.asked.candidate c.args.function.now.conditions.now c.loop-i.i c.loop-i.needs.items c.as_slice.result.now c.add_member.new.needs.items c.in_ok-set.set.items c.as_slice-in-loop-i.result.now no_condition c.in_ok-answer.answer (omega arith) c.loop-i.auto.i inv.set c.as_slice.ensures.value c.as_slice-in-loop-i.ensures.value c.in_ok-set.ensures answer c.in_ok-add_member.ensures;
      known = c.in_ok-answer.ensures.known;
      counted = subst (λ (u : List Need). AreCounted at_first at_now (open_count u)) (sym c.in_ok-add_member.ensures) (counted_answer at_first at_then at_now c.loop-i.needs.items _ c.in_ok-answer.answer inv.later.counted c.in_ok-answer.ensures.later.counted inv.counted c.in_ok-answer.ensures.counted);
      later = later_more (about first) (about then) (about now) (spent first) (spent then) (spent now) at_first at_then at_now inv.later c.in_ok-answer.ensures.later;
    }

pub returns-clause-marks : goal.returns-clause-marks
returns-clause-marks g c =
    let first = g.D.Decider.given_up c.args.decider.now in
    let now = g.D.Decider.given_up c.loop-i.decider in
    subst (λ (u : List Need). AreCounted first now (open_count u)) (sym (c.from_vec.ensures ∙ c.reverse.ensures.items)) (counted_reverse first now c.loop-i.needs.items c.loop-i.invariant.counted)
