use Rattle.std.proofs.Common.{◌≡◌, sym, ◌∙◌}
use Rattle.stk_hits.specs.Subjects.{subject_of}
use Rattle.stk_judge.proofs.Lawful.{clear_by_free, clear_by_none, none_free, reported}
use Rattle.stk_judge.proofs.exhaustive.finding_of.Goals as goal

pub returns-then-is_some : goal.returns-then-is_some
returns-then-is_some c runs d many =
    clear_by_free (subject_of c.args.kinds.now runs c.args.conditions.now) c.args.candidate c.in_ok-first_answer.field-0 (sym c.is_some.ensures ∙ c.if-is_some.true)
    (c.in_ok-first_answer.ensures runs c.args.candidate c.args.conditions.now d many (c.as_slice.ensures.value ∙ c.in_ok-rows.ensures))

pub returns-in_default : goal.returns-in_default
returns-in_default c runs d many =
    clear_by_none (subject_of c.args.kinds.now runs c.args.conditions.now) c.args.candidate c.in_ok-start.field-0 c.in_default.is
    (c.in_ok-start.ensures runs c.args.candidate c.args.conditions.now d many (c.as_slice-2.ensures.value ∙ c.in_ok-rows.ensures))

pub returns : goal.returns
returns c runs d many =
    let none = none_free (subject_of c.args.kinds.now runs c.args.conditions.now) c.args.candidate c.in_ok-first_answer.field-0 (sym c.is_some.ensures ∙ c.if-is_some.false) (c.in_ok-first_answer.ensures runs c.args.candidate c.args.conditions.now d many (c.as_slice.ensures.value ∙ c.in_ok-rows.ensures)) in
    reported c.args.kinds.now runs c.args.conditions.now c.args.candidate c.in_ok-start.field-0 c.in-Some.start c.in_ok-needs.needs none c.in-Some.is
    (c.in_ok-start.ensures runs c.args.candidate c.args.conditions.now d many (c.as_slice-2.ensures.value ∙ c.in_ok-rows.ensures))
    (c.in_ok-needs.ensures runs c.args.candidate d many (c.as_slice-3.ensures.value ∙ c.in_ok-rows.ensures) none)
