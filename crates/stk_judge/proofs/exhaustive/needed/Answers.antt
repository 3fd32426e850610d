use Rattle.std.proofs.Common.{arith, List, length, sym, ◌∙◌, ap, subst, Vec, Global}
use Rattle.stk_meaning.specs.declared.finding.Need.{Need}
use Rattle.stk_hits.specs.Subjects.{subject_of}
use Rattle.stk_guess.specs.Needed.{IsNeededSet}
use Rattle.stk_guess.proofs.Deletion.{IsNeededBehind, none_needed, no_condition, after_answer, after_none, all_asked}
use Rattle.stk_judge.proofs.exhaustive.needed.Goals as goal
use Rattle.stk_judge.proofs.exhaustive.needed.Goals.{in-Some+in_ok-push, in_default}

abbrev items_of : Vec Need Global → List Need
items_of v = v.items

pub loop-i-init : goal.loop-i-init
loop-i-init c runs k d many same none =
    subst (λ (u : List Need). IsNeededBehind (subject_of c.args.kinds.now runs c.args.conditions.now) k c.args.conditions.now (length c.args.conditions.now) u) (sym c.new-needs.ensures.items) (none_needed _ _ _ none)

pub loop-i-preserved : goal.loop-i-preserved
loop-i-preserved c runs k d many same none = elim c.match-branch-3.branch [
  | in-Some+in_ok-push w ↦ after_answer _ _ _ c.loop-i.i c.loop-i.needs.items c.as_slice.result.now c.match-branch-3.needs.items c.as_slice-in-loop-i.result.now c.in_ok-set.set.items no_condition c.in_ok-start.field-0 w.in-Some.start (omega arith) c.loop-i.auto.i (c.loop-i.invariant runs k d many same none) c.as_slice.ensures.value c.as_slice-in-loop-i.ensures.value c.in_ok-set.ensures (c.in_ok-start.ensures runs k c.args.conditions.now d many same) w.in-Some.is (ap items_of w.needs-is ∙ w.in_ok-push.ensures.items)
  | in_default w ↦ after_none _ _ _ c.loop-i.i c.loop-i.needs.items c.as_slice.result.now c.match-branch-3.needs.items c.as_slice-in-loop-i.result.now c.in_ok-set.set.items no_condition c.in_ok-start.field-0 (omega arith) c.loop-i.auto.i (c.loop-i.invariant runs k d many same none) c.as_slice.ensures.value c.as_slice-in-loop-i.ensures.value c.in_ok-set.ensures (c.in_ok-start.ensures runs k c.args.conditions.now d many same) w.in_default.is (ap items_of w.needs-is)
]

pub returns : goal.returns
returns c runs k d many same none =
    let asked = all_asked (subject_of c.args.kinds.now runs c.args.conditions.now) k c.args.conditions.now c.loop-i.i c.loop-i.needs.items c.loop-i-test.false (c.loop-i.invariant runs k d many same none) in
    subst (λ (u : List Need). IsNeededSet (subject_of c.args.kinds.now runs c.args.conditions.now) k c.args.conditions.now u) (sym (c.from_vec.ensures ∙ c.reverse.ensures.items)) asked
