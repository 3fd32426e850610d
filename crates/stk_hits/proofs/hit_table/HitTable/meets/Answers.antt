use Rattle.std.proofs.Common.{◌≡◌, refl, length, ◌≤◌, ◌<◌, ◌-◌, sym, ap, ◌∙◌, subst, arith, Some, slice_get}
use Rattle.std.proofs.lemmas.Option.{slice_get_read}
use Rattle.indexmap.specs.IndexSet.{contains}
use Rattle.stk_hits.specs.ConditionIds.{same_condition_id}
use Rattle.stk_hits.specs.Tables.{AreSteps}
use Rattle.stk_hits.proofs.Numbers.{none_at}
use Rattle.stk_hits.proofs.Growing.{begins, met, goes_back}
use Rattle.stk_hits.proofs.hit_table.HitTable.meets.Goals as goal

pub steps-init : goal.steps-init
steps-init c = (c.as_slice-steps.ensures.keys ∙ ap (λ t. t.steps) c.self.view_is, subst AreSteps (sym c.as_slice-steps.ensures.keys) c.self.invariant, λ ms n. begins n)

pub returns-then-contains : goal.returns-then-contains
returns-then-contains c ms n =
    let here : slice_get c.as_slice-steps.result.now (c.steps.at - 1) ≡ Some c.in-Some.step.now = (let l = c.in-Some.ensures.lookup in slice_get_read c.as_slice-steps.result.now (length c.as_slice-steps.result.now) (c.steps.at - 1) c.in-Some.step.now refl l.3.0 l.1) in
    met _ (λ m. contains same_condition_id c.args.condition_ids.now m) ms c.steps.at c.in-Some.step.now (c.steps.invariant.2 ms n) c.steps-test.true (ap (λ u. slice_get u (c.steps.at - 1)) (sym c.steps.invariant.0) ∙ here) (sym c.contains.ensures ∙ c.if-contains.true)

pub steps-smaller : goal.steps-smaller
steps-smaller c =
    let here : slice_get c.as_slice-steps.result.now (c.steps.at - 1) ≡ Some c.in-Some.step.now = (let l = c.in-Some.ensures.lookup in slice_get_read c.as_slice-steps.result.now (length c.as_slice-steps.result.now) (c.steps.at - 1) c.in-Some.step.now refl l.3.0 l.1) in
    let low : c.in-Some.step.now.before ≤ c.steps.at - 1 = c.steps.invariant.1 (c.steps.at - 1) c.in-Some.step.now here in
    let positive = c.steps-test.true in
    omega arith

pub steps-preserved : goal.steps-preserved
steps-preserved c =
    let here : slice_get c.as_slice-steps.result.now (c.steps.at - 1) ≡ Some c.in-Some.step.now = (let l = c.in-Some.ensures.lookup in slice_get_read c.as_slice-steps.result.now (length c.as_slice-steps.result.now) (c.steps.at - 1) c.in-Some.step.now refl l.3.0 l.1) in
    (c.steps.invariant.0, c.steps.invariant.1, λ ms n. goes_back _ (λ m. contains same_condition_id c.args.condition_ids.now m) ms c.steps.at c.in-Some.step.now (c.steps.invariant.2 ms n) c.steps-test.true (ap (λ u. slice_get u (c.steps.at - 1)) (sym c.steps.invariant.0) ∙ here) (sym c.contains.ensures ∙ c.if-contains.false))

pub returns : goal.returns
returns c ms n =
    let left = c.steps.invariant.2 ms n in
    let none : c.steps.at ≤ 0 = let f = c.steps-test.false in omega arith in
    sym (left.same ∙ none_at (λ m. contains same_condition_id c.args.condition_ids.now m) left.number none)
