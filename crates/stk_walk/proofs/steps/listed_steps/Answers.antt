use Rattle.std.proofs.Common.{◌≡◌, [], ◌∷◌, ◌++◌, ◌∙◌, List, map, ap, sym, subst, rules}
use Rattle.stk_values.specs.declared.walked.Step.{Step}
use Rattle.stk_values.specs.Walks.{test_of}
use Rattle.stk_walking.specs.declared.state.GuardedEvent.{GuardedEvent}
use Rattle.stk_walking.specs.Events.{events_in}
use Rattle.stk_event_laws.specs.Positions.{listed_step}
use Rattle.stk_walk.specs.Steps.{AreHitsIn}
use Rattle.stk_walk.proofs.Placing.{none_left}
use Rattle.stk_walk.proofs.Tracing.{joined, with_none, mapped}
use Rattle.stk_walk.proofs.steps.listed_steps.Goals as goal

pub loop-step-preserved : goal.loop-step-preserved
loop-step-preserved g c =
    let so_far = c.loop-step.invariant in
    let cs = c.args.list.now in
    let found = c.loop-step.found.items in
    let s = c.in-Some.step.now in
    let behind = c.in-Some.behind.now in
    let y = c.listed_step.result in
    let split : c.loop-step.rest.now ≡ s ∷ behind = search rules in
    let pushed : c.push.new.self.items ≡ found ++ y ∷ [] = search rules in
    let left : AreHitsIn cs (events_in c.args.steps.now) → AreHitsIn cs (events_in (s ∷ behind)) = λ h. subst (λ (xs : List (GuardedEvent g.row.T.Denot)). AreHitsIn cs (events_in xs)) split (so_far.0 h) in (
      (λ h. (left h).1),
      (λ order h.
          ap (λ (z : List (Step g.row.T.Denot)). z ++ map (λ x. listed_step cs x) behind) pushed ∙ joined found (y ∷ []) (map (λ x. listed_step cs x) behind)
          ∙ ap (λ (z : Step g.row.T.Denot). found ++ z ∷ map (λ x. listed_step cs x) behind) (c.listed_step.ensures.is order (left h).0)
          ∙ ap (λ (xs : List (GuardedEvent g.row.T.Denot)). found ++ map (λ x. listed_step cs x) xs) (sym split) ∙ so_far.1 order h),
      ap (λ (z : List (Step g.row.T.Denot)). map (λ x. test_of x) z ++ map (λ x. x.test) behind) pushed ∙ ap (λ z. z ++ map (λ x. x.test) behind) (mapped (λ x. test_of x) found (y ∷ []))
          ∙ joined (map (λ x. test_of x) found) (test_of y ∷ []) (map (λ x. x.test) behind) ∙ ap (λ z. map (λ x. test_of x) found ++ z ∷ map (λ x. x.test) behind) c.listed_step.ensures.test
          ∙ ap (λ (xs : List (GuardedEvent g.row.T.Denot)). map (λ x. test_of x) found ++ map (λ x. x.test) xs) (sym split) ∙ so_far.2,
    )

pub returns-clause-are : goal.returns-clause-are
returns-clause-are g c = λ order h.
    let cs = c.args.list.now in
    let none : c.loop-step.rest.now ≡ [] = none_left c.loop-step.rest.now c.in_default.ensures.cases in
    sym (with_none c.loop-step.found.items) ∙ ap (λ (xs : List (GuardedEvent g.row.T.Denot)). c.loop-step.found.items ++ map (λ x. listed_step cs x) xs) (sym none) ∙ c.loop-step.invariant.1 order h

pub returns-clause-tests : goal.returns-clause-tests
returns-clause-tests g c =
    let none : c.loop-step.rest.now ≡ [] = none_left c.loop-step.rest.now c.in_default.ensures.cases in
    sym (with_none (map (λ x. test_of x) c.loop-step.found.items)) ∙ ap (λ (xs : List (GuardedEvent g.row.T.Denot)). map (λ x. test_of x) c.loop-step.found.items ++ map (λ x. x.test) xs) (sym none) ∙ c.loop-step.invariant.2
