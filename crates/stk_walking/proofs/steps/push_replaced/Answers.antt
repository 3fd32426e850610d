use Rattle.std.proofs.Common.{◌++◌, ◌∷◌, [], ap, ◌∙◌, append_assoc, arith}
use Rattle.stk_numbers.specs.declared.conditions.CandKind.TheVariants.{Algebra}
use Rattle.stk_walking.specs.Events.{hit, events_in, truth_events}
use Rattle.stk_walking.proofs.steps.push_replaced.Goals as goal

pub returns-clause-live : goal.returns-clause-live
returns-clause-live g c = λ m b x y t served hg hx hy live.
    let k1 = c.push_truth.ensures.keeps in
    let s1 = k1.served m served in
    let first = c.in_ok-push_truth.ensures.live m b x t served hg hx live in
    c.in_ok-push_difference.ensures.live m b x y _ s1 (k1.shown m _ _ _ hg) (k1.shown m _ _ _ hx) (k1.shown m _ _ _ hy) first

pub returns-clause-events : goal.returns-clause-events
returns-clause-events g c =
    c.in_ok-push_difference.ensures.events
    ∙ ap (λ z. z ++ hit c.args.node Algebra ∷ []) c.in_ok-push_truth.ensures.events
    ∙ append_assoc (events_in c.args.steps.now.items) (truth_events c.args.node) (hit c.args.node Algebra ∷ [])

pub returns-clause-charge : goal.returns-clause-charge
returns-clause-charge g c = omega (arith, c.in_ok-push_truth.ensures.charge, c.in_ok-push_difference.ensures.charge)
