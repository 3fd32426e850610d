use Rattle.std.proofs.Common.{not, ◌++◌, ◌∷◌, [], ap, ◌∙◌, append_assoc, arith}
use Rattle.stk_ctype.specs.declared.kind.IntKind.TheVariants.{Int}
use Rattle.stk_numbers.specs.declared.conditions.CandKind.TheVariants.{AlwaysTrue, AlwaysFalse}
use Rattle.stk_walking.specs.Events.{hit, events_in}
use Rattle.stk_walking.proofs.Carried.{live_shown, steps_made}
use Rattle.stk_walking.proofs.steps.push_truth.Goals as goal

pub returns-clause-live : goal.returns-clause-live
returns-clause-live g c = λ m b d t served hg ht live.
    let shows = g.V.Values.shows in
    let k1 = c.opposite.ensures.keeps in
    let k2 = c.push_step.ensures.keeps in
    let s1 = k1.served m served in
    let s2 = k2.served m s1 in
    let no = c.in_ok-opposite.ensures.value m d served ht in
    let guard1 = k1.shown m _ _ _ hg in
    let old = shows c.args.values.now m Int in
    let mid = shows c.opposite.new.self m Int in
    let kept = live_shown old mid (k1.shown m Int) c.args.steps.now.items t live in
    let first = c.in_ok-push_step.ensures.live m b (not d) t s1 guard1 no kept in
    c.in_ok-push_step-2.ensures.live m b d _ s2 (k2.shown m _ _ _ guard1) (k2.shown m _ _ _ (k1.shown m _ _ _ ht)) first

pub push_step-requires-clause-steps : goal.push_step-requires-clause-steps
push_step-requires-clause-steps g c = steps_made (g.V.Values.made c.args.values.now) (g.V.Values.made c.opposite.new.self) c.opposite.ensures.keeps.made_still c.args.steps.now.items c.requires.steps

pub returns-clause-events : goal.returns-clause-events
returns-clause-events g c =
    c.in_ok-push_step-2.ensures.events
    ∙ ap (λ z. z ++ hit c.args.node AlwaysFalse ∷ []) c.in_ok-push_step.ensures.events
    ∙ append_assoc (events_in c.args.steps.now.items) (hit c.args.node AlwaysTrue ∷ []) (hit c.args.node AlwaysFalse ∷ [])

pub returns-clause-charge : goal.returns-clause-charge
returns-clause-charge g c = omega (arith, c.in_ok-opposite.ensures.charge, c.in_ok-push_step.ensures.charge, c.in_ok-push_step-2.ensures.charge)
