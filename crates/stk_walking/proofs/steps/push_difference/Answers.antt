use Rattle.stk_ctype.specs.declared.kind.IntKind.TheVariants.{Int}
use Rattle.stk_walking.specs.Events.{differs}
use Rattle.stk_walking.proofs.Carried.{live_shown, steps_made}
use Rattle.std.proofs.Common.{arith}
use Rattle.stk_walking.proofs.steps.push_difference.Goals as goal

pub returns-clause-live : goal.returns-clause-live
returns-clause-live g c = λ m b x y t served hg hx hy live.
    let shows = g.V.Values.shows in
    let k1 = c.differing.ensures.keeps in
    let s1 = k1.served m served in
    let kept = live_shown (shows c.args.values.now m Int) (shows c.differing.new.values m Int) (k1.shown m Int) c.args.steps.now.items t live in
    c.in_ok-push_step.ensures.live m b (differs x y) t s1 (k1.shown m _ _ _ hg) (c.in_ok-different.ensures.value m x y served hx hy) kept

pub push_step-requires-clause-steps : goal.push_step-requires-clause-steps
push_step-requires-clause-steps g c = steps_made (g.V.Values.made c.args.values.now) (g.V.Values.made c.differing.new.values) c.differing.ensures.keeps.made_still c.args.steps.now.items c.requires.steps

pub returns-clause-charge : goal.returns-clause-charge
returns-clause-charge g c = omega (arith, c.in_ok-different.ensures.charge, c.in_ok-push_step.ensures.charge)
