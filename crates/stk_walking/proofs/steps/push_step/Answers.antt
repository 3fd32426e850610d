use Rattle.std.proofs.Common.{◌&&◌, arith}
use Rattle.stk_ctype.specs.declared.kind.IntKind.TheVariants.{Int}
use Rattle.stk_walking.proofs.Carried.{live_shown, live_more, steps_made, steps_more, events_more}
use Rattle.stk_walking.proofs.steps.push_step.Goals as goal

pub returns-clause-live : goal.returns-clause-live
returns-clause-live g c = λ m b d t served hg ht live.
    let shows = g.V.Values.shows in
    let keep = c.both.ensures.keeps.shown m in
    let old = shows c.args.values.now m Int in
    let now = shows c.both.new.self m Int in
    let kept = live_shown old now (keep Int) c.args.steps.now.items t live in
    rw c.in_ok-push.ensures.items (live_more now c.args.steps.now.items t (record { event = c.args.event; test = c.in_ok-test.test }) (b && d) kept (c.in_ok-test.ensures.value m b d served hg ht))

pub returns-clause-made : goal.returns-clause-made
returns-clause-made g c =
    let made = g.V.Values.made in
    rw c.in_ok-push.ensures.items (steps_more (made c.both.new.self) c.args.steps.now.items (record { event = c.args.event; test = c.in_ok-test.test }) (steps_made (made c.args.values.now) (made c.both.new.self) c.both.ensures.keeps.made_still c.args.steps.now.items c.requires.steps) c.in_ok-test.ensures.makes)

pub returns-clause-events : goal.returns-clause-events
returns-clause-events g c = rw c.in_ok-push.ensures.items (events_more c.args.steps.now.items (record { event = c.args.event; test = c.in_ok-test.test }))

pub returns-clause-charge : goal.returns-clause-charge
returns-clause-charge g c = omega (arith, c.in_ok-test.ensures.charge)
