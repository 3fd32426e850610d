use Rattle.std.proofs.Common.{◌&&◌, List, [], ◌++◌, sym, ap, ◌∙◌, subst, if◌then◌else◌, arith}
use Rattle.stk_ctype.specs.declared.kind.IntKind.TheVariants.{Int}
use Rattle.stk_numbers.specs.declared.conditions.UbKind.{UbKind}
use Rattle.stk_numbers.specs.Taken.{is_taken}
use Rattle.stk_meaning.specs.Operations.{Test}
use Rattle.stk_meaning.specs.Conditions.{violated}
use Rattle.stk_walking.specs.declared.state.Event.{Event}
use Rattle.stk_walking.specs.declared.state.Event.TheVariants.{Broken}
use Rattle.stk_walking.specs.Events.{Live, one_if, events_of}
use Rattle.stk_walking.specs.NodeTests.{test_of}
use Rattle.stk_walking.proofs.Carried.{live_shown, steps_made}
use Rattle.stk_walking.proofs.Violated.{kept_is, one_event}
use Rattle.stk_walking.proofs.conditions.push_test.Goals as goal

pub push_step-requires-clause-steps : goal.push_step-requires-clause-steps
push_step-requires-clause-steps g c = steps_made (g.V.Values.made c.args.values.now) (g.V.Values.made c.breaks.new.values) c.breaks.ensures.keeps.made_still c.args.steps.now.items c.requires.steps

pub returns-clause-live : goal.returns-clause-live
returns-clause-live g c = λ m b x y z t served hg h live.
    let shows = g.V.Values.shows in
    let test = test_of c.args.test in
    let n = c.args.node in
    let w = c.args.without in
    let k1 = c.breaks.ensures.keeps in
    let kept = live_shown (shows c.args.values.now m Int) (shows c.breaks.new.values m Int) (k1.shown m Int) c.args.steps.now.items t live in
    let step = c.in_ok-push_step.ensures.live m b (test.broken x y z) t (k1.served m served) (k1.shown m _ _ _ hg) (c.in_ok-broken.ensures.value m x y z served h) kept in
    let now = shows c.push_step.new.values m Int in
    let items = c.push_step.new.steps.items in
    let free = ap (is_taken w) (sym c.kind_of-kind.ensures) ∙ sym c.has.ensures ∙ c.if-has.false in
    let called = subst (λ (k : UbKind). Live now items (t ++ one_if (b && test.broken x y z) (Broken (record { node = n; kind = k })))) c.kind_of-kind.ensures step in
    let whole = subst (λ (e : List Event). Live now items (t ++ e)) (one_event n test x y z b) called in
    subst (λ (l : List Test). Live now items (t ++ (if b then events_of (violated n l x y z) else []))) (sym (kept_is w test free)) whole

pub returns-clause-charge : goal.returns-clause-charge
returns-clause-charge g c = omega (arith, c.in_ok-broken.ensures.charge, c.in_ok-push_step.ensures.charge)
