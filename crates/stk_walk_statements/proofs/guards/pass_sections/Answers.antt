use Rattle.std.proofs.Common.{◌||◌, refl, arith}
use Rattle.stk_walking.proofs.Carried.{is_made_still, is_made_guarded, stands_still}
use Rattle.stk_walking.proofs.Leading.{stands_guarded}
use Rattle.stk_walk_statements.proofs.guards.pass_sections.Goals as goal

pub returns-clause-made : goal.returns-clause-made
returns-clause-made g c = λ G a.
    let made = g.V.Values.made in
    let still = is_made_still (made c.args.values.now) (made c.either-2.new.values) (λ k v x. c.either-2.ensures.keeps.made_still k v (c.either.ensures.keeps.made_still k v x)) G c.args.state.now a in
    is_made_guarded (made c.either-2.new.values) G c.args.state.now c.in_ok-guard.guard still c.in_ok-guard.ensures.makes

pub returns-clause-stands : goal.returns-clause-stands
returns-clause-stands g c = λ G m s b served ho at.
    let shows = g.V.Values.shows in
    let k1 = c.either.ensures.keeps in
    let k2 = c.either-2.ensures.keeps in
    let still = stands_still (shows c.args.values.now m) (shows c.either-2.new.values m) (λ k v z h. k2.shown m k v z (k1.shown m k v z h)) G c.args.state.now s at in
    let passed = c.in_ok-passed.ensures.value m s.alive s.broken served at.guard at.broken in
    stands_guarded (shows c.either-2.new.values m) G c.args.state.now s c.in_ok-guard.guard ((s.alive || s.broken) || b) still (c.in_ok-guard.ensures.value m (s.alive || s.broken) b (k1.served m served) passed (k1.shown m _ _ _ ho))

pub returns-clause-charge : goal.returns-clause-charge
returns-clause-charge g c = omega (arith, c.in_ok-passed.ensures.charge, c.in_ok-guard.ensures.charge)

pub returns-clause-cells : goal.returns-clause-cells
returns-clause-cells g c = refl
