use Rattle.std.proofs.Common.{◌&&◌, ◌||◌, not, refl, arith}
use Rattle.stk_walking.proofs.Carried.{is_made_still, is_made_guarded, stands_still}
use Rattle.stk_walking.proofs.Leading.{stands_guarded}
use Rattle.stk_walk_statements.proofs.guards.pass_test.Goals as goal

pub returns-clause-made : goal.returns-clause-made
returns-clause-made g c = λ G a.
    let made = g.V.Values.made in
    let still = is_made_still (made c.args.values.now) (made c.either.new.values) (λ k v x. c.either.ensures.keeps.made_still k v (c.both.ensures.keeps.made_still k v (c.opposite.ensures.keeps.made_still k v x))) G c.args.state.now a in
    is_made_guarded (made c.either.new.values) G c.args.state.now c.in_ok-guard.guard still c.in_ok-guard.ensures.makes

pub returns-clause-stands : goal.returns-clause-stands
returns-clause-stands g c = λ G m s b served ht at.
    let shows = g.V.Values.shows in
    let k1 = c.opposite.ensures.keeps in
    let k2 = c.both.ensures.keeps in
    let k3 = c.either.ensures.keeps in
    let still = stands_still (shows c.args.values.now m) (shows c.either.new.values m) (λ k v z h. k3.shown m k v z (k2.shown m k v z (k1.shown m k v z h))) G c.args.state.now s at in
    let s1 = k1.served m served in
    let ended = c.in_ok-ended.ensures.value m s.alive (not b) s1 (k1.shown m _ _ _ at.guard) (c.in_ok-opposite.ensures.value m b served ht) in
    let guard = c.in_ok-guard.ensures.value m (s.alive && not b) s.broken (k2.served m s1) ended (k2.shown m _ _ _ (k1.shown m _ _ _ at.broken)) in
    stands_guarded (shows c.either.new.values m) G c.args.state.now s c.in_ok-guard.guard ((s.alive && not b) || s.broken) still guard

pub returns-clause-charge : goal.returns-clause-charge
returns-clause-charge g c = omega (arith, c.in_ok-opposite.ensures.charge, c.in_ok-ended.ensures.charge, c.in_ok-guard.ensures.charge)

pub returns-clause-cells : goal.returns-clause-cells
returns-clause-cells g c = refl
