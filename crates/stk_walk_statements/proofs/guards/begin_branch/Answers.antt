use Rattle.std.proofs.Common.{◌&&◌, not, refl, arith}
use Rattle.stk_walking.proofs.Carried.{is_made_still, is_made_guarded, stands_still}
use Rattle.stk_walking.proofs.Leading.{stands_guarded}
use Rattle.stk_walk_statements.proofs.guards.begin_branch.Goals as goal

pub returns-clause-made : goal.returns-clause-made
returns-clause-made g c = λ G a.
    let made = g.V.Values.made in
    let still = is_made_still (made c.args.values.now) (made c.both-2.new.self) (λ k v x. c.both-2.ensures.keeps.made_still k v (c.both.ensures.keeps.made_still k v (c.opposite.ensures.keeps.made_still k v x))) G c.args.state.now a in
    is_made_guarded (made c.both-2.new.self) G c.args.state.now c.in_ok-guard.guard still c.in_ok-guard.ensures.makes

pub returns-clause-other : goal.returns-clause-other
returns-clause-other g c = λ m a b served hg ht.
    let k1 = c.opposite.ensures.keeps in
    c.both-2.ensures.keeps.shown m _ _ _ (c.in_ok-other.ensures.value m a (not b) (k1.served m served) (k1.shown m _ _ _ hg) (c.in_ok-opposite.ensures.value m b served ht))

pub returns-clause-stands : goal.returns-clause-stands
returns-clause-stands g c = λ G m s b served ht at.
    let shows = g.V.Values.shows in
    let k1 = c.opposite.ensures.keeps in
    let k2 = c.both.ensures.keeps in
    let k3 = c.both-2.ensures.keeps in
    let still = stands_still (shows c.args.values.now m) (shows c.both-2.new.self m) (λ k v z h. k3.shown m k v z (k2.shown m k v z (k1.shown m k v z h))) G c.args.state.now s at in
    let guard = c.in_ok-guard.ensures.value m s.alive b (k2.served m (k1.served m served)) (k2.shown m _ _ _ (k1.shown m _ _ _ at.guard)) (k2.shown m _ _ _ (k1.shown m _ _ _ ht)) in
    stands_guarded (shows c.both-2.new.self m) G c.args.state.now s c.in_ok-guard.guard (s.alive && b) still guard

pub returns-clause-charge : goal.returns-clause-charge
returns-clause-charge g c = omega (arith, c.in_ok-opposite.ensures.charge, c.in_ok-other.ensures.charge, c.in_ok-guard.ensures.charge)

pub returns-clause-cells : goal.returns-clause-cells
returns-clause-cells g c = refl
