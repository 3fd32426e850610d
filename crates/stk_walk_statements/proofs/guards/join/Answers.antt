use Rattle.std.proofs.Common.{◌||◌, refl, arith}
use Rattle.stk_walking.proofs.Carried.{is_made_still, is_made_guarded, stands_still}
use Rattle.stk_walking.proofs.Leading.{stands_guarded}
use Rattle.stk_walk_statements.proofs.guards.join.Goals as goal

pub returns-clause-made : goal.returns-clause-made
returns-clause-made g c = λ G a.
    let made = g.V.Values.made in
    is_made_guarded (made c.either.new.values) G c.args.state.now c.in_ok-guard.guard (is_made_still (made c.args.values.now) (made c.either.new.values) c.either.ensures.keeps.made_still G c.args.state.now a) c.in_ok-guard.ensures.makes

pub returns-clause-stands : goal.returns-clause-stands
returns-clause-stands g c = λ G m s b served ho at.
    let shows = g.V.Values.shows in
    let still = stands_still (shows c.args.values.now m) (shows c.either.new.values m) (c.either.ensures.keeps.shown m) G c.args.state.now s at in
    stands_guarded (shows c.either.new.values m) G c.args.state.now s c.in_ok-guard.guard (b || s.alive) still (c.in_ok-guard.ensures.value m b s.alive served ho at.guard)

pub returns-clause-charge : goal.returns-clause-charge
returns-clause-charge g c = omega (arith, c.in_ok-guard.ensures.charge)

pub returns-clause-cells : goal.returns-clause-cells
returns-clause-cells g c = refl
