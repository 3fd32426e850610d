use Rattle.stk_guarded.specs.Statements.{breaking}
use Rattle.stk_guarded.proofs.Statements.{break_flows}
use Rattle.stk_walking.proofs.Carried.{is_made_still, stands_still}
use Rattle.std.proofs.Common.{refl, arith}
use Rattle.stk_walking.proofs.jumps.leave_by_break.Goals as goal

pub returns-clause-made : goal.returns-clause-made
returns-clause-made g c = λ G a.
    let made = g.V.Values.made in
    let k1 = c.in_ok-broken.ensures.keeps in
    let k2 = c.in_ok-none.ensures.keeps in
    let still = is_made_still (made c.args.values.now) (made c.zero.new.values) (λ k v a. k2.made_still k v (k1.made_still k v a)) G c.args.state.now a in
    record { guard = c.in_ok-none.ensures.makes; broken = k2.made_still _ _ c.in_ok-broken.ensures.makes; continued = still.continued; registers = still.registers; cells = still.cells; steps = still.steps }

pub returns-clause-follows : goal.returns-clause-follows
returns-clause-follows g c = λ G m s served at.
    let shows = g.V.Values.shows in
    let k1 = c.in_ok-broken.ensures.keeps in
    let k2 = c.in_ok-none.ensures.keeps in
    let still = stands_still (shows c.args.values.now m) (shows c.zero.new.values m) (λ k v z a. k2.shown m k v z (k1.shown m k v z a)) G c.args.state.now s at in
    record {
      standing = breaking s;
      stands = record { guard = c.in_ok-none.ensures.value m (k1.served m served); broken = k2.shown m _ _ _ (c.in_ok-broken.ensures.value m s.broken s.alive served at.broken at.guard); continued = still.continued; numbers = still.numbers; kept = still.kept; events = still.events };
      flows = break_flows s;
    }

pub returns-clause-charge : goal.returns-clause-charge
returns-clause-charge g c = omega (arith, c.in_ok-broken.ensures.charge, c.in_ok-none.ensures.charge)

pub returns-clause-cells : goal.returns-clause-cells
returns-clause-cells g c = refl
