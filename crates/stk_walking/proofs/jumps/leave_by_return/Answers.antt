use Rattle.std.proofs.Common.{false, refl}
use Rattle.stk_guarded.specs.Standing.{live}
use Rattle.stk_guarded.proofs.Statements.{return_flows}
use Rattle.stk_walking.proofs.Carried.{is_made_still, stands_still}
use Rattle.stk_walking.proofs.jumps.leave_by_return.Goals as goal

pub returns-clause-made : goal.returns-clause-made
returns-clause-made g c = λ G a.
    let made = g.V.Values.made in
    let keep = c.in_ok-none.ensures.keeps.made_still in
    let still = is_made_still (made c.args.values.now) (made c.zero.new.values) keep G c.args.state.now a in
    record { guard = c.in_ok-none.ensures.makes; broken = still.broken; continued = still.continued; registers = still.registers; cells = still.cells; steps = still.steps }

pub returns-clause-follows : goal.returns-clause-follows
returns-clause-follows g c = λ G m s served at.
    let shows = g.V.Values.shows in
    let k1 = c.in_ok-none.ensures.keeps in
    let still = stands_still (shows c.args.values.now m) (shows c.zero.new.values m) (k1.shown m) G c.args.state.now s at in
    record {
      standing = live false s;
      stands = record { guard = c.in_ok-none.ensures.value m served; broken = still.broken; continued = still.continued; numbers = still.numbers; kept = still.kept; events = still.events };
      flows = return_flows s;
    }

pub returns-clause-charge : goal.returns-clause-charge
returns-clause-charge g c = c.in_ok-none.ensures.charge

pub returns-clause-cells : goal.returns-clause-cells
returns-clause-cells g c = refl
