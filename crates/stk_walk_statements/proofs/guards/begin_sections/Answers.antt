use Rattle.stk_walking.proofs.Carried.{is_made_still, stands_still}
use Rattle.std.proofs.Common.{refl, arith}
use Rattle.stk_walk_statements.proofs.guards.begin_sections.Goals as goal

pub returns-clause-made : goal.returns-clause-made
returns-clause-made g c = λ G a.
    let made = g.V.Values.made in
    let still = is_made_still (made c.args.values.now) (made c.zero.new.values) c.in_ok-none.ensures.keeps.made_still G c.args.state.now a in
    record { guard = c.in_ok-none.ensures.makes; broken = c.in_ok-none.ensures.makes; continued = still.continued; registers = still.registers; cells = still.cells; steps = still.steps }

pub returns-clause-stands : goal.returns-clause-stands
returns-clause-stands g c = λ G m s served at.
    let shows = g.V.Values.shows in
    let still = stands_still (shows c.args.values.now m) (shows c.zero.new.values m) (c.in_ok-none.ensures.keeps.shown m) G c.args.state.now s at in
    let none = c.in_ok-none.ensures.value m served in
    record { guard = none; broken = none; continued = still.continued; numbers = still.numbers; kept = still.kept; events = still.events }

pub returns-clause-charge : goal.returns-clause-charge
returns-clause-charge g c = omega (arith, c.in_ok-none.ensures.charge)

pub returns-clause-cells : goal.returns-clause-cells
returns-clause-cells g c = refl
