use Rattle.std.proofs.Common.{List, ℤ, subst}
use Rattle.stk_kinded.specs.Kinds.{register_kind, cell_kind}
use Rattle.stk_walking.specs.Stands.{RowShows}
use Rattle.stk_walking.proofs.Carried.{is_made_still, stands_still}
use Rattle.stk_walk_statements.proofs.Declaring.{if_same}
use Rattle.stk_walk_statements.proofs.declarations.forget.Goals as goal

pub returns-clause-made : goal.returns-clause-made
returns-clause-made g c = λ G a.
    let made = g.V.Values.made in
    let still = is_made_still (made c.args.values.now) (made c.remove_cells.new.values) c.in_ok-remove_cells.ensures.keeps.made_still G c.args.state.now a in
    record { guard = still.guard; broken = still.broken; continued = still.continued; registers = still.registers; cells = c.in_ok-remove_cells.ensures.made (cell_kind G) a.cells; steps = still.steps }

pub returns-clause-stands : goal.returns-clause-stands
returns-clause-stands g c = λ G m s served at.
    let shows = g.V.Values.shows in
    let still = stands_still (shows c.args.values.now m) (shows c.remove_cells.new.values m) (c.in_ok-remove_cells.ensures.keeps.shown m) G c.args.state.now s at in
    record {
      guard = still.guard;
      broken = still.broken;
      continued = still.continued;
      numbers = subst (λ (xs : List ℤ). RowShows (shows c.remove_cells.new.values m) (register_kind G) 0 c.args.state.now.registers.items xs) (if_same s.alive s.numbers) still.numbers;
      kept = c.in_ok-remove_cells.ensures.shown m (cell_kind G) s.alive s.kept served at.guard at.kept;
      events = still.events;
    }

pub returns-clause-cost : goal.returns-clause-cost
returns-clause-cost g c = c.in_ok-remove_cells.ensures.cost
