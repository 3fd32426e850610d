use Rattle.std.proofs.Common.{set, Some}
use Rattle.stk_kinded.specs.Kinds.{cell_kind}
use Rattle.stk_walking.proofs.Placed.{made_with_cells, stands_with_cells}
use Rattle.stk_walking.proofs.places.store_in_cell.Goals as goal

pub store_cell-requires-clause-row : goal.store_cell-requires-clause-row
store_cell-requires-clause-row g c = (cell_kind (g.O.RunSetting.setting c.args.out.now), c.requires.suits, c.requires.made.cells)

pub returns-clause-made : goal.returns-clause-made
returns-clause-made g c =
    let G = g.O.RunSetting.setting c.args.out.now in
    let made = g.V.Values.made in
    made_with_cells (made c.args.values.now) (made c.store_cell.new.values) c.in_ok-store_cell.ensures.keeps.made_still G c.args.state.now c.store_cell.new.cells c.requires.made
    (c.in_ok-store_cell.ensures.made (cell_kind G) c.requires.suits c.requires.made.cells)

pub returns-clause-stands : goal.returns-clause-stands
returns-clause-stands g c = λ m s x served hx at.
    let G = g.O.RunSetting.setting c.args.out.now in
    let shows = g.V.Values.shows in
    stands_with_cells (shows c.args.values.now m) (shows c.store_cell.new.values m) (c.in_ok-store_cell.ensures.keeps.shown m) G c.args.state.now c.store_cell.new.cells s (set s.kept c.args.at (Some x)) at
    (c.in_ok-store_cell.ensures.shown m (cell_kind G) s.alive x s.kept served c.requires.suits at.guard hx at.kept)

pub returns-clause-cost : goal.returns-clause-cost
returns-clause-cost g c = c.in_ok-store_cell.ensures.cost
