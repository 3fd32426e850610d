use Rattle.stk_meaning.specs.Paths.{all_forgotten}
use Rattle.stk_kinded.specs.Kinds.{cell_kind}
use Rattle.stk_walking.proofs.Placed.{made_with_cells, stands_with_cells}
use Rattle.stk_walking.proofs.places.forget.Goals as goal

pub remove_cells-requires-clause-row : goal.remove_cells-requires-clause-row
remove_cells-requires-clause-row g c = (cell_kind (g.O.RunSetting.setting c.args.out.now), c.requires.made.cells)

pub returns-clause-made : goal.returns-clause-made
returns-clause-made g c =
    let G = g.O.RunSetting.setting c.args.out.now in
    let made = g.V.Values.made in
    made_with_cells (made c.args.values.now) (made c.remove_cells.new.values) c.in_ok-remove_cells.ensures.keeps.made_still G c.args.state.now c.remove_cells.new.cells c.requires.made
    (c.in_ok-remove_cells.ensures.made (cell_kind G) c.requires.made.cells)

pub returns-clause-stands : goal.returns-clause-stands
returns-clause-stands g c = λ m s served at.
    let G = g.O.RunSetting.setting c.args.out.now in
    let shows = g.V.Values.shows in
    stands_with_cells (shows c.args.values.now m) (shows c.remove_cells.new.values m) (c.in_ok-remove_cells.ensures.keeps.shown m) G c.args.state.now c.remove_cells.new.cells s (all_forgotten s.kept) at
    (c.in_ok-remove_cells.ensures.shown m (cell_kind G) s.alive s.kept served at.guard at.kept)

pub returns-clause-cost : goal.returns-clause-cost
returns-clause-cost g c = c.in_ok-remove_cells.ensures.cost
