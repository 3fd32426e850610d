use Rattle.std.proofs.Common.{get_or, set, Some, None}
use Rattle.stk_meaning.specs.Keys.{load_key}
use Rattle.stk_kinded.specs.Kinds.{cell_kind}
use Rattle.stk_guarded.specs.Standing.{moved_to}
use Rattle.stk_guarded.specs.Cells.{read_of}
use Rattle.stk_guarded.proofs.Cells.{read_goes}
use Rattle.stk_walking.proofs.Carried.{is_made_still, stands_still, cells_made}
use Rattle.stk_walking.proofs.Placed.{made_with_cells, stands_with_cells}
use Rattle.stk_walking.proofs.Costing.{costs_after}
use Rattle.stk_walking.proofs.places.read_named_cell.Goals as goal

pub read_cell-requires-clause-guard : goal.read_cell-requires-clause-guard
read_cell-requires-clause-guard g c = c.in_ok-loaded.ensures.keeps.made_still _ _ c.requires.made.guard

pub read_cell-requires-clause-row : goal.read_cell-requires-clause-row
read_cell-requires-clause-row g c =
    let G = g.O.RunSetting.setting c.args.out.now in
    let made = g.V.Values.made in
    (cell_kind G, c.requires.suits, cells_made (made c.args.values.now) (made c.input_value.new.values) c.in_ok-loaded.ensures.keeps.made_still (cell_kind G) 0 c.args.state.now.cells.items c.requires.made.cells)

pub returns-clause-made : goal.returns-clause-made
returns-clause-made g c =
    let G = g.O.RunSetting.setting c.args.out.now in
    let made = g.V.Values.made in
    let k1 = c.in_ok-loaded.ensures.keeps in
    let k2 = c.in_ok-found.ensures.keeps in
    let mid = is_made_still (made c.args.values.now) (made c.input_value.new.values) k1.made_still G c.args.state.now c.requires.made in
    made_with_cells (made c.input_value.new.values) (made c.read_cell.new.values) k2.made_still G c.args.state.now c.read_cell.new.cells mid
    (c.in_ok-found.ensures.made (cell_kind G) c.requires.suits mid.cells)

pub returns-clause-follows : goal.returns-clause-follows
returns-clause-follows g c = λ a m s served at.
    let G = g.O.RunSetting.setting c.args.out.now in
    let shows = g.V.Values.shows in
    let k1 = c.in_ok-loaded.ensures.keeps in
    let k2 = c.in_ok-found.ensures.keeps in
    let y = g.O.WalkSetting.under c.args.out.now m (load_key c.args.node) in
    let x = read_of y (get_or s.kept c.args.at None) in
    let mid = stands_still (shows c.args.values.now m) (shows c.input_value.new.values m) (k1.shown m) G c.args.state.now s at in
    let loaded = c.in_ok-loaded.ensures.value m served in
    record {
      number = x;
      standing = moved_to s.numbers (set s.kept c.args.at (Some x)) s;
      value = c.in_ok-found.ensures.value m (cell_kind G) y s.kept (k1.served m served) c.requires.suits loaded mid.kept;
      stands = stands_with_cells (shows c.input_value.new.values m) (shows c.read_cell.new.values m) (k2.shown m) G c.args.state.now c.read_cell.new.cells s (set s.kept c.args.at (Some x)) mid
          (c.in_ok-found.ensures.shown m (cell_kind G) s.alive y s.kept (k1.served m served) c.requires.suits mid.guard loaded mid.kept);
      goes = read_goes c.args.at y s;
    }

pub returns-clause-cost : goal.returns-clause-cost
returns-clause-cost g c = λ kept. costs_after c.in_ok-loaded.ensures.charge (c.in_ok-found.ensures.cost kept)
