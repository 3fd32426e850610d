use Rattle.std.proofs.Common.{◌≡◌, List, ℤ, length, None, replicate, ◌≤◌}
use Rattle.stk_values.specs.Keeping.{Keeps}
use Rattle.stk_kinded.specs.Kinds.{cell_kind}
use Rattle.stk_walking.specs.Stands.{CellsShow, CellsMade}
use Rattle.stk_walk.proofs.start.empty_cells.Given as goal

abbrev pub invariant-loop-place : goal.invariant-loop-place
invariant-loop-place g l =
    let G = g.O.RunSetting.setting l.out in
    Keeps g.V.Values.serves g.V.Values.has_key g.V.Values.made g.V.Values.shows l.fn.values l.values
    × (length l.row.items ≡ l.place)
    × CellsMade (g.V.Values.made l.values) (cell_kind G) 0 l.row.items
    × ((m : List ℤ) → g.V.Values.serves l.fn.values m → CellsShow (g.V.Values.shows l.values m) (cell_kind G) 0 l.row.items (replicate l.place None))
    × (g.V.Values.cost l.values ≤ g.V.Values.cost l.fn.values)
