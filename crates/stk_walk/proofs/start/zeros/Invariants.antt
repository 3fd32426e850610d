use Rattle.std.proofs.Common.{◌≡◌, List, ℤ, length, pos, replicate, ◌≤◌}
use Rattle.stk_values.specs.Keeping.{Keeps}
use Rattle.stk_kinded.specs.Kinds.{register_kind}
use Rattle.stk_walking.specs.Stands.{RowShows, RowMade}
use Rattle.stk_walk.proofs.start.zeros.Given as goal

abbrev pub invariant-loop-node : goal.invariant-loop-node
invariant-loop-node g l =
    let G = g.O.RunSetting.setting l.out in
    Keeps g.V.Values.serves g.V.Values.has_key g.V.Values.made g.V.Values.shows l.fn.values l.values
    × (length l.row.items ≡ l.node)
    × RowMade (g.V.Values.made l.values) (register_kind G) 0 l.row.items
    × ((m : List ℤ) → g.V.Values.serves l.fn.values m → RowShows (g.V.Values.shows l.values m) (register_kind G) 0 l.row.items (replicate l.node (pos 0)))
    × (g.V.Values.cost l.values ≤ g.V.Values.cost l.fn.values)
