use Rattle.std.proofs.Common.{◌≡◌, List, ℤ, length, ◌≤◌}
use Rattle.stk_values.specs.Keeping.{Keeps}
use Rattle.stk_kinded.specs.Kinds.{register_kind}
use Rattle.stk_meaning.specs.Keys.{parameter_key}
use Rattle.stk_meaning.specs.Paths.{with_parameters}
use Rattle.stk_walking.specs.Stands.{RowShows, RowMade}
use Rattle.stk_walk.proofs.start.set_parameters.Given as goal

abbrev pub invariant-loop-node : goal.invariant-loop-node
invariant-loop-node g l =
    let G = g.O.RunSetting.setting l.out in
    Keeps g.V.Values.serves g.V.Values.has_key g.V.Values.made g.V.Values.shows l.fn.values l.values
    × RowMade (g.V.Values.made l.values) (register_kind G) 0 l.row.items
    × ((m : List ℤ) (xs : List ℤ) → g.V.Values.serves l.fn.values m → RowShows (g.V.Values.shows l.fn.values m) (register_kind G) 0 l.fn.row.items xs
    → (ys : List ℤ) × RowShows (g.V.Values.shows l.values m) (register_kind G) 0 l.row.items ys × (with_parameters l.rest (λ k. g.O.WalkSetting.under l.out m (parameter_key k)) ys ≡ with_parameters l.fn.parameters (λ k. g.O.WalkSetting.under l.out m (parameter_key k)) xs))
    × (g.V.Values.cost l.values ≤ g.V.Values.cost l.fn.values)

abbrev pub decreases-loop-node : goal.decreases-loop-node
decreases-loop-node g l = length l.rest
