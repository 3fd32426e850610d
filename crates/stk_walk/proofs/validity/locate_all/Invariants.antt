use Rattle.std.proofs.Common.{◌≡◌, List, ℤ, take, ◌≤◌, ◌+◌, ◌*◌}
use Rattle.stk_ctype.specs.declared.kind.IntKind.TheVariants.{Int, ULong}
use Rattle.stk_meaning.specs.Operations.{bit}
use Rattle.stk_values.specs.Keeping.{Keeps}
use Rattle.stk_meaning.specs.Maps.{addresses_in}
use Rattle.stk_walk.specs.Validity.{all_lie}
use Rattle.stk_walk.specs.Located.{AreLocated, AreLocatedMade, objects_of}
use Rattle.stk_walk.proofs.validity.locate_all.Given as goal

abbrev pub invariant-loop-object : goal.invariant-loop-object
invariant-loop-object g l =
    Keeps g.V.Values.serves g.V.Values.has_key g.V.Values.made g.V.Values.shows l.fn.values l.values
    × (objects_of l.list.items ≡ take l.object-index l.objects)
    × g.V.Values.made l.values Int l.lie
    × AreLocatedMade (g.V.Values.made l.values ULong) l.list.items
    × ((m : List ℤ) → g.V.Values.serves l.fn.values m → AreLocated (g.V.Values.shows l.values m ULong) (addresses_in (g.O.WalkSetting.under l.out m)) l.list.items × g.V.Values.shows l.values m Int l.lie (bit (all_lie (addresses_in (g.O.WalkSetting.under l.out m)) (objects_of l.list.items))))
    × (g.V.Values.cost l.values ≤ g.V.Values.cost l.fn.values + 1926 * l.object-index)
