use Rattle.std.proofs.Common.{◌≡◌, ℕ, ◌&&◌, Bool, List, ℤ, length, ◌*◌}
use Rattle.stk_ctype.specs.declared.kind.IntKind.TheVariants.{Int, ULong}
use Rattle.stk_meaning.specs.Operations.{bit}
use Rattle.stk_values.specs.Keeping.{Keeps}
use Rattle.stk_walk.specs.Validity.{stands_apart, pairs_with}
use Rattle.stk_walk.specs.Located.{wrapped_end, IsLocated, AreLocated, IsLocatedMade, AreLocatedMade, objects_of}
use Rattle.stk_walking.proofs.Costing.{ChargedSoFar}
use Rattle.stk_walk.proofs.validity.apart_from.Given as goal

abbrev pub invariant-loop-y : goal.invariant-loop-y
invariant-loop-y g l =
    Keeps g.V.Values.serves g.V.Values.has_key g.V.Values.made g.V.Values.shows l.fn.values l.values
    × g.V.Values.made l.values Int l.found
    × IsLocatedMade (g.V.Values.made l.values ULong) l.x
    × AreLocatedMade (g.V.Values.made l.values ULong) l.rest
    × ((m : List ℤ) (a : ℕ → ℕ) (b : Bool) → g.V.Values.serves l.fn.values m → IsLocated (g.V.Values.shows l.fn.values m ULong) a l.x → AreLocated (g.V.Values.shows l.fn.values m ULong) a l.fn.others → g.V.Values.shows l.fn.values m Int l.fn.start (bit b)
    → (c : Bool) × g.V.Values.shows l.values m Int l.found (bit c) × AreLocated (g.V.Values.shows l.values m ULong) a l.rest × (c && stands_apart a (wrapped_end a) l.x.object (objects_of l.rest) ≡ b && stands_apart a (wrapped_end a) l.x.object (objects_of l.fn.others)))
    × ChargedSoFar (g.V.Values.cost l.fn.values) (g.V.Values.cost l.values) (1286 * pairs_with l.x.object (objects_of l.fn.others)) (1286 * pairs_with l.x.object (objects_of l.rest))

abbrev pub decreases-loop-y : goal.decreases-loop-y
decreases-loop-y g l = length l.rest
