use Rattle.std.proofs.Common.{◌≡◌, ℕ, ◌&&◌, Bool, List, ℤ, length, ◌*◌}
use Rattle.stk_ctype.specs.declared.kind.IntKind.TheVariants.{Int, ULong}
use Rattle.stk_meaning.specs.Operations.{bit}
use Rattle.stk_values.specs.Keeping.{Keeps}
use Rattle.stk_walk.specs.Validity.{all_apart, pairs_in}
use Rattle.stk_walk.specs.Located.{wrapped_end, AreLocated, AreLocatedMade, objects_of}
use Rattle.stk_walking.proofs.Costing.{ChargedSoFar}
use Rattle.stk_walk.proofs.validity.all_apart.Given as goal

abbrev pub invariant-loop-x : goal.invariant-loop-x
invariant-loop-x g l =
    Keeps g.V.Values.serves g.V.Values.has_key g.V.Values.made g.V.Values.shows l.fn.values l.values
    × g.V.Values.made l.values Int l.found
    × AreLocatedMade (g.V.Values.made l.values ULong) l.rest
    × ((m : List ℤ) (a : ℕ → ℕ) (b : Bool) → g.V.Values.serves l.fn.values m → AreLocated (g.V.Values.shows l.fn.values m ULong) a l.fn.list → g.V.Values.shows l.fn.values m Int l.fn.start (bit b)
    → (c : Bool) × g.V.Values.shows l.values m Int l.found (bit c) × AreLocated (g.V.Values.shows l.values m ULong) a l.rest × (c && all_apart a (wrapped_end a) (objects_of l.rest) ≡ b && all_apart a (wrapped_end a) (objects_of l.fn.list)))
    × ChargedSoFar (g.V.Values.cost l.fn.values) (g.V.Values.cost l.values) (1286 * pairs_in (objects_of l.fn.list)) (1286 * pairs_in (objects_of l.rest))

abbrev pub decreases-loop-x : goal.decreases-loop-x
decreases-loop-x g l = length l.rest
