-- What the code's places by name are among those of runs.
use Rattle.stk_meaning.specs.Places as places
use Rattle.stk_operators.specs.declared.targets.Target.{Target}
use Rattle.stk_operators.specs.declared.targets.Target.TheVariants as target

-- a place by name
abbrev pub target_shown : Target → places.Target
target_shown (target.Register k) = places.in_register k
target_shown (target.Kept q) = places.in_kept q
target_shown (target.Object k) = places.in_object k
target_shown target.Unnamed = places.unnamed
