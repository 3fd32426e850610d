use Rattle.std.proofs.Common.{◌≡◌}
use Rattle.stk_ctype.specs.Types.{type_of}
use Rattle.stk_ctype.specs.Structs.{Structs}
use Rattle.stk_ctype.specs.Sound.{IsSound}
use Rattle.stk_typing.specs.Arrays.{starred}
use Rattle.stk_typing.proofs.arrays.starred.Given as goal

abbrev pub invariant-loop : goal.invariant-loop
invariant-loop l = (type_of l.all ≡ starred l.counter (type_of l.fn.ty)) × ((structs : Structs) → IsSound structs (type_of l.fn.ty) → IsSound structs (type_of l.all))
