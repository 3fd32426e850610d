use Rattle.std.proofs.Common.{◌≡◌, drop}
use Rattle.stk_typing.specs.Arrays.{has_open}
use Rattle.stk_typing.proofs.arrays.has_open.Given as goal

abbrev pub invariant-loop-size : goal.invariant-loop-size
invariant-loop-size l = has_open (drop l.size-index l.sizes) ≡ has_open l.sizes
