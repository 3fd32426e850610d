use Rattle.std.proofs.Common.{length}
use Rattle.stk_typing.proofs.arrays.+nested.Given as goal

abbrev pub decreases-nested : goal.decreases-nested
decreases-nested l = length l.sizes.now
