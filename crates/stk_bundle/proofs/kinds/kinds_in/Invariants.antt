use Rattle.std.proofs.Common.{length}
use Rattle.stk_bundle.proofs.KindTexts.{NamesFollow}
use Rattle.stk_bundle.proofs.kinds.kinds_in.Given as goal

abbrev pub invariant-names : goal.invariant-names
invariant-names l = NamesFollow l.fn.text l.left l.kinds.items

abbrev pub decreases-names : goal.decreases-names
decreases-names l = length l.left
