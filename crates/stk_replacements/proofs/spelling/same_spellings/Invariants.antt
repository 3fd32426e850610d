use Rattle.std.proofs.Common.{◌≡◌, length}
use Rattle.stk_replacements.proofs.Alike.{rows}
use Rattle.stk_replacements.proofs.spelling.same_spellings.Given as goal

abbrev pub invariant-loop-token : goal.invariant-loop-token
invariant-loop-token l = rows l.bytes l.left l.right ≡ rows l.bytes l.initial.left l.initial.right

abbrev pub decreases-loop-token : goal.decreases-loop-token
decreases-loop-token l = length l.left
