use Rattle.stk_bundle.proofs.BlockTexts.{LinesPassed}
use Rattle.stk_bundle.proofs.block.block_of.Given as goal

abbrev pub invariant-loop-left : goal.invariant-loop-left
invariant-loop-left l = LinesPassed l.text l.rest l.lines l.left

abbrev pub decreases-loop-left : goal.decreases-loop-left
decreases-loop-left l = l.left
