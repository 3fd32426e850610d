use Rattle.std.proofs.Common.{arith}
use Rattle.std.proofs.lemmas.Grind.{common_steps}
use Rattle.stk_tree.specs.declared.declaration.BaseForm.TheFolds.{the_lemmas}
use Rattle.stk_walk.proofs.registers.registers_among.Goals as goal

-- Goals that the check would prove by itself, but only after searches that fail. With the equations of the folds
-- `grind` is quick.
pub loop-p-init : goal.loop-p-init
loop-p-init c = grind (the_lemmas, arith, common_steps)

pub offset_bounds-list-p-index : goal.offset_bounds-list-p-index
offset_bounds-list-p-index c = grind (the_lemmas, arith, common_steps)

pub returns-in_err-note_register : goal.returns-in_err-note_register
returns-in_err-note_register c = grind (the_lemmas, arith, common_steps)

pub loop-p-smaller : goal.loop-p-smaller
loop-p-smaller c = grind (the_lemmas, arith, common_steps)

pub loop-p-preserved : goal.loop-p-preserved
loop-p-preserved c = grind (the_lemmas, arith, common_steps)
