use Rattle.std.proofs.Common.{arith}
use Rattle.std.proofs.lemmas.Grind.{common_steps}
use Rattle.stk_tree.specs.declared.statement.Part.TheFolds.{the_lemmas}
use Rattle.stk_function_env.proofs.changes.parts_declare.Goals as goal

-- Goals that the check would prove by itself, but only after searches that fail. With the equations of the folds
-- `grind` is quick.
pub loop-p-init : goal.loop-p-init
loop-p-init c = grind (the_lemmas, arith, common_steps)

pub offset_bounds-list-p-index : goal.offset_bounds-list-p-index
offset_bounds-list-p-index c = grind (the_lemmas, arith, common_steps)

pub returns-in_err-part_declares : goal.returns-in_err-part_declares
returns-in_err-part_declares c = grind (the_lemmas, arith, common_steps)

pub loop-p-smaller : goal.loop-p-smaller
loop-p-smaller c = grind (the_lemmas, arith, common_steps)

pub loop-p-preserved : goal.loop-p-preserved
loop-p-preserved c = grind (the_lemmas, arith, common_steps)

pub returns : goal.returns
returns c = grind (the_lemmas, arith, common_steps)
