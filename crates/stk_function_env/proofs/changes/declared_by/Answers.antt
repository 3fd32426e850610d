use Rattle.std.proofs.Common.{arith}
use Rattle.std.proofs.lemmas.Grind.{common_steps}
use Rattle.stk_tree.specs.declared.declaration.BaseForm.TheFolds.{the_lemmas}
use Rattle.stk_function_env.proofs.changes.declared_by.Goals as goal

-- Goals that the check would prove by itself, but only after searches that fail. With the equations of the folds
-- `grind` is quick.
pub loop-d-init : goal.loop-d-init
loop-d-init c = grind (the_lemmas, arith, common_steps)

pub offset_bounds-list-d-index : goal.offset_bounds-list-d-index
offset_bounds-list-d-index c = grind (the_lemmas, arith, common_steps)

pub returns-in_err-push : goal.returns-in_err-push
returns-in_err-push c = grind (the_lemmas, arith, common_steps)

pub loop-d-smaller : goal.loop-d-smaller
loop-d-smaller c = grind (the_lemmas, arith, common_steps)

pub loop-d-preserved : goal.loop-d-preserved
loop-d-preserved c = grind (the_lemmas, arith, common_steps)

pub returns : goal.returns
returns c = grind (the_lemmas, arith, common_steps)
