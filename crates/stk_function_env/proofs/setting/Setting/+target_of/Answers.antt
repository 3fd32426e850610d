use Rattle.std.proofs.Common.{arith}
use Rattle.std.proofs.lemmas.Grind.{common_steps}
use Rattle.stk_tree.specs.declared.declaration.BaseForm.TheFolds.{the_lemmas}
use Rattle.stk_function_env.proofs.setting.Setting.+target_of.Goals as goal

-- Goals that the check would prove by itself, but only after searches that fail. With the equations of the folds
-- `grind` is quick.
pub form_target-target_of-requires : goal.form_target-target_of-requires
form_target-target_of-requires t c = grind (the_lemmas, arith, common_steps)

pub form_target-target_of-requires-in-Dot : goal.form_target-target_of-requires-in-Dot
form_target-target_of-requires-in-Dot t c = grind (the_lemmas, arith, common_steps)

pub form_target-returns-in-Name : goal.form_target-returns-in-Name
form_target-returns-in-Name t c = grind (the_lemmas, arith, common_steps)

pub form_target-returns-in-Paren : goal.form_target-returns-in-Paren
form_target-returns-in-Paren t c = grind (the_lemmas, arith, common_steps)

pub form_target-returns-in-Dot : goal.form_target-returns-in-Dot
form_target-returns-in-Dot t c = grind (the_lemmas, arith, common_steps)

pub form_target-returns-in-Number : goal.form_target-returns-in-Number
form_target-returns-in-Number t c = grind (the_lemmas, arith, common_steps)

pub form_target-returns-in-Number-2 : goal.form_target-returns-in-Number-2
form_target-returns-in-Number-2 t c = grind (the_lemmas, arith, common_steps)

pub form_target-returns-in-Number-3 : goal.form_target-returns-in-Number-3
form_target-returns-in-Number-3 t c = grind (the_lemmas, arith, common_steps)

pub form_target-returns-in-Number-4 : goal.form_target-returns-in-Number-4
form_target-returns-in-Number-4 t c = grind (the_lemmas, arith, common_steps)

pub form_target-returns-in-Number-5 : goal.form_target-returns-in-Number-5
form_target-returns-in-Number-5 t c = grind (the_lemmas, arith, common_steps)

pub form_target-returns-in-Number-6 : goal.form_target-returns-in-Number-6
form_target-returns-in-Number-6 t c = grind (the_lemmas, arith, common_steps)

pub form_target-returns-in-Number-7 : goal.form_target-returns-in-Number-7
form_target-returns-in-Number-7 t c = grind (the_lemmas, arith, common_steps)

pub form_target-returns-in-Number-8 : goal.form_target-returns-in-Number-8
form_target-returns-in-Number-8 t c = grind (the_lemmas, arith, common_steps)

pub form_target-returns-in-Number-9 : goal.form_target-returns-in-Number-9
form_target-returns-in-Number-9 t c = grind (the_lemmas, arith, common_steps)

pub form_target-returns-in-Number-10 : goal.form_target-returns-in-Number-10
form_target-returns-in-Number-10 t c = grind (the_lemmas, arith, common_steps)

pub form_target-returns-in-Number-11 : goal.form_target-returns-in-Number-11
form_target-returns-in-Number-11 t c = grind (the_lemmas, arith, common_steps)

pub form_target-returns-in-Number-12 : goal.form_target-returns-in-Number-12
form_target-returns-in-Number-12 t c = grind (the_lemmas, arith, common_steps)

pub form_target-returns-in-Number-13 : goal.form_target-returns-in-Number-13
form_target-returns-in-Number-13 t c = grind (the_lemmas, arith, common_steps)

pub form_target-returns-in-Number-14 : goal.form_target-returns-in-Number-14
form_target-returns-in-Number-14 t c = grind (the_lemmas, arith, common_steps)

pub target_of-form_target-requires : goal.target_of-form_target-requires
target_of-form_target-requires t c = grind (the_lemmas, arith, common_steps)

pub target_of-returns : goal.target_of-returns
target_of-returns t c = grind (the_lemmas, arith, common_steps)
