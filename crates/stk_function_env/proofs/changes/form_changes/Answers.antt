use Rattle.std.proofs.Common.{arith}
use Rattle.std.proofs.lemmas.Grind.{common_steps}
use Rattle.stk_tree.specs.declared.declaration.BaseForm.TheFolds.{the_lemmas}
use Rattle.stk_function_env.proofs.changes.form_changes.Goals as goal

-- Goals that the check would prove by itself, but only after searches that fail. With the equations of the folds
-- `grind` is quick.
pub returns-in-Call : goal.returns-in-Call
returns-in-Call c = grind (the_lemmas, arith, common_steps)

pub returns-in-Step : goal.returns-in-Step
returns-in-Step c = grind (the_lemmas, arith, common_steps)

pub returns-in-Name : goal.returns-in-Name
returns-in-Name c = grind (the_lemmas, arith, common_steps)

pub returns-in-Name-2 : goal.returns-in-Name-2
returns-in-Name-2 c = grind (the_lemmas, arith, common_steps)

pub returns-in-Name-3 : goal.returns-in-Name-3
returns-in-Name-3 c = grind (the_lemmas, arith, common_steps)

pub returns-in-Name-4 : goal.returns-in-Name-4
returns-in-Name-4 c = grind (the_lemmas, arith, common_steps)

pub returns-in-Name-5 : goal.returns-in-Name-5
returns-in-Name-5 c = grind (the_lemmas, arith, common_steps)

pub returns-in-Name-6 : goal.returns-in-Name-6
returns-in-Name-6 c = grind (the_lemmas, arith, common_steps)

pub returns-in-Name-7 : goal.returns-in-Name-7
returns-in-Name-7 c = grind (the_lemmas, arith, common_steps)

pub returns-in-Name-8 : goal.returns-in-Name-8
returns-in-Name-8 c = grind (the_lemmas, arith, common_steps)

pub returns-in-Name-9 : goal.returns-in-Name-9
returns-in-Name-9 c = grind (the_lemmas, arith, common_steps)

pub returns-in-Name-10 : goal.returns-in-Name-10
returns-in-Name-10 c = grind (the_lemmas, arith, common_steps)

pub returns-in-Name-11 : goal.returns-in-Name-11
returns-in-Name-11 c = grind (the_lemmas, arith, common_steps)

pub returns-in-Name-12 : goal.returns-in-Name-12
returns-in-Name-12 c = grind (the_lemmas, arith, common_steps)

pub returns-in-Name-13 : goal.returns-in-Name-13
returns-in-Name-13 c = grind (the_lemmas, arith, common_steps)

pub returns-in-Name-14 : goal.returns-in-Name-14
returns-in-Name-14 c = grind (the_lemmas, arith, common_steps)
