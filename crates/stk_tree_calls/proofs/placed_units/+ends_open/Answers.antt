use Rattle.std.proofs.Common.{arith}
use Rattle.std.proofs.lemmas.Grind.{common_steps}
use Rattle.stk_tree_calls.proofs.placed_units.+ends_open.Goals as goal
use Rattle.stk_tree.specs.declared.statement.Part.TheFolds.{the_lemmas}

-- The check would prove these goals by itself, but only after searches that fail. With the equations of the folds
-- `grind` is quick.
pub ends_open-form_ends_open-requires : goal.ends_open-form_ends_open-requires
ends_open-form_ends_open-requires t c = grind (the_lemmas, arith, common_steps)

pub ends_open-returns : goal.ends_open-returns
ends_open-returns t c = grind (the_lemmas, arith, common_steps)

pub form_ends_open-ends_open-requires : goal.form_ends_open-ends_open-requires
form_ends_open-ends_open-requires t c = grind (the_lemmas, arith, common_steps)

pub form_ends_open-ends_open-requires-in-While : goal.form_ends_open-ends_open-requires-in-While
form_ends_open-ends_open-requires-in-While t c = grind (the_lemmas, arith, common_steps)

pub form_ends_open-returns-in-If-default-default-None : goal.form_ends_open-returns-in-If-default-default-None
form_ends_open-returns-in-If-default-default-None t c = grind (the_lemmas, arith, common_steps)

pub form_ends_open-returns-in-If-default-default-Some : goal.form_ends_open-returns-in-If-default-default-Some
form_ends_open-returns-in-If-default-default-Some t c = grind (the_lemmas, arith, common_steps)

pub form_ends_open-returns-in-Block : goal.form_ends_open-returns-in-Block
form_ends_open-returns-in-Block t c = grind (the_lemmas, arith, common_steps)

pub form_ends_open-returns-in-Block-2 : goal.form_ends_open-returns-in-Block-2
form_ends_open-returns-in-Block-2 t c = grind (the_lemmas, arith, common_steps)

pub form_ends_open-returns-in-Block-3 : goal.form_ends_open-returns-in-Block-3
form_ends_open-returns-in-Block-3 t c = grind (the_lemmas, arith, common_steps)

pub form_ends_open-returns-in-Block-4 : goal.form_ends_open-returns-in-Block-4
form_ends_open-returns-in-Block-4 t c = grind (the_lemmas, arith, common_steps)

pub form_ends_open-returns-in-Block-5 : goal.form_ends_open-returns-in-Block-5
form_ends_open-returns-in-Block-5 t c = grind (the_lemmas, arith, common_steps)

pub form_ends_open-returns-in-Block-6 : goal.form_ends_open-returns-in-Block-6
form_ends_open-returns-in-Block-6 t c = grind (the_lemmas, arith, common_steps)

pub form_ends_open-returns-in-Block-7 : goal.form_ends_open-returns-in-Block-7
form_ends_open-returns-in-Block-7 t c = grind (the_lemmas, arith, common_steps)

pub form_ends_open-returns-in-While : goal.form_ends_open-returns-in-While
form_ends_open-returns-in-While t c = grind (the_lemmas, arith, common_steps)
