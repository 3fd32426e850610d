use Rattle.std.proofs.Common.{arith}
use Rattle.std.proofs.lemmas.Grind.{common_steps}
use Rattle.stk_tree.specs.declared.statement.Part.TheFolds.{the_lemmas}
use Rattle.stk_function_env.proofs.changes.turn_changes.Goals as goal

-- Goals that the check would prove by itself, but only after searches that fail. With the equations of the folds
-- `grind` is quick.
pub returns-in_err-expression_changes-in-While : goal.returns-in_err-expression_changes-in-While
returns-in_err-expression_changes-in-While c = grind (the_lemmas, arith, common_steps)

pub returns-in_err-statement_changes-in-While : goal.returns-in_err-statement_changes-in-While
returns-in_err-statement_changes-in-While c = grind (the_lemmas, arith, common_steps)

pub returns-in_ok-statement_changes-in-While : goal.returns-in_ok-statement_changes-in-While
returns-in_ok-statement_changes-in-While c = grind (the_lemmas, arith, common_steps)

pub returns-in_err-statement_changes-in-Do : goal.returns-in_err-statement_changes-in-Do
returns-in_err-statement_changes-in-Do c = grind (the_lemmas, arith, common_steps)

pub returns-in_err-expression_changes-in-Do : goal.returns-in_err-expression_changes-in-Do
returns-in_err-expression_changes-in-Do c = grind (the_lemmas, arith, common_steps)

pub returns-in_ok-expression_changes-in-Do : goal.returns-in_ok-expression_changes-in-Do
returns-in_ok-expression_changes-in-Do c = grind (the_lemmas, arith, common_steps)

pub returns-in_err-maybe_changes-in-For : goal.returns-in_err-maybe_changes-in-For
returns-in_err-maybe_changes-in-For c = grind (the_lemmas, arith, common_steps)

pub returns-in_err-maybe_changes-in-For-2 : goal.returns-in_err-maybe_changes-in-For-2
returns-in_err-maybe_changes-in-For-2 c = grind (the_lemmas, arith, common_steps)

pub returns-in_err-statement_changes-in-For : goal.returns-in_err-statement_changes-in-For
returns-in_err-statement_changes-in-For c = grind (the_lemmas, arith, common_steps)

pub returns-in_ok-statement_changes-in-For : goal.returns-in_ok-statement_changes-in-For
returns-in_ok-statement_changes-in-For c = grind (the_lemmas, arith, common_steps)

pub returns-in-Block : goal.returns-in-Block
returns-in-Block c = grind (the_lemmas, arith, common_steps)
