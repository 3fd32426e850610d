use Rattle.std.proofs.Common.{arith}
use Rattle.std.proofs.lemmas.Grind.{common_steps}
use Rattle.stk_tree_calls.proofs.put_units.+put_statement.Goals as goal
use Rattle.stk_tree.specs.declared.statement.Part.TheFolds.{the_lemmas}

-- The check would prove these goals by itself, but only after searches that fail. With the equations of the folds
-- `grind` is quick.
pub put_block-returns-in_err-put_punctuator : goal.put_block-returns-in_err-put_punctuator
put_block-returns-in_err-put_punctuator t c = grind (the_lemmas, arith, common_steps)

pub put_block-put_parts-requires : goal.put_block-put_parts-requires
put_block-put_parts-requires t c = grind (the_lemmas, arith, common_steps)

pub put_block-returns-in_err-put_parts : goal.put_block-returns-in_err-put_parts
put_block-returns-in_err-put_parts t c = grind (the_lemmas, arith, common_steps)

pub put_block-returns : goal.put_block-returns
put_block-returns t c = grind (the_lemmas, arith, common_steps)

pub put_do-returns-in_err-put_punctuator : goal.put_do-returns-in_err-put_punctuator
put_do-returns-in_err-put_punctuator t c = grind (the_lemmas, arith, common_steps)

pub put_do-put_statement-requires : goal.put_do-put_statement-requires
put_do-put_statement-requires t c = grind (the_lemmas, arith, common_steps)

pub put_do-returns-in_err-put_statement : goal.put_do-returns-in_err-put_statement
put_do-returns-in_err-put_statement t c = grind (the_lemmas, arith, common_steps)

pub put_do-returns-in_err-put_test : goal.put_do-returns-in_err-put_test
put_do-returns-in_err-put_test t c = grind (the_lemmas, arith, common_steps)

pub put_do-returns : goal.put_do-returns
put_do-returns t c = grind (the_lemmas, arith, common_steps)

pub put_else-returns-in_err-put_punctuator : goal.put_else-returns-in_err-put_punctuator
put_else-returns-in_err-put_punctuator t c = grind (the_lemmas, arith, common_steps)

pub put_else-put_statement-requires : goal.put_else-put_statement-requires
put_else-put_statement-requires t c = grind (the_lemmas, arith, common_steps)

pub put_else-returns : goal.put_else-returns
put_else-returns t c = grind (the_lemmas, arith, common_steps)

pub put_part-put_statement-requires : goal.put_part-put_statement-requires
put_part-put_statement-requires t c = grind (the_lemmas, arith, common_steps)

pub put_part-returns-in-Local : goal.put_part-returns-in-Local
put_part-returns-in-Local t c = grind (the_lemmas, arith, common_steps)

pub put_part-returns-in-Run : goal.put_part-returns-in-Run
put_part-returns-in-Run t c = grind (the_lemmas, arith, common_steps)

pub put_parts-loop-x-init : goal.put_parts-loop-x-init
put_parts-loop-x-init t c = grind (the_lemmas, arith, common_steps)

pub put_parts-offset_bounds-list-x-index : goal.put_parts-offset_bounds-list-x-index
put_parts-offset_bounds-list-x-index t c = grind (the_lemmas, arith, common_steps)

pub put_parts-put_part-requires : goal.put_parts-put_part-requires
put_parts-put_part-requires t c = grind (the_lemmas, arith, common_steps)

pub put_parts-returns-in_err-put_part : goal.put_parts-returns-in_err-put_part
put_parts-returns-in_err-put_part t c = grind (the_lemmas, arith, common_steps)

pub put_parts-loop-x-smaller : goal.put_parts-loop-x-smaller
put_parts-loop-x-smaller t c = grind (the_lemmas, arith, common_steps)

pub put_parts-loop-x-preserved : goal.put_parts-loop-x-preserved
put_parts-loop-x-preserved t c = grind (the_lemmas, arith, common_steps)

pub put_parts-returns : goal.put_parts-returns
put_parts-returns t c = grind (the_lemmas, arith, common_steps)

pub put_section-returns-in_err-put_labels : goal.put_section-returns-in_err-put_labels
put_section-returns-in_err-put_labels t c = grind (the_lemmas, arith, common_steps)

pub put_section-put_statements-requires : goal.put_section-put_statements-requires
put_section-put_statements-requires t c = grind (the_lemmas, arith, common_steps)

pub put_section-returns : goal.put_section-returns
put_section-returns t c = grind (the_lemmas, arith, common_steps)

pub put_sections-loop-x-init : goal.put_sections-loop-x-init
put_sections-loop-x-init t c = grind (the_lemmas, arith, common_steps)

pub put_sections-offset_bounds-list-x-index : goal.put_sections-offset_bounds-list-x-index
put_sections-offset_bounds-list-x-index t c = grind (the_lemmas, arith, common_steps)

pub put_sections-put_section-requires : goal.put_sections-put_section-requires
put_sections-put_section-requires t c = grind (the_lemmas, arith, common_steps)

pub put_sections-returns-in_err-put_section : goal.put_sections-returns-in_err-put_section
put_sections-returns-in_err-put_section t c = grind (the_lemmas, arith, common_steps)

pub put_sections-loop-x-smaller : goal.put_sections-loop-x-smaller
put_sections-loop-x-smaller t c = grind (the_lemmas, arith, common_steps)

pub put_sections-loop-x-preserved : goal.put_sections-loop-x-preserved
put_sections-loop-x-preserved t c = grind (the_lemmas, arith, common_steps)

pub put_sections-returns : goal.put_sections-returns
put_sections-returns t c = grind (the_lemmas, arith, common_steps)

pub put_statement-put_statement_form-requires : goal.put_statement-put_statement_form-requires
put_statement-put_statement_form-requires t c = grind (the_lemmas, arith, common_steps)

pub put_statement-returns : goal.put_statement-returns
put_statement-returns t c = grind (the_lemmas, arith, common_steps)

pub put_statement_form-put_block-requires : goal.put_statement_form-put_block-requires
put_statement_form-put_block-requires t c = grind (the_lemmas, arith, common_steps)

pub put_statement_form-returns-in_err-put_test-in-If-default-default-None : goal.put_statement_form-returns-in_err-put_test-in-If-default-default-None
put_statement_form-returns-in_err-put_test-in-If-default-default-None t c = grind (the_lemmas, arith, common_steps)

pub put_statement_form-put_statement-requires : goal.put_statement_form-put_statement-requires
put_statement_form-put_statement-requires t c = grind (the_lemmas, arith, common_steps)

pub put_statement_form-returns-in_err-put_test-in-If-default-default-Some : goal.put_statement_form-returns-in_err-put_test-in-If-default-default-Some
put_statement_form-returns-in_err-put_test-in-If-default-default-Some t c = grind (the_lemmas, arith, common_steps)

pub put_statement_form-put_statement-requires-in-If-default-default-Some : goal.put_statement_form-put_statement-requires-in-If-default-default-Some
put_statement_form-put_statement-requires-in-If-default-default-Some t c = grind (the_lemmas, arith, common_steps)

pub put_statement_form-returns-in_err-put_statement-in-If-default-default-Some : goal.put_statement_form-returns-in_err-put_statement-in-If-default-default-Some
put_statement_form-returns-in_err-put_statement-in-If-default-default-Some t c = grind (the_lemmas, arith, common_steps)

pub put_statement_form-put_else-requires : goal.put_statement_form-put_else-requires
put_statement_form-put_else-requires t c = grind (the_lemmas, arith, common_steps)

pub put_statement_form-returns-in_err-put_test-in-Switch : goal.put_statement_form-returns-in_err-put_test-in-Switch
put_statement_form-returns-in_err-put_test-in-Switch t c = grind (the_lemmas, arith, common_steps)

pub put_statement_form-put_switch_body-requires : goal.put_statement_form-put_switch_body-requires
put_statement_form-put_switch_body-requires t c = grind (the_lemmas, arith, common_steps)

pub put_statement_form-returns-in_err-put_test-in-While : goal.put_statement_form-returns-in_err-put_test-in-While
put_statement_form-returns-in_err-put_test-in-While t c = grind (the_lemmas, arith, common_steps)

pub put_statement_form-put_statement-requires-in-While : goal.put_statement_form-put_statement-requires-in-While
put_statement_form-put_statement-requires-in-While t c = grind (the_lemmas, arith, common_steps)

pub put_statement_form-put_do-requires : goal.put_statement_form-put_do-requires
put_statement_form-put_do-requires t c = grind (the_lemmas, arith, common_steps)

pub put_statement_form-returns-in_err-put_for_head-in-For : goal.put_statement_form-returns-in_err-put_for_head-in-For
put_statement_form-returns-in_err-put_for_head-in-For t c = grind (the_lemmas, arith, common_steps)

pub put_statement_form-put_statement-requires-in-For : goal.put_statement_form-put_statement-requires-in-For
put_statement_form-put_statement-requires-in-For t c = grind (the_lemmas, arith, common_steps)

pub put_statement_form-returns-in-Block : goal.put_statement_form-returns-in-Block
put_statement_form-returns-in-Block t c = grind (the_lemmas, arith, common_steps)

pub put_statement_form-returns-in-Plain : goal.put_statement_form-returns-in-Plain
put_statement_form-returns-in-Plain t c = grind (the_lemmas, arith, common_steps)

pub put_statement_form-returns-in_ok-put_test-in-If-default-default-None : goal.put_statement_form-returns-in_ok-put_test-in-If-default-default-None
put_statement_form-returns-in_ok-put_test-in-If-default-default-None t c = grind (the_lemmas, arith, common_steps)

pub put_statement_form-returns-in_ok-put_statement-in-If-default-default-Some : goal.put_statement_form-returns-in_ok-put_statement-in-If-default-default-Some
put_statement_form-returns-in_ok-put_statement-in-If-default-default-Some t c = grind (the_lemmas, arith, common_steps)

pub put_statement_form-returns-in_ok-put_test-in-Switch : goal.put_statement_form-returns-in_ok-put_test-in-Switch
put_statement_form-returns-in_ok-put_test-in-Switch t c = grind (the_lemmas, arith, common_steps)

pub put_statement_form-returns-in_ok-put_test-in-While : goal.put_statement_form-returns-in_ok-put_test-in-While
put_statement_form-returns-in_ok-put_test-in-While t c = grind (the_lemmas, arith, common_steps)

pub put_statement_form-returns-in-Do : goal.put_statement_form-returns-in-Do
put_statement_form-returns-in-Do t c = grind (the_lemmas, arith, common_steps)

pub put_statement_form-returns-in_ok-put_for_head-in-For : goal.put_statement_form-returns-in_ok-put_for_head-in-For
put_statement_form-returns-in_ok-put_for_head-in-For t c = grind (the_lemmas, arith, common_steps)

pub put_statement_form-returns-in-Break : goal.put_statement_form-returns-in-Break
put_statement_form-returns-in-Break t c = grind (the_lemmas, arith, common_steps)

pub put_statement_form-returns-in-Continue : goal.put_statement_form-returns-in-Continue
put_statement_form-returns-in-Continue t c = grind (the_lemmas, arith, common_steps)

pub put_statement_form-returns-in-Return : goal.put_statement_form-returns-in-Return
put_statement_form-returns-in-Return t c = grind (the_lemmas, arith, common_steps)

pub put_statements-loop-x-init : goal.put_statements-loop-x-init
put_statements-loop-x-init t c = grind (the_lemmas, arith, common_steps)

pub put_statements-offset_bounds-list-x-index : goal.put_statements-offset_bounds-list-x-index
put_statements-offset_bounds-list-x-index t c = grind (the_lemmas, arith, common_steps)

pub put_statements-put_statement-requires : goal.put_statements-put_statement-requires
put_statements-put_statement-requires t c = grind (the_lemmas, arith, common_steps)

pub put_statements-returns-in_err-put_statement : goal.put_statements-returns-in_err-put_statement
put_statements-returns-in_err-put_statement t c = grind (the_lemmas, arith, common_steps)

pub put_statements-loop-x-smaller : goal.put_statements-loop-x-smaller
put_statements-loop-x-smaller t c = grind (the_lemmas, arith, common_steps)

pub put_statements-loop-x-preserved : goal.put_statements-loop-x-preserved
put_statements-loop-x-preserved t c = grind (the_lemmas, arith, common_steps)

pub put_statements-returns : goal.put_statements-returns
put_statements-returns t c = grind (the_lemmas, arith, common_steps)

pub put_switch_body-returns-in_err-put_punctuator : goal.put_switch_body-returns-in_err-put_punctuator
put_switch_body-returns-in_err-put_punctuator t c = grind (the_lemmas, arith, common_steps)

pub put_switch_body-put_sections-requires : goal.put_switch_body-put_sections-requires
put_switch_body-put_sections-requires t c = grind (the_lemmas, arith, common_steps)

pub put_switch_body-returns-in_err-put_sections : goal.put_switch_body-returns-in_err-put_sections
put_switch_body-returns-in_err-put_sections t c = grind (the_lemmas, arith, common_steps)

pub put_switch_body-returns : goal.put_switch_body-returns
put_switch_body-returns t c = grind (the_lemmas, arith, common_steps)
