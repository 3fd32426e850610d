use Rattle.std.proofs.Common.{arith}
use Rattle.std.proofs.lemmas.Grind.{common_steps}
use Rattle.stk_tree_calls.proofs.levels_units.+height_of_statement.Goals as goal
use Rattle.stk_tree.specs.declared.statement.Part.TheFolds.{the_lemmas}

-- The check would prove these goals by itself, but only after searches that fail. With the equations of the folds
-- `grind` is quick.
pub part_height-declaration_height-requires : goal.part_height-declaration_height-requires
part_height-declaration_height-requires t c = grind (the_lemmas, arith, common_steps)

pub part_height-statement_height-requires : goal.part_height-statement_height-requires
part_height-statement_height-requires t c = grind (the_lemmas, arith, common_steps)

pub part_height-returns-in-Local : goal.part_height-returns-in-Local
part_height-returns-in-Local t c = grind (the_lemmas, arith, common_steps)

pub part_height-returns-in-Run : goal.part_height-returns-in-Run
part_height-returns-in-Run t c = grind (the_lemmas, arith, common_steps)

pub parts_height-loop-x-init : goal.parts_height-loop-x-init
parts_height-loop-x-init t c = grind (the_lemmas, arith, common_steps)

pub parts_height-offset_bounds-list-x-index : goal.parts_height-offset_bounds-list-x-index
parts_height-offset_bounds-list-x-index t c = grind (the_lemmas, arith, common_steps)

pub parts_height-part_height-requires : goal.parts_height-part_height-requires
parts_height-part_height-requires t c = grind (the_lemmas, arith, common_steps)

pub parts_height-loop-x-smaller : goal.parts_height-loop-x-smaller
parts_height-loop-x-smaller t c = grind (the_lemmas, arith, common_steps)

pub parts_height-loop-x-preserved : goal.parts_height-loop-x-preserved
parts_height-loop-x-preserved t c = grind (the_lemmas, arith, common_steps)

pub parts_height-returns : goal.parts_height-returns
parts_height-returns t c = grind (the_lemmas, arith, common_steps)

pub section_height-labels_height-requires : goal.section_height-labels_height-requires
section_height-labels_height-requires t c = grind (the_lemmas, arith, common_steps)

pub section_height-statements_height-requires : goal.section_height-statements_height-requires
section_height-statements_height-requires t c = grind (the_lemmas, arith, common_steps)

pub section_height-overflow_add-result : goal.section_height-overflow_add-result
section_height-overflow_add-result t c = grind (the_lemmas, arith, common_steps)

pub section_height-returns : goal.section_height-returns
section_height-returns t c = grind (the_lemmas, arith, common_steps)

pub sections_height-loop-x-init : goal.sections_height-loop-x-init
sections_height-loop-x-init t c = grind (the_lemmas, arith, common_steps)

pub sections_height-offset_bounds-list-x-index : goal.sections_height-offset_bounds-list-x-index
sections_height-offset_bounds-list-x-index t c = grind (the_lemmas, arith, common_steps)

pub sections_height-section_height-requires : goal.sections_height-section_height-requires
sections_height-section_height-requires t c = grind (the_lemmas, arith, common_steps)

pub sections_height-loop-x-smaller : goal.sections_height-loop-x-smaller
sections_height-loop-x-smaller t c = grind (the_lemmas, arith, common_steps)

pub sections_height-loop-x-preserved : goal.sections_height-loop-x-preserved
sections_height-loop-x-preserved t c = grind (the_lemmas, arith, common_steps)

pub sections_height-returns : goal.sections_height-returns
sections_height-returns t c = grind (the_lemmas, arith, common_steps)

pub statement_form_height-parts_height-requires : goal.statement_form_height-parts_height-requires
statement_form_height-parts_height-requires t c = grind (the_lemmas, arith, common_steps)

pub statement_form_height-expression_height-requires : goal.statement_form_height-expression_height-requires
statement_form_height-expression_height-requires t c = grind (the_lemmas, arith, common_steps)

pub statement_form_height-statement_height-requires : goal.statement_form_height-statement_height-requires
statement_form_height-statement_height-requires t c = grind (the_lemmas, arith, common_steps)

pub statement_form_height-expression_height-requires-in-If-default-default-Some : goal.statement_form_height-expression_height-requires-in-If-default-default-Some
statement_form_height-expression_height-requires-in-If-default-default-Some t c = grind (the_lemmas, arith, common_steps)

pub statement_form_height-statement_height-requires-in-If-default-default-Some : goal.statement_form_height-statement_height-requires-in-If-default-default-Some
statement_form_height-statement_height-requires-in-If-default-default-Some t c = grind (the_lemmas, arith, common_steps)

pub statement_form_height-statement_height-requires-in-If-default-default-Some-2 : goal.statement_form_height-statement_height-requires-in-If-default-default-Some-2
statement_form_height-statement_height-requires-in-If-default-default-Some-2 t c = grind (the_lemmas, arith, common_steps)

pub statement_form_height-expression_height-requires-in-Switch : goal.statement_form_height-expression_height-requires-in-Switch
statement_form_height-expression_height-requires-in-Switch t c = grind (the_lemmas, arith, common_steps)

pub statement_form_height-sections_height-requires : goal.statement_form_height-sections_height-requires
statement_form_height-sections_height-requires t c = grind (the_lemmas, arith, common_steps)

pub statement_form_height-expression_height-requires-in-While : goal.statement_form_height-expression_height-requires-in-While
statement_form_height-expression_height-requires-in-While t c = grind (the_lemmas, arith, common_steps)

pub statement_form_height-statement_height-requires-in-While : goal.statement_form_height-statement_height-requires-in-While
statement_form_height-statement_height-requires-in-While t c = grind (the_lemmas, arith, common_steps)

pub statement_form_height-statement_height-requires-in-Do : goal.statement_form_height-statement_height-requires-in-Do
statement_form_height-statement_height-requires-in-Do t c = grind (the_lemmas, arith, common_steps)

pub statement_form_height-expression_height-requires-in-Do : goal.statement_form_height-expression_height-requires-in-Do
statement_form_height-expression_height-requires-in-Do t c = grind (the_lemmas, arith, common_steps)

pub statement_form_height-start_height-requires : goal.statement_form_height-start_height-requires
statement_form_height-start_height-requires t c = grind (the_lemmas, arith, common_steps)

pub statement_form_height-optional_height-requires : goal.statement_form_height-optional_height-requires
statement_form_height-optional_height-requires t c = grind (the_lemmas, arith, common_steps)

pub statement_form_height-optional_height-requires-in-For : goal.statement_form_height-optional_height-requires-in-For
statement_form_height-optional_height-requires-in-For t c = grind (the_lemmas, arith, common_steps)

pub statement_form_height-statement_height-requires-in-For : goal.statement_form_height-statement_height-requires-in-For
statement_form_height-statement_height-requires-in-For t c = grind (the_lemmas, arith, common_steps)

pub statement_form_height-optional_height-requires-in-Plain : goal.statement_form_height-optional_height-requires-in-Plain
statement_form_height-optional_height-requires-in-Plain t c = grind (the_lemmas, arith, common_steps)

pub statement_form_height-returns-in-Block : goal.statement_form_height-returns-in-Block
statement_form_height-returns-in-Block t c = grind (the_lemmas, arith, common_steps)

pub statement_form_height-returns-in-If-default-default-None : goal.statement_form_height-returns-in-If-default-default-None
statement_form_height-returns-in-If-default-default-None t c = grind (the_lemmas, arith, common_steps)

pub statement_form_height-returns-in-If-default-default-Some : goal.statement_form_height-returns-in-If-default-default-Some
statement_form_height-returns-in-If-default-default-Some t c = grind (the_lemmas, arith, common_steps)

pub statement_form_height-returns-in-Switch : goal.statement_form_height-returns-in-Switch
statement_form_height-returns-in-Switch t c = grind (the_lemmas, arith, common_steps)

pub statement_form_height-returns-in-While : goal.statement_form_height-returns-in-While
statement_form_height-returns-in-While t c = grind (the_lemmas, arith, common_steps)

pub statement_form_height-returns-in-Do : goal.statement_form_height-returns-in-Do
statement_form_height-returns-in-Do t c = grind (the_lemmas, arith, common_steps)

pub statement_form_height-returns-in-For : goal.statement_form_height-returns-in-For
statement_form_height-returns-in-For t c = grind (the_lemmas, arith, common_steps)

pub statement_form_height-returns-in-Break : goal.statement_form_height-returns-in-Break
statement_form_height-returns-in-Break t c = grind (the_lemmas, arith, common_steps)

pub statement_form_height-returns-in-Break-2 : goal.statement_form_height-returns-in-Break-2
statement_form_height-returns-in-Break-2 t c = grind (the_lemmas, arith, common_steps)

pub statement_form_height-returns-in-Plain : goal.statement_form_height-returns-in-Plain
statement_form_height-returns-in-Plain t c = grind (the_lemmas, arith, common_steps)

pub statement_height-statement_form_height-requires : goal.statement_height-statement_form_height-requires
statement_height-statement_form_height-requires t c = grind (the_lemmas, arith, common_steps)

pub statement_height-overflow_add-result : goal.statement_height-overflow_add-result
statement_height-overflow_add-result t c = grind (the_lemmas, arith, common_steps)

pub statement_height-returns : goal.statement_height-returns
statement_height-returns t c = grind (the_lemmas, arith, common_steps)

pub statements_height-loop-x-init : goal.statements_height-loop-x-init
statements_height-loop-x-init t c = grind (the_lemmas, arith, common_steps)

pub statements_height-offset_bounds-list-x-index : goal.statements_height-offset_bounds-list-x-index
statements_height-offset_bounds-list-x-index t c = grind (the_lemmas, arith, common_steps)

pub statements_height-statement_height-requires : goal.statements_height-statement_height-requires
statements_height-statement_height-requires t c = grind (the_lemmas, arith, common_steps)

pub statements_height-loop-x-smaller : goal.statements_height-loop-x-smaller
statements_height-loop-x-smaller t c = grind (the_lemmas, arith, common_steps)

pub statements_height-loop-x-preserved : goal.statements_height-loop-x-preserved
statements_height-loop-x-preserved t c = grind (the_lemmas, arith, common_steps)

pub statements_height-returns : goal.statements_height-returns
statements_height-returns t c = grind (the_lemmas, arith, common_steps)
