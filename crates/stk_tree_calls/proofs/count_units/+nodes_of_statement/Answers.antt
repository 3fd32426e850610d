use Rattle.std.proofs.Common.{arith}
use Rattle.std.proofs.lemmas.Grind.{common_steps}
use Rattle.stk_tree_calls.proofs.count_units.+nodes_of_statement.Goals as goal
use Rattle.stk_tree.specs.declared.statement.Part.TheFolds.{the_lemmas}

-- The check would prove these goals by itself, but only after searches that fail. With the equations of the folds
-- `grind` is quick.
pub part_nodes-declaration_nodes-requires : goal.part_nodes-declaration_nodes-requires
part_nodes-declaration_nodes-requires t c = grind (the_lemmas, arith, common_steps)

pub part_nodes-statement_nodes-requires : goal.part_nodes-statement_nodes-requires
part_nodes-statement_nodes-requires t c = grind (the_lemmas, arith, common_steps)

pub part_nodes-returns-in-Local : goal.part_nodes-returns-in-Local
part_nodes-returns-in-Local t c = grind (the_lemmas, arith, common_steps)

pub part_nodes-returns-in-Run : goal.part_nodes-returns-in-Run
part_nodes-returns-in-Run t c = grind (the_lemmas, arith, common_steps)

pub parts_nodes-loop-x-init : goal.parts_nodes-loop-x-init
parts_nodes-loop-x-init t c = grind (the_lemmas, arith, common_steps)

pub parts_nodes-offset_bounds-list-x-index : goal.parts_nodes-offset_bounds-list-x-index
parts_nodes-offset_bounds-list-x-index t c = grind (the_lemmas, arith, common_steps)

pub parts_nodes-part_nodes-total-requires : goal.parts_nodes-part_nodes-total-requires
parts_nodes-part_nodes-total-requires t c = grind (the_lemmas, arith, common_steps)

pub parts_nodes-overflow_add-total : goal.parts_nodes-overflow_add-total
parts_nodes-overflow_add-total t c = grind (the_lemmas, arith, common_steps)

pub parts_nodes-loop-x-smaller : goal.parts_nodes-loop-x-smaller
parts_nodes-loop-x-smaller t c = grind (the_lemmas, arith, common_steps)

pub parts_nodes-loop-x-preserved : goal.parts_nodes-loop-x-preserved
parts_nodes-loop-x-preserved t c = grind (the_lemmas, arith, common_steps)

pub parts_nodes-returns : goal.parts_nodes-returns
parts_nodes-returns t c = grind (the_lemmas, arith, common_steps)

pub section_nodes-labels_nodes-requires : goal.section_nodes-labels_nodes-requires
section_nodes-labels_nodes-requires t c = grind (the_lemmas, arith, common_steps)

pub section_nodes-statements_nodes-requires : goal.section_nodes-statements_nodes-requires
section_nodes-statements_nodes-requires t c = grind (the_lemmas, arith, common_steps)

pub section_nodes-overflow_add-result : goal.section_nodes-overflow_add-result
section_nodes-overflow_add-result t c = grind (the_lemmas, arith, common_steps)

pub section_nodes-overflow_add-result-2 : goal.section_nodes-overflow_add-result-2
section_nodes-overflow_add-result-2 t c = grind (the_lemmas, arith, common_steps)

pub section_nodes-returns : goal.section_nodes-returns
section_nodes-returns t c = grind (the_lemmas, arith, common_steps)

pub sections_nodes-loop-x-init : goal.sections_nodes-loop-x-init
sections_nodes-loop-x-init t c = grind (the_lemmas, arith, common_steps)

pub sections_nodes-offset_bounds-list-x-index : goal.sections_nodes-offset_bounds-list-x-index
sections_nodes-offset_bounds-list-x-index t c = grind (the_lemmas, arith, common_steps)

pub sections_nodes-section_nodes-total-requires : goal.sections_nodes-section_nodes-total-requires
sections_nodes-section_nodes-total-requires t c = grind (the_lemmas, arith, common_steps)

pub sections_nodes-overflow_add-total : goal.sections_nodes-overflow_add-total
sections_nodes-overflow_add-total t c = grind (the_lemmas, arith, common_steps)

pub sections_nodes-loop-x-smaller : goal.sections_nodes-loop-x-smaller
sections_nodes-loop-x-smaller t c = grind (the_lemmas, arith, common_steps)

pub sections_nodes-loop-x-preserved : goal.sections_nodes-loop-x-preserved
sections_nodes-loop-x-preserved t c = grind (the_lemmas, arith, common_steps)

pub sections_nodes-returns : goal.sections_nodes-returns
sections_nodes-returns t c = grind (the_lemmas, arith, common_steps)

pub statement_form_nodes-parts_nodes-requires : goal.statement_form_nodes-parts_nodes-requires
statement_form_nodes-parts_nodes-requires t c = grind (the_lemmas, arith, common_steps)

pub statement_form_nodes-expression_nodes-requires : goal.statement_form_nodes-expression_nodes-requires
statement_form_nodes-expression_nodes-requires t c = grind (the_lemmas, arith, common_steps)

pub statement_form_nodes-statement_nodes-requires : goal.statement_form_nodes-statement_nodes-requires
statement_form_nodes-statement_nodes-requires t c = grind (the_lemmas, arith, common_steps)

pub statement_form_nodes-overflow_add-result : goal.statement_form_nodes-overflow_add-result
statement_form_nodes-overflow_add-result t c = grind (the_lemmas, arith, common_steps)

pub statement_form_nodes-expression_nodes-requires-in-If-default-default-Some : goal.statement_form_nodes-expression_nodes-requires-in-If-default-default-Some
statement_form_nodes-expression_nodes-requires-in-If-default-default-Some t c = grind (the_lemmas, arith, common_steps)

pub statement_form_nodes-statement_nodes-requires-in-If-default-default-Some : goal.statement_form_nodes-statement_nodes-requires-in-If-default-default-Some
statement_form_nodes-statement_nodes-requires-in-If-default-default-Some t c = grind (the_lemmas, arith, common_steps)

pub statement_form_nodes-overflow_add-result-in-If-default-default-Some : goal.statement_form_nodes-overflow_add-result-in-If-default-default-Some
statement_form_nodes-overflow_add-result-in-If-default-default-Some t c = grind (the_lemmas, arith, common_steps)

pub statement_form_nodes-statement_nodes-requires-in-If-default-default-Some-2 : goal.statement_form_nodes-statement_nodes-requires-in-If-default-default-Some-2
statement_form_nodes-statement_nodes-requires-in-If-default-default-Some-2 t c = grind (the_lemmas, arith, common_steps)

pub statement_form_nodes-overflow_add-result-in-If-default-default-Some-2 : goal.statement_form_nodes-overflow_add-result-in-If-default-default-Some-2
statement_form_nodes-overflow_add-result-in-If-default-default-Some-2 t c = grind (the_lemmas, arith, common_steps)

pub statement_form_nodes-expression_nodes-requires-in-Switch : goal.statement_form_nodes-expression_nodes-requires-in-Switch
statement_form_nodes-expression_nodes-requires-in-Switch t c = grind (the_lemmas, arith, common_steps)

pub statement_form_nodes-sections_nodes-requires : goal.statement_form_nodes-sections_nodes-requires
statement_form_nodes-sections_nodes-requires t c = grind (the_lemmas, arith, common_steps)

pub statement_form_nodes-overflow_add-result-in-Switch : goal.statement_form_nodes-overflow_add-result-in-Switch
statement_form_nodes-overflow_add-result-in-Switch t c = grind (the_lemmas, arith, common_steps)

pub statement_form_nodes-expression_nodes-requires-in-While : goal.statement_form_nodes-expression_nodes-requires-in-While
statement_form_nodes-expression_nodes-requires-in-While t c = grind (the_lemmas, arith, common_steps)

pub statement_form_nodes-statement_nodes-requires-in-While : goal.statement_form_nodes-statement_nodes-requires-in-While
statement_form_nodes-statement_nodes-requires-in-While t c = grind (the_lemmas, arith, common_steps)

pub statement_form_nodes-overflow_add-result-in-While : goal.statement_form_nodes-overflow_add-result-in-While
statement_form_nodes-overflow_add-result-in-While t c = grind (the_lemmas, arith, common_steps)

pub statement_form_nodes-statement_nodes-requires-in-Do : goal.statement_form_nodes-statement_nodes-requires-in-Do
statement_form_nodes-statement_nodes-requires-in-Do t c = grind (the_lemmas, arith, common_steps)

pub statement_form_nodes-expression_nodes-requires-in-Do : goal.statement_form_nodes-expression_nodes-requires-in-Do
statement_form_nodes-expression_nodes-requires-in-Do t c = grind (the_lemmas, arith, common_steps)

pub statement_form_nodes-overflow_add-result-in-Do : goal.statement_form_nodes-overflow_add-result-in-Do
statement_form_nodes-overflow_add-result-in-Do t c = grind (the_lemmas, arith, common_steps)

pub statement_form_nodes-start_nodes-requires : goal.statement_form_nodes-start_nodes-requires
statement_form_nodes-start_nodes-requires t c = grind (the_lemmas, arith, common_steps)

pub statement_form_nodes-optional_nodes-requires : goal.statement_form_nodes-optional_nodes-requires
statement_form_nodes-optional_nodes-requires t c = grind (the_lemmas, arith, common_steps)

pub statement_form_nodes-overflow_add-result-in-For : goal.statement_form_nodes-overflow_add-result-in-For
statement_form_nodes-overflow_add-result-in-For t c = grind (the_lemmas, arith, common_steps)

pub statement_form_nodes-optional_nodes-requires-in-For : goal.statement_form_nodes-optional_nodes-requires-in-For
statement_form_nodes-optional_nodes-requires-in-For t c = grind (the_lemmas, arith, common_steps)

pub statement_form_nodes-overflow_add-result-in-For-2 : goal.statement_form_nodes-overflow_add-result-in-For-2
statement_form_nodes-overflow_add-result-in-For-2 t c = grind (the_lemmas, arith, common_steps)

pub statement_form_nodes-statement_nodes-requires-in-For : goal.statement_form_nodes-statement_nodes-requires-in-For
statement_form_nodes-statement_nodes-requires-in-For t c = grind (the_lemmas, arith, common_steps)

pub statement_form_nodes-overflow_add-result-in-For-3 : goal.statement_form_nodes-overflow_add-result-in-For-3
statement_form_nodes-overflow_add-result-in-For-3 t c = grind (the_lemmas, arith, common_steps)

pub statement_form_nodes-optional_nodes-requires-in-Plain : goal.statement_form_nodes-optional_nodes-requires-in-Plain
statement_form_nodes-optional_nodes-requires-in-Plain t c = grind (the_lemmas, arith, common_steps)

pub statement_form_nodes-returns-in-Block : goal.statement_form_nodes-returns-in-Block
statement_form_nodes-returns-in-Block t c = grind (the_lemmas, arith, common_steps)

pub statement_form_nodes-returns-in-If-default-default-None : goal.statement_form_nodes-returns-in-If-default-default-None
statement_form_nodes-returns-in-If-default-default-None t c = grind (the_lemmas, arith, common_steps)

pub statement_form_nodes-returns-in-If-default-default-Some : goal.statement_form_nodes-returns-in-If-default-default-Some
statement_form_nodes-returns-in-If-default-default-Some t c = grind (the_lemmas, arith, common_steps)

pub statement_form_nodes-returns-in-Switch : goal.statement_form_nodes-returns-in-Switch
statement_form_nodes-returns-in-Switch t c = grind (the_lemmas, arith, common_steps)

pub statement_form_nodes-returns-in-While : goal.statement_form_nodes-returns-in-While
statement_form_nodes-returns-in-While t c = grind (the_lemmas, arith, common_steps)

pub statement_form_nodes-returns-in-Do : goal.statement_form_nodes-returns-in-Do
statement_form_nodes-returns-in-Do t c = grind (the_lemmas, arith, common_steps)

pub statement_form_nodes-returns-in-For : goal.statement_form_nodes-returns-in-For
statement_form_nodes-returns-in-For t c = grind (the_lemmas, arith, common_steps)

pub statement_form_nodes-returns-in-Break : goal.statement_form_nodes-returns-in-Break
statement_form_nodes-returns-in-Break t c = grind (the_lemmas, arith, common_steps)

pub statement_form_nodes-returns-in-Break-2 : goal.statement_form_nodes-returns-in-Break-2
statement_form_nodes-returns-in-Break-2 t c = grind (the_lemmas, arith, common_steps)

pub statement_form_nodes-returns-in-Plain : goal.statement_form_nodes-returns-in-Plain
statement_form_nodes-returns-in-Plain t c = grind (the_lemmas, arith, common_steps)

pub statement_nodes-statement_form_nodes-requires : goal.statement_nodes-statement_form_nodes-requires
statement_nodes-statement_form_nodes-requires t c = grind (the_lemmas, arith, common_steps)

pub statement_nodes-overflow_add-result : goal.statement_nodes-overflow_add-result
statement_nodes-overflow_add-result t c = grind (the_lemmas, arith, common_steps)

pub statement_nodes-returns : goal.statement_nodes-returns
statement_nodes-returns t c = grind (the_lemmas, arith, common_steps)

pub statements_nodes-loop-x-init : goal.statements_nodes-loop-x-init
statements_nodes-loop-x-init t c = grind (the_lemmas, arith, common_steps)

pub statements_nodes-offset_bounds-list-x-index : goal.statements_nodes-offset_bounds-list-x-index
statements_nodes-offset_bounds-list-x-index t c = grind (the_lemmas, arith, common_steps)

pub statements_nodes-statement_nodes-total-requires : goal.statements_nodes-statement_nodes-total-requires
statements_nodes-statement_nodes-total-requires t c = grind (the_lemmas, arith, common_steps)

pub statements_nodes-overflow_add-total : goal.statements_nodes-overflow_add-total
statements_nodes-overflow_add-total t c = grind (the_lemmas, arith, common_steps)

pub statements_nodes-loop-x-smaller : goal.statements_nodes-loop-x-smaller
statements_nodes-loop-x-smaller t c = grind (the_lemmas, arith, common_steps)

pub statements_nodes-loop-x-preserved : goal.statements_nodes-loop-x-preserved
statements_nodes-loop-x-preserved t c = grind (the_lemmas, arith, common_steps)

pub statements_nodes-returns : goal.statements_nodes-returns
statements_nodes-returns t c = grind (the_lemmas, arith, common_steps)
