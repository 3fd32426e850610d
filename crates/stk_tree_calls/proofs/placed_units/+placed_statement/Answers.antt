use Rattle.std.proofs.Common.{arith}
use Rattle.std.proofs.lemmas.Grind.{common_steps}
use Rattle.stk_tree_calls.proofs.placed_units.+placed_statement.Goals as goal
use Rattle.stk_tree.specs.declared.statement.Part.TheFolds.{the_lemmas}

-- The check would prove these goals by itself, but only after searches that fail. With the equations of the folds
-- `grind` is quick.
pub part_placed-statement_placed-requires : goal.part_placed-statement_placed-requires
part_placed-statement_placed-requires t c = grind (the_lemmas, arith, common_steps)

pub part_placed-returns-in-Local : goal.part_placed-returns-in-Local
part_placed-returns-in-Local t c = grind (the_lemmas, arith, common_steps)

pub part_placed-returns-in-Run : goal.part_placed-returns-in-Run
part_placed-returns-in-Run t c = grind (the_lemmas, arith, common_steps)

pub parts_placed-loop-x-init : goal.parts_placed-loop-x-init
parts_placed-loop-x-init t c = grind (the_lemmas, arith, common_steps)

pub parts_placed-offset_bounds-list-x-index : goal.parts_placed-offset_bounds-list-x-index
parts_placed-offset_bounds-list-x-index t c = grind (the_lemmas, arith, common_steps)

pub parts_placed-part_placed-requires : goal.parts_placed-part_placed-requires
parts_placed-part_placed-requires t c = grind (the_lemmas, arith, common_steps)

pub parts_placed-returns-then-not-part_placed : goal.parts_placed-returns-then-not-part_placed
parts_placed-returns-then-not-part_placed t c = grind (the_lemmas, arith, common_steps)

pub parts_placed-loop-x-smaller : goal.parts_placed-loop-x-smaller
parts_placed-loop-x-smaller t c = grind (the_lemmas, arith, common_steps)

pub parts_placed-loop-x-preserved : goal.parts_placed-loop-x-preserved
parts_placed-loop-x-preserved t c = grind (the_lemmas, arith, common_steps)

pub parts_placed-returns : goal.parts_placed-returns
parts_placed-returns t c = grind (the_lemmas, arith, common_steps)

pub section_placed-statements_placed-requires : goal.section_placed-statements_placed-requires
section_placed-statements_placed-requires t c = grind (the_lemmas, arith, common_steps)

pub section_placed-returns-then-labels_placed : goal.section_placed-returns-then-labels_placed
section_placed-returns-then-labels_placed t c = grind (the_lemmas, arith, common_steps)

pub section_placed-returns-else-labels_placed : goal.section_placed-returns-else-labels_placed
section_placed-returns-else-labels_placed t c = grind (the_lemmas, arith, common_steps)

pub sections_placed-loop-i-init : goal.sections_placed-loop-i-init
sections_placed-loop-i-init t c = grind (the_lemmas, arith, common_steps)

pub sections_placed-offset_bounds-list-i : goal.sections_placed-offset_bounds-list-i
sections_placed-offset_bounds-list-i t c = grind (the_lemmas, arith, common_steps)

pub sections_placed-bounds-list-i : goal.sections_placed-bounds-list-i
sections_placed-bounds-list-i t c = grind (the_lemmas, arith, common_steps)

pub sections_placed-overflow_add-i : goal.sections_placed-overflow_add-i
sections_placed-overflow_add-i t c = grind (the_lemmas, arith, common_steps)

pub sections_placed-offset_bounds-list-i-in-loop-i : goal.sections_placed-offset_bounds-list-i-in-loop-i
sections_placed-offset_bounds-list-i-in-loop-i t c = grind (the_lemmas, arith, common_steps)

pub sections_placed-slice_bounds-may_precede-count : goal.sections_placed-slice_bounds-may_precede-count
sections_placed-slice_bounds-may_precede-count t c = grind (the_lemmas, arith, common_steps)

pub sections_placed-slice_bounds-may_precede-start : goal.sections_placed-slice_bounds-may_precede-start
sections_placed-slice_bounds-may_precede-start t c = grind (the_lemmas, arith, common_steps)

pub sections_placed-slice_bounds-may_precede-end : goal.sections_placed-slice_bounds-may_precede-end
sections_placed-slice_bounds-may_precede-end t c = grind (the_lemmas, arith, common_steps)

pub sections_placed-returns-then-not-may_precede : goal.sections_placed-returns-then-not-may_precede
sections_placed-returns-then-not-may_precede t c = grind (the_lemmas, arith, common_steps)

pub sections_placed-offset_bounds-list-i-in-loop-i-2 : goal.sections_placed-offset_bounds-list-i-in-loop-i-2
sections_placed-offset_bounds-list-i-in-loop-i-2 t c = grind (the_lemmas, arith, common_steps)

pub sections_placed-bounds-list-i-in-loop-i : goal.sections_placed-bounds-list-i-in-loop-i
sections_placed-bounds-list-i-in-loop-i t c = grind (the_lemmas, arith, common_steps)

pub sections_placed-section_placed-requires : goal.sections_placed-section_placed-requires
sections_placed-section_placed-requires t c = grind (the_lemmas, arith, common_steps)

pub sections_placed-returns-then-not-section_placed : goal.sections_placed-returns-then-not-section_placed
sections_placed-returns-then-not-section_placed t c = grind (the_lemmas, arith, common_steps)

pub sections_placed-loop-i-smaller : goal.sections_placed-loop-i-smaller
sections_placed-loop-i-smaller t c = grind (the_lemmas, arith, common_steps)

pub sections_placed-loop-i-preserved : goal.sections_placed-loop-i-preserved
sections_placed-loop-i-preserved t c = grind (the_lemmas, arith, common_steps)

pub sections_placed-returns : goal.sections_placed-returns
sections_placed-returns t c = grind (the_lemmas, arith, common_steps)

pub statement_form_placed-parts_placed-requires : goal.statement_form_placed-parts_placed-requires
statement_form_placed-parts_placed-requires t c = grind (the_lemmas, arith, common_steps)

pub statement_form_placed-statement_placed-requires : goal.statement_form_placed-statement_placed-requires
statement_form_placed-statement_placed-requires t c = grind (the_lemmas, arith, common_steps)

pub statement_form_placed-statement_placed-requires-then-expression_placed-2 : goal.statement_form_placed-statement_placed-requires-then-expression_placed-2
statement_form_placed-statement_placed-requires-then-expression_placed-2 t c = grind (the_lemmas, arith, common_steps)

pub statement_form_placed-statement_placed-requires-then-not-ends_open : goal.statement_form_placed-statement_placed-requires-then-not-ends_open
statement_form_placed-statement_placed-requires-then-not-ends_open t c = grind (the_lemmas, arith, common_steps)

pub statement_form_placed-sections_placed-requires : goal.statement_form_placed-sections_placed-requires
statement_form_placed-sections_placed-requires t c = grind (the_lemmas, arith, common_steps)

pub statement_form_placed-statement_placed-requires-then-expression_placed-4 : goal.statement_form_placed-statement_placed-requires-then-expression_placed-4
statement_form_placed-statement_placed-requires-then-expression_placed-4 t c = grind (the_lemmas, arith, common_steps)

pub statement_form_placed-statement_placed-requires-in-Do : goal.statement_form_placed-statement_placed-requires-in-Do
statement_form_placed-statement_placed-requires-in-Do t c = grind (the_lemmas, arith, common_steps)

pub statement_form_placed-statement_placed-requires-then-optional_placed-2 : goal.statement_form_placed-statement_placed-requires-then-optional_placed-2
statement_form_placed-statement_placed-requires-then-optional_placed-2 t c = grind (the_lemmas, arith, common_steps)

pub statement_form_placed-returns-in-Block : goal.statement_form_placed-returns-in-Block
statement_form_placed-returns-in-Block t c = grind (the_lemmas, arith, common_steps)

pub statement_form_placed-returns-then-expression_placed : goal.statement_form_placed-returns-then-expression_placed
statement_form_placed-returns-then-expression_placed t c = grind (the_lemmas, arith, common_steps)

pub statement_form_placed-returns-else-expression_placed : goal.statement_form_placed-returns-else-expression_placed
statement_form_placed-returns-else-expression_placed t c = grind (the_lemmas, arith, common_steps)

pub statement_form_placed-returns-then-not-ends_open : goal.statement_form_placed-returns-then-not-ends_open
statement_form_placed-returns-then-not-ends_open t c = grind (the_lemmas, arith, common_steps)

pub statement_form_placed-returns-else-not-ends_open : goal.statement_form_placed-returns-else-not-ends_open
statement_form_placed-returns-else-not-ends_open t c = grind (the_lemmas, arith, common_steps)

pub statement_form_placed-returns-then-expression_placed-3 : goal.statement_form_placed-returns-then-expression_placed-3
statement_form_placed-returns-then-expression_placed-3 t c = grind (the_lemmas, arith, common_steps)

pub statement_form_placed-returns-else-expression_placed-3 : goal.statement_form_placed-returns-else-expression_placed-3
statement_form_placed-returns-else-expression_placed-3 t c = grind (the_lemmas, arith, common_steps)

pub statement_form_placed-returns-then-expression_placed-4 : goal.statement_form_placed-returns-then-expression_placed-4
statement_form_placed-returns-then-expression_placed-4 t c = grind (the_lemmas, arith, common_steps)

pub statement_form_placed-returns-else-expression_placed-4 : goal.statement_form_placed-returns-else-expression_placed-4
statement_form_placed-returns-else-expression_placed-4 t c = grind (the_lemmas, arith, common_steps)

pub statement_form_placed-returns-then-statement_placed-2 : goal.statement_form_placed-returns-then-statement_placed-2
statement_form_placed-returns-then-statement_placed-2 t c = grind (the_lemmas, arith, common_steps)

pub statement_form_placed-returns-else-statement_placed-2 : goal.statement_form_placed-returns-else-statement_placed-2
statement_form_placed-returns-else-statement_placed-2 t c = grind (the_lemmas, arith, common_steps)

pub statement_form_placed-returns-then-optional_placed-2 : goal.statement_form_placed-returns-then-optional_placed-2
statement_form_placed-returns-then-optional_placed-2 t c = grind (the_lemmas, arith, common_steps)

pub statement_form_placed-returns-else-optional_placed-2 : goal.statement_form_placed-returns-else-optional_placed-2
statement_form_placed-returns-else-optional_placed-2 t c = grind (the_lemmas, arith, common_steps)

pub statement_form_placed-returns-in-Break : goal.statement_form_placed-returns-in-Break
statement_form_placed-returns-in-Break t c = grind (the_lemmas, arith, common_steps)

pub statement_form_placed-returns-in-Break-2 : goal.statement_form_placed-returns-in-Break-2
statement_form_placed-returns-in-Break-2 t c = grind (the_lemmas, arith, common_steps)

pub statement_form_placed-returns-in-Plain : goal.statement_form_placed-returns-in-Plain
statement_form_placed-returns-in-Plain t c = grind (the_lemmas, arith, common_steps)

pub statement_placed-statement_form_placed-requires : goal.statement_placed-statement_form_placed-requires
statement_placed-statement_form_placed-requires t c = grind (the_lemmas, arith, common_steps)

pub statement_placed-returns : goal.statement_placed-returns
statement_placed-returns t c = grind (the_lemmas, arith, common_steps)

pub statements_placed-loop-x-init : goal.statements_placed-loop-x-init
statements_placed-loop-x-init t c = grind (the_lemmas, arith, common_steps)

pub statements_placed-offset_bounds-list-x-index : goal.statements_placed-offset_bounds-list-x-index
statements_placed-offset_bounds-list-x-index t c = grind (the_lemmas, arith, common_steps)

pub statements_placed-statement_placed-requires : goal.statements_placed-statement_placed-requires
statements_placed-statement_placed-requires t c = grind (the_lemmas, arith, common_steps)

pub statements_placed-returns-then-not-statement_placed : goal.statements_placed-returns-then-not-statement_placed
statements_placed-returns-then-not-statement_placed t c = grind (the_lemmas, arith, common_steps)

pub statements_placed-loop-x-smaller : goal.statements_placed-loop-x-smaller
statements_placed-loop-x-smaller t c = grind (the_lemmas, arith, common_steps)

pub statements_placed-loop-x-preserved : goal.statements_placed-loop-x-preserved
statements_placed-loop-x-preserved t c = grind (the_lemmas, arith, common_steps)

pub statements_placed-returns : goal.statements_placed-returns
statements_placed-returns t c = grind (the_lemmas, arith, common_steps)
