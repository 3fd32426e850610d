use Rattle.std.proofs.Common.{ap, arith, rules}
use Rattle.std.proofs.lemmas.Grind.{common_steps}
use Rattle.stk_nodes.proofs.Chains.{chained_set}
use Rattle.stk_nodes.proofs.Views.{view_else}
use Rattle.stk_nodes.proofs.Widths.{else_length}
use Rattle.stk_tree.specs.View.{view_statement_form}
use Rattle.stk_nodes.proofs.lay_statements.+lay_statement.Goals as goal
use Rattle.stk_tree.specs.declared.statement.Part.TheFolds.{the_lemmas}

pub lay_statements-loop-i-preserved : goal.lay_statements-loop-i-preserved
lay_statements-loop-i-preserved t c = record {
  same = search rules;
  tree = grind (arith, common_steps, chained_set);
  number = grind (arith, common_steps);
  token = grind (arith, common_steps);
}

pub lay_parts-loop-i-preserved : goal.lay_parts-loop-i-preserved
lay_parts-loop-i-preserved t c = record {
  same = search rules;
  tree = grind (arith, common_steps, chained_set);
  number = grind (arith, common_steps);
  token = grind (arith, common_steps);
}

pub lay_sections-loop-i-preserved : goal.lay_sections-loop-i-preserved
lay_sections-loop-i-preserved t c = record {
  same = search rules;
  tree = grind (arith, common_steps, chained_set);
  number = grind (arith, common_steps);
  token = grind (arith, common_steps);
}

-- From here on: goals that the check would prove by itself, but only after searches that fail. With the equations of
-- the folds `grind` is quick.
pub lay_part-lay_declaration-requires : goal.lay_part-lay_declaration-requires
lay_part-lay_declaration-requires t c = grind (the_lemmas, arith, common_steps)

pub lay_part-lay_statement-requires : goal.lay_part-lay_statement-requires
lay_part-lay_statement-requires t c = grind (the_lemmas, arith, common_steps)

pub lay_part-returns-in-Local : goal.lay_part-returns-in-Local
lay_part-returns-in-Local t c = grind (the_lemmas, arith, common_steps)

pub lay_part-returns-in-Run : goal.lay_part-returns-in-Run
lay_part-returns-in-Run t c = grind (the_lemmas, arith, common_steps)

pub lay_parts-loop-i-init : goal.lay_parts-loop-i-init
lay_parts-loop-i-init t c = grind (the_lemmas, arith, common_steps)

pub lay_parts-offset_bounds-list-i : goal.lay_parts-offset_bounds-list-i
lay_parts-offset_bounds-list-i t c = grind (the_lemmas, arith, common_steps)

pub lay_parts-bounds-list-i : goal.lay_parts-bounds-list-i
lay_parts-bounds-list-i t c = grind (the_lemmas, arith, common_steps)

pub lay_parts-lay_part-end-requires : goal.lay_parts-lay_part-end-requires
lay_parts-lay_part-end-requires t c = grind (the_lemmas, arith, common_steps)

pub lay_parts-loop-i-smaller : goal.lay_parts-loop-i-smaller
lay_parts-loop-i-smaller t c = grind (the_lemmas, arith, common_steps)

pub lay_parts-returns : goal.lay_parts-returns
lay_parts-returns t c = grind (the_lemmas, arith, common_steps)

pub lay_section-lay_labels-next-requires : goal.lay_section-lay_labels-next-requires
lay_section-lay_labels-next-requires t c = grind (the_lemmas, arith, common_steps)

pub lay_section-lay_statements-end-requires : goal.lay_section-lay_statements-end-requires
lay_section-lay_statements-end-requires t c = grind (the_lemmas, arith, common_steps)

pub lay_section-close-requires : goal.lay_section-close-requires
lay_section-close-requires t c = grind (the_lemmas, arith, common_steps)

pub lay_section-returns : goal.lay_section-returns
lay_section-returns t c = grind (the_lemmas, arith, common_steps)

pub lay_sections-loop-i-init : goal.lay_sections-loop-i-init
lay_sections-loop-i-init t c = grind (the_lemmas, arith, common_steps)

pub lay_sections-offset_bounds-list-i : goal.lay_sections-offset_bounds-list-i
lay_sections-offset_bounds-list-i t c = grind (the_lemmas, arith, common_steps)

pub lay_sections-bounds-list-i : goal.lay_sections-bounds-list-i
lay_sections-bounds-list-i t c = grind (the_lemmas, arith, common_steps)

pub lay_sections-lay_section-end-requires : goal.lay_sections-lay_section-end-requires
lay_sections-lay_section-end-requires t c = grind (the_lemmas, arith, common_steps)

pub lay_sections-loop-i-smaller : goal.lay_sections-loop-i-smaller
lay_sections-loop-i-smaller t c = grind (the_lemmas, arith, common_steps)

pub lay_sections-returns : goal.lay_sections-returns
lay_sections-returns t c = grind (the_lemmas, arith, common_steps)

pub lay_statement-lay_statement_form-end-requires : goal.lay_statement-lay_statement_form-end-requires
lay_statement-lay_statement_form-end-requires t c = grind (the_lemmas, arith, common_steps)

pub lay_statement-close-requires : goal.lay_statement-close-requires
lay_statement-close-requires t c = grind (the_lemmas, arith, common_steps)

pub lay_statement_form-past-requires : goal.lay_statement_form-past-requires
lay_statement_form-past-requires t c = grind (the_lemmas, arith, common_steps)

pub lay_statement_form-lay_parts-requires : goal.lay_statement_form-lay_parts-requires
lay_statement_form-lay_parts-requires t c = grind (the_lemmas, arith, common_steps)

pub lay_statement_form-past-requires-in-Block : goal.lay_statement_form-past-requires-in-Block
lay_statement_form-past-requires-in-Block t c = grind (the_lemmas, arith, common_steps)

pub lay_statement_form-lay_ended-requires : goal.lay_statement_form-lay_ended-requires
lay_statement_form-lay_ended-requires t c = grind (the_lemmas, arith, common_steps)

pub lay_statement_form-past-requires-in-If : goal.lay_statement_form-past-requires-in-If
lay_statement_form-past-requires-in-If t c = grind (the_lemmas, arith, common_steps)

pub lay_statement_form-lay_bracketed-test-requires : goal.lay_statement_form-lay_bracketed-test-requires
lay_statement_form-lay_bracketed-test-requires t c = grind (the_lemmas, arith, common_steps)

pub lay_statement_form-lay_statement-next-requires : goal.lay_statement_form-lay_statement-next-requires
lay_statement_form-lay_statement-next-requires t c = grind (the_lemmas, arith, common_steps)

pub lay_statement_form-past-requires-in-Some : goal.lay_statement_form-past-requires-in-Some
lay_statement_form-past-requires-in-Some t c = grind (the_lemmas, arith, common_steps)

pub lay_statement_form-lay_statement-requires : goal.lay_statement_form-lay_statement-requires
lay_statement_form-lay_statement-requires t c = grind (the_lemmas, arith, common_steps)

pub lay_statement_form-past-requires-in-Switch : goal.lay_statement_form-past-requires-in-Switch
lay_statement_form-past-requires-in-Switch t c = grind (the_lemmas, arith, common_steps)

pub lay_statement_form-lay_bracketed-requires : goal.lay_statement_form-lay_bracketed-requires
lay_statement_form-lay_bracketed-requires t c = grind (the_lemmas, arith, common_steps)

pub lay_statement_form-past-next-requires : goal.lay_statement_form-past-next-requires
lay_statement_form-past-next-requires t c = grind (the_lemmas, arith, common_steps)

pub lay_statement_form-lay_sections-requires : goal.lay_statement_form-lay_sections-requires
lay_statement_form-lay_sections-requires t c = grind (the_lemmas, arith, common_steps)

pub lay_statement_form-past-requires-in-Switch-2 : goal.lay_statement_form-past-requires-in-Switch-2
lay_statement_form-past-requires-in-Switch-2 t c = grind (the_lemmas, arith, common_steps)

pub lay_statement_form-past-requires-in-While : goal.lay_statement_form-past-requires-in-While
lay_statement_form-past-requires-in-While t c = grind (the_lemmas, arith, common_steps)

pub lay_statement_form-lay_bracketed-next-requires : goal.lay_statement_form-lay_bracketed-next-requires
lay_statement_form-lay_bracketed-next-requires t c = grind (the_lemmas, arith, common_steps)

pub lay_statement_form-lay_statement-requires-in-While : goal.lay_statement_form-lay_statement-requires-in-While
lay_statement_form-lay_statement-requires-in-While t c = grind (the_lemmas, arith, common_steps)

pub lay_statement_form-past-requires-in-Do : goal.lay_statement_form-past-requires-in-Do
lay_statement_form-past-requires-in-Do t c = grind (the_lemmas, arith, common_steps)

pub lay_statement_form-lay_statement-requires-in-Do : goal.lay_statement_form-lay_statement-requires-in-Do
lay_statement_form-lay_statement-requires-in-Do t c = grind (the_lemmas, arith, common_steps)

pub lay_statement_form-past-next-requires-in-Do : goal.lay_statement_form-past-next-requires-in-Do
lay_statement_form-past-next-requires-in-Do t c = grind (the_lemmas, arith, common_steps)

pub lay_statement_form-lay_bracketed-requires-in-Do : goal.lay_statement_form-lay_bracketed-requires-in-Do
lay_statement_form-lay_bracketed-requires-in-Do t c = grind (the_lemmas, arith, common_steps)

pub lay_statement_form-past-requires-in-Do-2 : goal.lay_statement_form-past-requires-in-Do-2
lay_statement_form-past-requires-in-Do-2 t c = grind (the_lemmas, arith, common_steps)

pub lay_statement_form-past-requires-in-For : goal.lay_statement_form-past-requires-in-For
lay_statement_form-past-requires-in-For t c = grind (the_lemmas, arith, common_steps)

pub lay_statement_form-lay_start-first-requires : goal.lay_statement_form-lay_start-first-requires
lay_statement_form-lay_start-first-requires t c = grind (the_lemmas, arith, common_steps)

pub lay_statement_form-lay_ended-second-requires : goal.lay_statement_form-lay_ended-second-requires
lay_statement_form-lay_ended-second-requires t c = grind (the_lemmas, arith, common_steps)

pub lay_statement_form-lay_ended-third-requires : goal.lay_statement_form-lay_ended-third-requires
lay_statement_form-lay_ended-third-requires t c = grind (the_lemmas, arith, common_steps)

pub lay_statement_form-lay_statement-requires-in-For : goal.lay_statement_form-lay_statement-requires-in-For
lay_statement_form-lay_statement-requires-in-For t c = grind (the_lemmas, arith, common_steps)

pub lay_statement_form-past-requires-in-Return : goal.lay_statement_form-past-requires-in-Return
lay_statement_form-past-requires-in-Return t c = grind (the_lemmas, arith, common_steps)

pub lay_statement_form-lay_ended-requires-in-Return : goal.lay_statement_form-lay_ended-requires-in-Return
lay_statement_form-lay_ended-requires-in-Return t c = grind (the_lemmas, arith, common_steps)

pub lay_statement_form-past-requires-in-Break : goal.lay_statement_form-past-requires-in-Break
lay_statement_form-past-requires-in-Break t c = grind (the_lemmas, arith, common_steps)

pub lay_statement_form-returns-in-Block : goal.lay_statement_form-returns-in-Block
lay_statement_form-returns-in-Block t c = grind (the_lemmas, arith, common_steps)

pub lay_statement_form-returns-in-Plain : goal.lay_statement_form-returns-in-Plain
lay_statement_form-returns-in-Plain t c = grind (the_lemmas, arith, common_steps)

pub lay_statement_form-returns-in-None : goal.lay_statement_form-returns-in-None
lay_statement_form-returns-in-None t c = grind (the_lemmas, arith, common_steps)

pub lay_statement_form-returns-in-Switch : goal.lay_statement_form-returns-in-Switch
lay_statement_form-returns-in-Switch t c = grind (the_lemmas, arith, common_steps)

pub lay_statement_form-returns-in-While : goal.lay_statement_form-returns-in-While
lay_statement_form-returns-in-While t c = grind (the_lemmas, arith, common_steps)

pub lay_statement_form-returns-in-Do : goal.lay_statement_form-returns-in-Do
lay_statement_form-returns-in-Do t c = grind (the_lemmas, arith, common_steps)

pub lay_statement_form-returns-in-For : goal.lay_statement_form-returns-in-For
lay_statement_form-returns-in-For t c = grind (the_lemmas, arith, common_steps)

pub lay_statement_form-returns-in-Return : goal.lay_statement_form-returns-in-Return
lay_statement_form-returns-in-Return t c = grind (the_lemmas, arith, common_steps)

pub lay_statement_form-returns-in-Break : goal.lay_statement_form-returns-in-Break
lay_statement_form-returns-in-Break t c = grind (the_lemmas, arith, common_steps)

pub lay_statements-loop-i-init : goal.lay_statements-loop-i-init
lay_statements-loop-i-init t c = grind (the_lemmas, arith, common_steps)

pub lay_statements-offset_bounds-list-i : goal.lay_statements-offset_bounds-list-i
lay_statements-offset_bounds-list-i t c = grind (the_lemmas, arith, common_steps)

pub lay_statements-bounds-list-i : goal.lay_statements-bounds-list-i
lay_statements-bounds-list-i t c = grind (the_lemmas, arith, common_steps)

pub lay_statements-lay_statement-end-requires : goal.lay_statements-lay_statement-end-requires
lay_statements-lay_statement-end-requires t c = grind (the_lemmas, arith, common_steps)

pub lay_statements-loop-i-smaller : goal.lay_statements-loop-i-smaller
lay_statements-loop-i-smaller t c = grind (the_lemmas, arith, common_steps)

pub lay_statements-returns : goal.lay_statements-returns
lay_statements-returns t c = grind (the_lemmas, arith, common_steps)

pub lay_statement-returns-clause-number : goal.lay_statement-returns-clause-number
lay_statement-returns-clause-number t c = grind (the_lemmas, arith, common_steps)

pub lay_statement-returns-clause-token : goal.lay_statement-returns-clause-token
lay_statement-returns-clause-token t c = grind (the_lemmas, arith, common_steps)

pub lay_statement_form-returns-in-Some-clause-number : goal.lay_statement_form-returns-in-Some-clause-number
lay_statement_form-returns-in-Some-clause-number t c = grind (the_lemmas, arith, common_steps)

pub lay_statement_form-returns-in-Some-clause-token : goal.lay_statement_form-returns-in-Some-clause-token
lay_statement_form-returns-in-Some-clause-token t c = grind (arith, ap view_statement_form c.in-If.is, c.in-Some.is, view_else, else_length)

pub lay_statement_form-returns-in-Some-clause-tree : goal.lay_statement_form-returns-in-Some-clause-tree
lay_statement_form-returns-in-Some-clause-tree t c = grind (arith, ap view_statement_form c.in-If.is, c.in-Some.is, view_else)
