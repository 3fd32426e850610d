use Rattle.std.proofs.Common.{◌≡◌, ◌++◌, OnOk, List, subst, arith}
use Rattle.std.proofs.lemmas.Grind.{common_steps}
use Rattle.stk_tree.specs.declared.statement.Part.TheFolds.{the_lemmas}
use Rattle.stk_function_types.specs.Nodes.{typing_in}
use Rattle.stk_function_env.specs.declared.changes.Change.{Change}
use Rattle.stk_function_env.specs.Settings.{setting_in}
use Rattle.stk_function_env.proofs.Flat.{listed, section_changes_are}
use Rattle.stk_function_env.proofs.changes.+statement_changes.Goals as goal

pub section_changes-returns : goal.section_changes-returns
section_changes-returns t c =
    subst (λ (xs : List Change). OnOk c.statements_changes.result (c.statements_changes.new.out.items ≡ c.args.out.now.items ++ xs)) (section_changes_are (setting_in c.args.setting.now) (typing_in c.args.setting.now.types) c.args.x.now c.as_slice.result.now c.as_slice.ensures) c.statements_changes.ensures

-- From here on: goals that the check would prove by itself, but only after searches that fail. With the equations of
-- the folds `grind` is quick.
pub otherwise_changes-statement_changes-requires : goal.otherwise_changes-statement_changes-requires
otherwise_changes-statement_changes-requires t c = grind (the_lemmas, listed, arith, common_steps)

pub otherwise_changes-returns-in-None : goal.otherwise_changes-returns-in-None
otherwise_changes-returns-in-None t c = grind (the_lemmas, listed, arith, common_steps)

pub otherwise_changes-returns-in-Some : goal.otherwise_changes-returns-in-Some
otherwise_changes-returns-in-Some t c = grind (the_lemmas, listed, arith, common_steps)

pub part_changes-statement_changes-requires : goal.part_changes-statement_changes-requires
part_changes-statement_changes-requires t c = grind (the_lemmas, listed, arith, common_steps)

pub part_changes-returns-in-Local : goal.part_changes-returns-in-Local
part_changes-returns-in-Local t c = grind (the_lemmas, listed, arith, common_steps)

pub part_changes-returns-in-Run : goal.part_changes-returns-in-Run
part_changes-returns-in-Run t c = grind (the_lemmas, listed, arith, common_steps)

pub parts_changes-loop-x-init : goal.parts_changes-loop-x-init
parts_changes-loop-x-init t c = grind (the_lemmas, listed, arith, common_steps)

pub parts_changes-offset_bounds-list-x-index : goal.parts_changes-offset_bounds-list-x-index
parts_changes-offset_bounds-list-x-index t c = grind (the_lemmas, listed, arith, common_steps)

pub parts_changes-part_changes-requires : goal.parts_changes-part_changes-requires
parts_changes-part_changes-requires t c = grind (the_lemmas, listed, arith, common_steps)

pub parts_changes-returns-in_err-part_changes : goal.parts_changes-returns-in_err-part_changes
parts_changes-returns-in_err-part_changes t c = grind (the_lemmas, listed, arith, common_steps)

pub parts_changes-loop-x-smaller : goal.parts_changes-loop-x-smaller
parts_changes-loop-x-smaller t c = grind (the_lemmas, listed, arith, common_steps)

pub parts_changes-loop-x-preserved : goal.parts_changes-loop-x-preserved
parts_changes-loop-x-preserved t c = grind (the_lemmas, listed, arith, common_steps)

pub parts_changes-returns : goal.parts_changes-returns
parts_changes-returns t c = grind (the_lemmas, listed, arith, common_steps)

pub section_changes-statements_changes-requires : goal.section_changes-statements_changes-requires
section_changes-statements_changes-requires t c = grind (the_lemmas, listed, arith, common_steps)

pub sections_changes-loop-x-init : goal.sections_changes-loop-x-init
sections_changes-loop-x-init t c = grind (the_lemmas, listed, arith, common_steps)

pub sections_changes-offset_bounds-list-x-index : goal.sections_changes-offset_bounds-list-x-index
sections_changes-offset_bounds-list-x-index t c = grind (the_lemmas, listed, arith, common_steps)

pub sections_changes-section_changes-requires : goal.sections_changes-section_changes-requires
sections_changes-section_changes-requires t c = grind (the_lemmas, listed, arith, common_steps)

pub sections_changes-returns-in_err-section_changes : goal.sections_changes-returns-in_err-section_changes
sections_changes-returns-in_err-section_changes t c = grind (the_lemmas, listed, arith, common_steps)

pub sections_changes-loop-x-smaller : goal.sections_changes-loop-x-smaller
sections_changes-loop-x-smaller t c = grind (the_lemmas, listed, arith, common_steps)

pub sections_changes-loop-x-preserved : goal.sections_changes-loop-x-preserved
sections_changes-loop-x-preserved t c = grind (the_lemmas, listed, arith, common_steps)

pub sections_changes-returns : goal.sections_changes-returns
sections_changes-returns t c = grind (the_lemmas, listed, arith, common_steps)

pub statement_changes-statement_form_changes-requires : goal.statement_changes-statement_form_changes-requires
statement_changes-statement_form_changes-requires t c = grind (the_lemmas, listed, arith, common_steps)

pub statement_changes-returns : goal.statement_changes-returns
statement_changes-returns t c = grind (the_lemmas, listed, arith, common_steps)

pub statement_form_changes-returns-in_err-own-in-Block : goal.statement_form_changes-returns-in_err-own-in-Block
statement_form_changes-returns-in_err-own-in-Block t c = grind (the_lemmas, listed, arith, common_steps)

pub statement_form_changes-parts_changes-requires : goal.statement_form_changes-parts_changes-requires
statement_form_changes-parts_changes-requires t c = grind (the_lemmas, listed, arith, common_steps)

pub statement_form_changes-returns-in_err-parts_changes-in-Block : goal.statement_form_changes-returns-in_err-parts_changes-in-Block
statement_form_changes-returns-in_err-parts_changes-in-Block t c = grind (the_lemmas, listed, arith, common_steps)

pub statement_form_changes-returns-in_err-expression_changes-in-If : goal.statement_form_changes-returns-in_err-expression_changes-in-If
statement_form_changes-returns-in_err-expression_changes-in-If t c = grind (the_lemmas, listed, arith, common_steps)

pub statement_form_changes-statement_changes-requires : goal.statement_form_changes-statement_changes-requires
statement_form_changes-statement_changes-requires t c = grind (the_lemmas, listed, arith, common_steps)

pub statement_form_changes-returns-in_err-statement_changes-in-If : goal.statement_form_changes-returns-in_err-statement_changes-in-If
statement_form_changes-returns-in_err-statement_changes-in-If t c = grind (the_lemmas, listed, arith, common_steps)

pub statement_form_changes-otherwise_changes-requires : goal.statement_form_changes-otherwise_changes-requires
statement_form_changes-otherwise_changes-requires t c = grind (the_lemmas, listed, arith, common_steps)

pub statement_form_changes-returns-in_err-expression_changes-in-Switch : goal.statement_form_changes-returns-in_err-expression_changes-in-Switch
statement_form_changes-returns-in_err-expression_changes-in-Switch t c = grind (the_lemmas, listed, arith, common_steps)

pub statement_form_changes-sections_changes-requires : goal.statement_form_changes-sections_changes-requires
statement_form_changes-sections_changes-requires t c = grind (the_lemmas, listed, arith, common_steps)

pub statement_form_changes-returns-in_err-expression_changes-in-While : goal.statement_form_changes-returns-in_err-expression_changes-in-While
statement_form_changes-returns-in_err-expression_changes-in-While t c = grind (the_lemmas, listed, arith, common_steps)

pub statement_form_changes-statement_changes-requires-in-While : goal.statement_form_changes-statement_changes-requires-in-While
statement_form_changes-statement_changes-requires-in-While t c = grind (the_lemmas, listed, arith, common_steps)

pub statement_form_changes-statement_changes-requires-in-Do : goal.statement_form_changes-statement_changes-requires-in-Do
statement_form_changes-statement_changes-requires-in-Do t c = grind (the_lemmas, listed, arith, common_steps)

pub statement_form_changes-returns-in_err-statement_changes-in-Do : goal.statement_form_changes-returns-in_err-statement_changes-in-Do
statement_form_changes-returns-in_err-statement_changes-in-Do t c = grind (the_lemmas, listed, arith, common_steps)

pub statement_form_changes-returns-in_err-own-in-For : goal.statement_form_changes-returns-in_err-own-in-For
statement_form_changes-returns-in_err-own-in-For t c = grind (the_lemmas, listed, arith, common_steps)

pub statement_form_changes-returns-in_err-start_changes-in-For : goal.statement_form_changes-returns-in_err-start_changes-in-For
statement_form_changes-returns-in_err-start_changes-in-For t c = grind (the_lemmas, listed, arith, common_steps)

pub statement_form_changes-returns-in_err-maybe_changes-in-For : goal.statement_form_changes-returns-in_err-maybe_changes-in-For
statement_form_changes-returns-in_err-maybe_changes-in-For t c = grind (the_lemmas, listed, arith, common_steps)

pub statement_form_changes-returns-in_err-maybe_changes-in-For-2 : goal.statement_form_changes-returns-in_err-maybe_changes-in-For-2
statement_form_changes-returns-in_err-maybe_changes-in-For-2 t c = grind (the_lemmas, listed, arith, common_steps)

pub statement_form_changes-statement_changes-requires-in-For : goal.statement_form_changes-statement_changes-requires-in-For
statement_form_changes-statement_changes-requires-in-For t c = grind (the_lemmas, listed, arith, common_steps)

pub statement_form_changes-returns-in_err-statement_changes-in-For : goal.statement_form_changes-returns-in_err-statement_changes-in-For
statement_form_changes-returns-in_err-statement_changes-in-For t c = grind (the_lemmas, listed, arith, common_steps)

pub statement_form_changes-returns-in_ok-own-in-Block : goal.statement_form_changes-returns-in_ok-own-in-Block
statement_form_changes-returns-in_ok-own-in-Block t c = grind (the_lemmas, listed, arith, common_steps)

pub statement_form_changes-returns-in_ok-statement_changes-in-If : goal.statement_form_changes-returns-in_ok-statement_changes-in-If
statement_form_changes-returns-in_ok-statement_changes-in-If t c = grind (the_lemmas, listed, arith, common_steps)

pub statement_form_changes-returns-in_ok-expression_changes-in-Switch : goal.statement_form_changes-returns-in_ok-expression_changes-in-Switch
statement_form_changes-returns-in_ok-expression_changes-in-Switch t c = grind (the_lemmas, listed, arith, common_steps)

pub statement_form_changes-returns-in_ok-expression_changes-in-While : goal.statement_form_changes-returns-in_ok-expression_changes-in-While
statement_form_changes-returns-in_ok-expression_changes-in-While t c = grind (the_lemmas, listed, arith, common_steps)

pub statement_form_changes-returns-in_ok-statement_changes-in-Do : goal.statement_form_changes-returns-in_ok-statement_changes-in-Do
statement_form_changes-returns-in_ok-statement_changes-in-Do t c = grind (the_lemmas, listed, arith, common_steps)

pub statement_form_changes-returns-in_ok-own-in-For : goal.statement_form_changes-returns-in_ok-own-in-For
statement_form_changes-returns-in_ok-own-in-For t c = grind (the_lemmas, listed, arith, common_steps)

pub statement_form_changes-returns-in-Break : goal.statement_form_changes-returns-in-Break
statement_form_changes-returns-in-Break t c = grind (the_lemmas, listed, arith, common_steps)

pub statement_form_changes-returns-in-Break-2 : goal.statement_form_changes-returns-in-Break-2
statement_form_changes-returns-in-Break-2 t c = grind (the_lemmas, listed, arith, common_steps)

pub statement_form_changes-returns-in-Plain : goal.statement_form_changes-returns-in-Plain
statement_form_changes-returns-in-Plain t c = grind (the_lemmas, listed, arith, common_steps)

pub statements_changes-loop-x-init : goal.statements_changes-loop-x-init
statements_changes-loop-x-init t c = grind (the_lemmas, listed, arith, common_steps)

pub statements_changes-offset_bounds-list-x-index : goal.statements_changes-offset_bounds-list-x-index
statements_changes-offset_bounds-list-x-index t c = grind (the_lemmas, listed, arith, common_steps)

pub statements_changes-statement_changes-requires : goal.statements_changes-statement_changes-requires
statements_changes-statement_changes-requires t c = grind (the_lemmas, listed, arith, common_steps)

pub statements_changes-returns-in_err-statement_changes : goal.statements_changes-returns-in_err-statement_changes
statements_changes-returns-in_err-statement_changes t c = grind (the_lemmas, listed, arith, common_steps)

pub statements_changes-loop-x-smaller : goal.statements_changes-loop-x-smaller
statements_changes-loop-x-smaller t c = grind (the_lemmas, listed, arith, common_steps)

pub statements_changes-loop-x-preserved : goal.statements_changes-loop-x-preserved
statements_changes-loop-x-preserved t c = grind (the_lemmas, listed, arith, common_steps)

pub statements_changes-returns : goal.statements_changes-returns
statements_changes-returns t c = grind (the_lemmas, listed, arith, common_steps)
