use Rattle.std.proofs.Common.{List, sym, subst}
use Rattle.std.specs.Prelude.{codes}
use Rattle.stk_memory.specs.declared.image.Cell.{Cell}
use Rattle.stk_replay_script.specs.Scripts.{cell_text, IsCell}
use Rattle.stk_replay_script.proofs.FieldTexts.{Passed, one_passed, not_lines}
use Rattle.stk_replay_script.proofs.CellTexts.{plain_cell}
use Rattle.stk_replay_script.proofs.cells.cell_lines.Goals as goal

pub returns-in_default-cell_in : goal.returns-in_default-cell_in
returns-in_default-cell_in c =
    not_lines (codes "byte") cell_text IsCell plain_cell c.args.text.now c.loop-content.left.now c.in-Some.content.now c.in-Some.behind.now c.loop-content.cells.items c.loop-content.invariant c.in-Some.ensures
    (λ x is e. c.in_default-cell_in.ensures x (record { same = e; is = is }))

pub loop-content-preserved : goal.loop-content-preserved
loop-content-preserved c =
    let one = c.in-Some-cell_in.ensures in
    subst (λ (cs : List Cell). Passed (codes "byte") cell_text IsCell c.args.text.now c.in-Some.behind.now cs) (sym c.in_ok-push.ensures.items)
    (one_passed (codes "byte") cell_text IsCell c.args.text.now c.loop-content.left.now c.in-Some.content.now c.in-Some.behind.now c.loop-content.cells.items c.in-Some-cell_in.cell c.loop-content.invariant c.in-Some.ensures one.same one.is)
