use Rattle.std.proofs.Common.{arith}
use Rattle.stk_replay_script.proofs.CellTexts.{none_behind}
use Rattle.stk_replay_script.proofs.cells.cell_in.Goals as goal

pub returns-else-is_empty : goal.returns-else-is_empty
returns-else-is_empty c cell h =
    let none = none_behind c.args.text.now c.in_ok-cell.cell cell c.in_ok-cell.behind.now c.in_ok-cell.ensures h in
    grind (arith, none, c.is_empty.ensures, c.if-is_empty.false)
