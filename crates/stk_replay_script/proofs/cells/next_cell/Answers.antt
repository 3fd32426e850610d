use Rattle.stk_replay_script.proofs.CellTexts.{behind_first, too_great}
use Rattle.stk_replay_script.proofs.cells.next_cell.Goals as goal

pub returns-in_err-byte : goal.returns-in_err-byte
returns-in_err-byte c =
    rw c.from_residual-in_err-byte.ensures (λ cell rest h. c.in_err-byte.ensures cell.byte rest (behind_first c.args.text.now c.in_ok-at.behind.now c.in_ok-at.at cell rest c.in_ok-at.ensures h))

pub returns-else-byte-le255 : goal.returns-else-byte-le255
returns-else-byte-le255 c cell rest h =
    too_great c.args.text.now c.in_ok-at.behind.now c.in_ok-at.at c.in_ok-byte.byte c.in_ok-byte.rest.now cell rest c.in_ok-at.ensures c.in_ok-byte.ensures c.if-byte-le255.false h
