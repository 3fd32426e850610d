use Rattle.std.proofs.Common.{length}
use Rattle.std.specs.Prelude.{codes}
use Rattle.stk_replay_script.specs.Scripts.{cell_text, IsCell}
use Rattle.stk_replay_script.proofs.FieldTexts.{Passed}
use Rattle.stk_replay_script.proofs.cells.cell_lines.Given as goal

abbrev pub invariant-loop-content : goal.invariant-loop-content
invariant-loop-content l = Passed (codes "byte") cell_text IsCell l.text l.left l.cells.items

abbrev pub decreases-loop-content : goal.decreases-loop-content
decreases-loop-content l = length l.left
