use Rattle.std.proofs.Common.{List, ◌++◌, length}
use Rattle.stk_memory.specs.declared.image.Cell.{Cell}
use Rattle.stk_replay_script.specs.Fields.{AreCells}
use Rattle.stk_replay_script.proofs.cells.cells_in.Given as goal

abbrev pub invariant-loop-left : goal.invariant-loop-left
invariant-loop-left l = record {
  front : (rest : List Cell) → AreCells l.left rest → AreCells l.text (l.cells.items ++ rest);
  whole : (cs : List Cell) → AreCells l.text cs → (rest : List Cell) × AreCells l.left rest;
}

abbrev pub decreases-loop-left : goal.decreases-loop-left
decreases-loop-left l = length l.left
