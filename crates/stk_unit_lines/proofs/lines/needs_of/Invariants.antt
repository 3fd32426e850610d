use Rattle.std.proofs.Common.{◌≡◌, ◌++◌, map, drop}
use Rattle.stk_spelling.specs.Placed.{placed_in}
use Rattle.stk_unit_lines.specs.Lines.{needed_of}
use Rattle.stk_unit_lines.proofs.lines.needs_of.Given as goal

abbrev pub invariant-loop-need : goal.invariant-loop-need
invariant-loop-need l = l.list.items ++ map (needed_of (placed_in l.told.types.now) l.told.keys.now) (drop l.need-index l.needs) ≡ map (needed_of (placed_in l.told.types.now) l.told.keys.now) l.needs
