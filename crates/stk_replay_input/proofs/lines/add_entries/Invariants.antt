use Rattle.std.proofs.Common.{◌≡◌, ◌++◌, map, drop}
use Rattle.stk_spelling.specs.Placed.{placed_in}
use Rattle.stk_replay_text.specs.Text.{lines_text}
use Rattle.stk_replay_input.specs.Lines.{entry_line}
use Rattle.stk_replay_input.proofs.lines.add_entries.Given as goal

abbrev pub invariant-loop-entry : goal.invariant-loop-entry
invariant-loop-entry l =
    let line = entry_line (placed_in l.told.types.now) in
    l.text.items ++ lines_text (map line (drop l.entry-index l.trace)) ≡ l.fn.text.items ++ lines_text (map line l.trace)
