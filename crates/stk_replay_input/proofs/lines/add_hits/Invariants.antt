use Rattle.std.proofs.Common.{◌≡◌, ◌++◌, map, drop}
use Rattle.stk_tree.specs.View.{view_function}
use Rattle.stk_function_types.specs.Nodes.{typing_in}
use Rattle.stk_spelling.specs.Placed.{placed_in}
use Rattle.stk_replay_text.specs.Text.{lines_text}
use Rattle.stk_replay_input.specs.Lines.{hit_line, candidates_at}
use Rattle.stk_replay_input.proofs.lines.add_hits.Given as goal

abbrev pub invariant-loop-at : goal.invariant-loop-at
invariant-loop-at l =
    let line = hit_line (placed_in l.told.types.now) (typing_in l.told.types.now) (view_function l.told.function.now) in
    l.text.items ++ lines_text (map line (candidates_at l.list (drop l.at-index l.hits))) ≡ l.fn.text.items ++ lines_text (map line (candidates_at l.list l.hits))
