use Rattle.std.proofs.Common.{◌≡◌, ◌++◌, drop}
use Rattle.stk_replay_text.specs.Text.{lines_text}
use Rattle.stk_replay_text.proofs.text.add_lines.Given as goal

abbrev pub invariant-loop-line : goal.invariant-loop-line
invariant-loop-line l = l.text.items ++ lines_text (drop l.line-index l.lines) ≡ l.initial.text.items ++ lines_text l.lines
