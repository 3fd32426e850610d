use Rattle.std.proofs.Common.{◌≡◌, ◌++◌}
use Rattle.stk_smtlib.proofs.Lines.{part_lines}
use Rattle.stk_smtlib.proofs.commands.add_definitions.Given as goal

abbrev pub invariant-loop-place : goal.invariant-loop-place
invariant-loop-place l = l.text.items ++ part_lines l.terms l.fn.goal.0 l.place ≡ l.initial.text.items ++ part_lines l.terms l.fn.goal.0 0
