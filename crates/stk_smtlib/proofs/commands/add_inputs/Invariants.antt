use Rattle.std.proofs.Common.{◌≡◌, ◌++◌, drop}
use Rattle.stk_scripts.specs.Tokens.{declared_commands}
use Rattle.stk_scripts.specs.Texts.{lines}
use Rattle.stk_smtlib.specs.Written.{inputs_from}
use Rattle.stk_smtlib.proofs.commands.add_inputs.Given as goal

abbrev pub invariant-loop-key : goal.invariant-loop-key
invariant-loop-key l = l.text.items ++ lines (declared_commands (inputs_from l.key (drop l.key l.widths))) ≡ l.initial.text.items ++ lines (declared_commands (inputs_from 0 l.widths))
