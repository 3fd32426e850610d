use Rattle.std.proofs.Common.{◌≡◌, ◌++◌, drop}
use Rattle.stk_records.specs.Text.{more_inputs}
use Rattle.stk_records.proofs.text.add_more_inputs.Given as goal

abbrev pub invariant-loop-input : goal.invariant-loop-input
invariant-loop-input l = l.text.items ++ more_inputs (drop l.input-index l.inputs) ≡ l.initial.text.items ++ more_inputs l.inputs
