use Rattle.std.proofs.Common.{◌≡◌, ◌++◌, drop}
use Rattle.stk_records.specs.Text.{inputs_of}
use Rattle.stk_unit_lines.proofs.lines.inputs_of.Given as goal

abbrev pub invariant-loop-text : goal.invariant-loop-text
invariant-loop-text l = l.list.items ++ inputs_of (drop l.text-index l.keys) l.rest ≡ inputs_of l.keys l.numbers
