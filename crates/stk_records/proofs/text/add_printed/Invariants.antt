use Rattle.std.proofs.Common.{◌≡◌, ◌++◌, drop}
use Rattle.stk_records.specs.Text.{printed}
use Rattle.stk_records.proofs.text.add_printed.Given as goal

abbrev pub invariant-loop-byte : goal.invariant-loop-byte
invariant-loop-byte l = l.text.items ++ printed (drop l.byte-index l.name) ≡ l.initial.text.items ++ printed l.name
