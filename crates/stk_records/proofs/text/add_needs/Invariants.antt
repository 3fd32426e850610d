use Rattle.std.proofs.Common.{◌≡◌, ◌++◌, drop}
use Rattle.stk_records.specs.Text.{needs_text}
use Rattle.stk_records.proofs.text.add_needs.Given as goal

abbrev pub invariant-loop-needed : goal.invariant-loop-needed
invariant-loop-needed l = l.text.items ++ needs_text (drop l.needed-index l.needs) ≡ l.initial.text.items ++ needs_text l.needs
