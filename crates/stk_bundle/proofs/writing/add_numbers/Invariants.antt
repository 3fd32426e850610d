use Rattle.std.proofs.Common.{◌≡◌, ◌++◌, drop}
use Rattle.stk_bundle.specs.Numbers.{numbers_text}
use Rattle.stk_bundle.proofs.writing.add_numbers.Given as goal

abbrev pub invariant-loop-number : goal.invariant-loop-number
invariant-loop-number l = l.text.items ++ numbers_text (drop l.number-index l.numbers) ≡ l.initial.text.items ++ numbers_text l.numbers
