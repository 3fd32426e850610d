use Rattle.std.proofs.Common.{◌≡◌, ◌≤◌, min, true, drop}
use Rattle.std.specs.List.{list_all}
use Rattle.stk_base.specs.Text.{decimal, decimal_behind}
use Rattle.stk_proofs.specs.Numbers.{is_digit}
use Rattle.stk_proofs.proofs.numbers.value_of.Given as goal

abbrev pub invariant-loop-byte : goal.invariant-loop-byte
invariant-loop-byte l = (min (decimal_behind l.number (drop l.byte-index l.text)) 2147483648 ≡ min (decimal l.text) 2147483648) × (l.number ≤ 2147483648) × (list_all is_digit (drop l.byte-index l.text) ≡ true)
