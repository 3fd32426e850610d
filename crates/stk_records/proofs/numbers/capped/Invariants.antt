use Rattle.std.proofs.Common.{◌≡◌, ◌≤◌, min, true, drop}
use Rattle.std.specs.List.{list_all}
use Rattle.stk_base.specs.Text.{decimal, decimal_behind}
use Rattle.stk_records.specs.Words.{is_digit}
use Rattle.stk_records.proofs.numbers.capped.Given as goal

abbrev pub invariant-loop-byte : goal.invariant-loop-byte
invariant-loop-byte l = (min (decimal_behind l.number (drop l.byte-index l.text)) l.bound ≡ min (decimal l.text) l.bound) × (l.number ≤ l.bound) × (list_all is_digit (drop l.byte-index l.text) ≡ true)
