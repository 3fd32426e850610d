use Rattle.std.proofs.Common.{◌≡◌, ◌++◌, take, drop}
use Rattle.stk_numbers.specs.Digits.{leading, behind}
use Rattle.stk_numbers.proofs.digits.count_digits.Given as goal

abbrev pub invariant-loop-i : goal.invariant-loop-i
invariant-loop-i l = record {
  digits : leading l.base l.text ≡ take l.i l.text ++ leading l.base (drop l.i l.text);
  rest : behind l.base l.text ≡ behind l.base (drop l.i l.text);
}
