use Rattle.std.proofs.Common.{◌≡◌, true, ◌<◌, ◌^◌, length}
use Rattle.std.specs.List.{list_all}
use Rattle.stk_scripts.specs.Texts.{is_digit}
use Rattle.stk_base.specs.Text.{decimal, decimal_behind}
use Rattle.stk_script_trees.proofs.numerals.number.Given as goal

abbrev pub invariant-loop-b : goal.invariant-loop-b
invariant-loop-b l = record {
  digits : list_all is_digit l.rest ≡ true;
  within : l.number < 2 ^ 128;
  value : decimal_behind l.number l.rest ≡ decimal l.fn.text;
}

abbrev pub decreases-loop-b : goal.decreases-loop-b
decreases-loop-b l = length l.rest
