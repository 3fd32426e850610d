use Rattle.std.proofs.Common.{◌≡◌, ◌*◌, ◌≤◌, ◌<◌, ◌^◌, length, true}
use Rattle.std.specs.List.{list_all}
use Rattle.std.specs.Char.{is_ascii_digit}
use Rattle.stk_base.specs.Text.{decimal, decimal_behind}
use Rattle.stk_lex.proofs.markers.number.Given as goal

abbrev pub invariant-loop-b : goal.invariant-loop-b
invariant-loop-b l = record {
  same : decimal_behind l.so_far l.rest ≡ decimal l.digits;
  digits : list_all is_ascii_digit l.rest ≡ true;
  below : l.so_far < l.bound;
  bound : l.bound * 10 ^ length l.rest ≤ 1000000000;
}

abbrev pub decreases-loop-b : goal.decreases-loop-b
decreases-loop-b l = length l.rest
