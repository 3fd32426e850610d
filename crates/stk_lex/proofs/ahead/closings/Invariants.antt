use Rattle.std.proofs.Common.{◌≡◌, ◌≤◌, ◌+◌, length, drop}
use Rattle.stk_lex.specs.Skimming.{closing}
use Rattle.stk_lex.specs.Ahead.{AreFound}
use Rattle.stk_lex.proofs.ahead.closings.Given as goal

abbrev pub invariant-loop-at : goal.invariant-loop-at
invariant-loop-at l = record {
  within : l.at ≤ length l.tokens;
  size : length l.ends.items + l.at ≡ length l.tokens + 1;
  found : AreFound (closing l.bytes 1) (drop l.at l.tokens) l.ends.items;
}

abbrev pub decreases-loop-at : goal.decreases-loop-at
decreases-loop-at l = l.at
