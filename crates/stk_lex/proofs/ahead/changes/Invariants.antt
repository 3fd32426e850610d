use Rattle.std.proofs.Common.{◌≡◌, ◌≤◌, ◌+◌, length, drop}
use Rattle.stk_lex.specs.Ahead.{AreFound, unchanged}
use Rattle.stk_lex.proofs.ahead.changes.Given as goal

abbrev pub invariant-loop-at : goal.invariant-loop-at
invariant-loop-at l = record {
  within : l.at ≤ length l.tokens;
  last : l.last ≡ unchanged l.bytes (drop l.at l.tokens);
  size : length l.changes.items + l.at ≡ length l.tokens + 1;
  found : AreFound (unchanged l.bytes) (drop l.at l.tokens) l.changes.items;
}

abbrev pub decreases-loop-at : goal.decreases-loop-at
decreases-loop-at l = l.at
