use Rattle.std.proofs.Common.{◌≡◌, ◌-◌, ◌≤◌, ◌++◌, List, length}
use Rattle.stk_lex.specs.declared.token.Token.{Token}
use Rattle.stk_lex.specs.Gaps.{gap}
use Rattle.stk_lex.specs.Cut.{IsCutFrom}
use Rattle.stk_lex.proofs.lexing.lex.Given as goal

abbrev pub invariant-loop-at : goal.invariant-loop-at
invariant-loop-at l = record {
  within : l.at ≤ length l.bytes;
  no_gap : gap l.bytes l.at ≡ 0;
  cut : (ts : List Token) → IsCutFrom l.bytes l.at ts → IsCutFrom l.bytes 0 (l.tokens.items ++ ts);
}

abbrev pub decreases-loop-at : goal.decreases-loop-at
decreases-loop-at l = length l.bytes - l.at
