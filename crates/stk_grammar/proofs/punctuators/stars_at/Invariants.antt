use Rattle.std.proofs.Common.{◌≡◌, ◌+◌, ◌≤◌, length}
use Rattle.stk_grammar.specs.Reading.{stars_at}
use Rattle.stk_grammar.proofs.punctuators.stars_at.Given as goal

abbrev pub invariant-loop-behind : goal.invariant-loop-behind
invariant-loop-behind l = record {
  same : stars_at l.stars l.rest ≡ stars_at 0 l.fn.lexemes;
  few : l.stars + length l.rest ≤ length l.fn.lexemes;
}

abbrev pub decreases-loop-behind : goal.decreases-loop-behind
decreases-loop-behind l = length l.rest
