use Rattle.std.proofs.Common.{◌≡◌, ◌∷◌, ◌++◌, length}
use Rattle.stk_grammar.specs.Reading.{words_at}
use Rattle.stk_expr.proofs.front.words.Given as goal

abbrev pub invariant-loop-word : goal.invariant-loop-word
invariant-loop-word l = record {
  collected : l.list.items ++ (words_at l.rest).0 ≡ l.fn.first ∷ (words_at l.fn.lexemes).0;
  behind : (words_at l.rest).1 ≡ (words_at l.fn.lexemes).1;
}

abbrev pub decreases-loop-word : goal.decreases-loop-word
decreases-loop-word l = length l.rest
