use Rattle.std.proofs.Common.{◌≡◌, ◌∷◌, ◌++◌, length}
use Rattle.stk_grammar.specs.Reading.{texts_at}
use Rattle.stk_expr.proofs.front.texts.Given as goal

abbrev pub invariant-loop-part : goal.invariant-loop-part
invariant-loop-part l = record {
  collected : l.parts.items ++ (texts_at l.rest).0 ≡ l.fn.first ∷ (texts_at l.fn.lexemes).0;
  behind : (texts_at l.rest).1 ≡ (texts_at l.fn.lexemes).1;
}

abbrev pub decreases-loop-part : goal.decreases-loop-part
decreases-loop-part l = length l.rest
