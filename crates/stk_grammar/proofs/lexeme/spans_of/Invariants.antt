use Rattle.std.proofs.Common.{◌≡◌, map, take}
use Rattle.stk_grammar.proofs.lexeme.spans_of.Given as goal

abbrev pub invariant-loop-token : goal.invariant-loop-token
invariant-loop-token l = l.spans.items ≡ map (λ t. t.span) (take l.token-index l.tokens)
