use Rattle.std.proofs.Common.{◌≡◌, map, take}
use Rattle.stk_grammar.specs.Lexemes.{lexeme_of}
use Rattle.stk_grammar.proofs.lexeme.lexemes_of.Given as goal

abbrev pub invariant-loop-token : goal.invariant-loop-token
invariant-loop-token l = l.lexemes.items ≡ map (lexeme_of l.bytes) (take l.token-index l.tokens)
