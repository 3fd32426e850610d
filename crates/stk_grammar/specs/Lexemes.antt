-- The lexeme that a token is.
use Rattle.std.specs.Prelude.{ℕ, List, Option, Some, map}
use Rattle.std.specs.List.{find}
use Rattle.std.specs.Str.{bytes_eq}
use Rattle.stk_base.specs.declared.span.Span.{Span}
use Rattle.stk_base.specs.declared.token.Class.{Class}
use Rattle.stk_base.specs.declared.token.Class.TheVariants as classes
use Rattle.stk_base.specs.Text.{text_of}
use Rattle.stk_lex.specs.declared.token.Token.{Token}
use Rattle.stk_tree.specs.declared.fixed.Fixed.{Fixed}
use Rattle.stk_tree.specs.declared.fixed.Lexeme.{Lexeme}
use Rattle.stk_tree.specs.declared.fixed.Lexeme.TheVariants as lexemes
use Rattle.stk_tree.specs.Spelling.{every, spelling_of}

-- the reserved word or punctuator with this text (C11 6.4.1, 6.4.6, and the words that GNU C adds)
unfoldable pub fixed_of : List ℕ → Option Fixed
fixed_of text = find (λ f. bytes_eq text (spelling_of f)) every

-- the lexeme of a token of this class, whose text is this word or punctuator or none of them
abbrev pub lexeme_at : Class → Span → Option Fixed → Lexeme
lexeme_at classes.Word at (Some word) = lexemes.Fixed word
lexeme_at classes.Punctuator at (Some punctuator) = lexemes.Fixed punctuator
lexeme_at class at text = lexemes.Leaf class at

-- the lexeme that a token is: a reserved word or a punctuator, or a leaf with its class and span
abbrev pub lexeme_of : List ℕ → Token → Lexeme
lexeme_of bytes t = lexeme_at t.class t.span (fixed_of (text_of bytes t.span))

-- the lexemes that tokens are
abbrev pub lexemes_of : List ℕ → List Token → List Lexeme
lexemes_of bytes tokens = map (lexeme_of bytes) tokens

-- the spans of tokens
abbrev pub spans_of : List Token → List Span
spans_of tokens = map (λ t. t.span) tokens
