-- What a unit that was read is, before its nodes are laid out and after.
use Rattle.std.proofs.Common.{◌≡◌, ◌≤◌, ◌<◌, ◌+◌, ◌*◌, ◌^◌, ℕ, Bool, List, length, map, Some, sym, ap, ◌∙◌, arith}
use Rattle.std.proofs.lemmas.List.{length-map}
use Rattle.stk_base.specs.declared.span.Span.{Span}
use Rattle.stk_lex.specs.declared.token.Token.{Token}
use Rattle.stk_tree.specs.declared.fixed.Lexeme.{Lexeme}
use Rattle.stk_tree.specs.Syntax.{UnitTree}
use Rattle.stk_tree.specs.Layout.{unit_laid_out}
use Rattle.stk_tree.specs.Nodes.{unit_nodes}
use Rattle.stk_tree.specs.Tokens.{unit_tokens}
use Rattle.stk_nodes.proofs.Few.{unit_tokens-few}
use Rattle.stk_grammar.specs.Lexemes.{lexeme_of, lexemes_of, spans_of}
use Rattle.stk_tree.specs.Unlaid.{unlaid_unit}
use Rattle.stk_grammar.specs.StatementReading.{unit_at}
use Rattle.stk_grammar.specs.Units.{IsUnit}
use Rattle.stk_grammar.proofs.LaidUnits.{laid_unlaid_unit, laid_is_unit}
use Rattle.stk_grammar.proofs.StatementLaws.{found_unlaid, unit_of_found}

-- each token has a span
pub one_span_each : (named : Span → Bool) (bytes : List ℕ) (tokens : List Token) (u : UnitTree) → unit_at named (lexemes_of bytes tokens) ≡ Some u → length (spans_of tokens) ≡ length (unit_tokens u)
one_span_each named bytes tokens u e =
    let is = unit_of_found named (lexemes_of bytes tokens) u e in
    length-map tokens (λ t. t.span) ∙ sym (length-map tokens (lexeme_of bytes)) ∙ ap length is.tokens

-- a unit has few nodes
pub few_nodes : (named : Span → Bool) (bytes : List ℕ) (tokens : List Token) (u : UnitTree) → length tokens ≤ 16777216 → unit_at named (lexemes_of bytes tokens) ≡ Some u → unit_nodes u < 2 ^ 32
few_nodes named bytes tokens u few e =
    let is = unit_of_found named (lexemes_of bytes tokens) u e in
    omega (arith, few, unit_tokens-few u is.placed, length-map tokens (lexeme_of bytes), ap length is.tokens)

-- laid out, it is still the unit of its tokens
pub laid_found : (named : Span → Bool) (ts : List Lexeme) (spans : List Span) (u x : UnitTree) → unit_at named ts ≡ Some u → x ≡ unit_laid_out spans u → IsUnit named ts x
laid_found named ts spans u x e q = rw q (laid_is_unit named ts spans u (unit_of_found named ts u e))

pub laid_places : (named : Span → Bool) (ts : List Lexeme) (spans : List Span) (u x : UnitTree) → unit_at named ts ≡ Some u → x ≡ unit_laid_out spans u → x ≡ unit_laid_out spans (unlaid_unit x)
laid_places named ts spans u x e q = laid_unlaid_unit spans u x (found_unlaid named ts u e) q
