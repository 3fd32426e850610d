-- What is known of a unit that is read.
use Rattle.std.proofs.Common.{◌≡◌, ℕ, ◌<◌, ◌≤◌, ◌^◌, Bool, List, length, Option, ap, arith}
use Rattle.std.proofs.lemmas.List.{length-map}
use Rattle.stk_lex.specs.declared.token.Token.{Token}
use Rattle.stk_grammar.specs.Lexemes.{lexeme_of, spans_of}
use Rattle.stk_ctype.specs.declared.symbol.NameEntry.{NameEntry}
use Rattle.stk_tree.specs.Syntax.{UnitTree}
use Rattle.stk_tree.specs.Nodes.{unit_nodes}
use Rattle.stk_tree.specs.Unlaid.{unlaid_unit}
use Rattle.stk_tree.specs.View.{view_unit}
use Rattle.stk_nodes.proofs.Few.{unit_tokens-few}
use Rattle.stk_accept.specs.declared.accepting.Accepted.{Accepted}
use Rattle.stk_accept.specs.declared.accepting.Accepted.TheVariants as answers
use Rattle.stk_accept.specs.Accepting.{IsTree, IsAnswered}
use Rattle.stk_type_laws.specs.Orderly.{AreOrderly}
use Rattle.stk_units.specs.Known.{AreReadWell, WasAnswered}

few_nodes : (bytes : List ℕ) (es : List NameEntry) (tokens : List Token) (u : UnitTree) → length tokens ≤ 16777216 → IsTree bytes es tokens u → unit_nodes u < 2 ^ 32
few_nodes bytes es tokens u few tree = omega (arith, few, unit_tokens-few u tree.is.placed, length-map tokens (lexeme_of bytes), ap length tree.is.tokens)

pub read_well : (bytes : List ℕ) (mark : Bool) (es now : List NameEntry) (tokens : List Token) (body : Option ℕ) (found : Accepted) → length tokens ≤ 16777216 → IsAnswered bytes mark es tokens body found now → AreReadWell found
read_well bytes mark es now tokens body (answers.Tree unit) few h = record {
  few = few_nodes bytes es tokens (view_unit unit) few h.tree;
  laid_out = (spans_of tokens, (unlaid_unit (view_unit unit), h.tree.laid_out));
}
read_well bytes mark es now tokens body (answers.Refused cause) few h = tt

-- what accepting answers a tree for was accepted under the names before it
pub was_answered : (bytes : List ℕ) (mark : Bool) (es now : List NameEntry) (tokens : List Token) (body : Option ℕ) (found : Accepted) → AreOrderly es → IsAnswered bytes mark es tokens body found now → WasAnswered bytes tokens found now
was_answered bytes mark es now tokens body (answers.Tree unit) orderly h = record { mark = mark; before = es; orderly = orderly; accepts = h }
was_answered bytes mark es now tokens body (answers.Refused cause) orderly h = tt
