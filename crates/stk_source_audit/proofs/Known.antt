-- What is known of a unit that was read.
use Rattle.std.proofs.Common.{◌≡◌, ℕ, ◌-◌, ◌<◌, ◌≤◌, ◌^◌, Bool, false, List, length, drop, Option, Some, None, ap, arith}
use Rattle.std.specs.Prelude.{IfSome}
use Rattle.std.proofs.lemmas.List.{length-map, length-take, length-drop}
use Rattle.stk_lex.specs.declared.token.Token.{Token}
use Rattle.stk_lex.specs.declared.cutting.Piece.{Piece}
use Rattle.stk_ctype.specs.declared.symbol.NameEntry.{NameEntry}
use Rattle.stk_grammar.specs.Lexemes.{lexeme_of, spans_of}
use Rattle.stk_tree.specs.Syntax.{UnitTree, FunctionTree}
use Rattle.stk_tree.specs.Nodes.{unit_nodes}
use Rattle.stk_tree.specs.Unlaid.{unlaid_unit}
use Rattle.stk_nodes.proofs.Few.{unit_tokens-few}
use Rattle.stk_numbers.specs.declared.conditions.Kinds.{Kinds}
use Rattle.stk_type_laws.specs.Orderly.{AreOrderly}
use Rattle.stk_type_laws.proofs.Kept.{units_keep_order}
use Rattle.stk_accept.specs.Accepting.{IsTree}
use Rattle.stk_units.specs.Pieces.{tokens_of_piece}
use Rattle.stk_units.specs.Functions.{IsDefinition}
use Rattle.stk_units.specs.Causes.{body_cause}
use Rattle.stk_units.specs.Outcomes.{refusing}
use Rattle.stk_units.proofs.Typed.{orderly_behind, typed_well_of}
use Rattle.stk_source_audit.specs.Reading.{IsReadAs}
use Rattle.stk_source_audit.specs.Finding.{IsKnownUnit}
use Rattle.stk_source_audit.specs.Judged.{IsJudgedUnit}

no_kinds : Kinds
no_kinds = record { overflow = false; zero = false; shift = false; null = false; pointer = false; bounds = false; abs = false; copy = false }

-- the tokens of a unit aren't more than those of its file
pub few_of_piece : (tokens : List Token) (p : Piece) → length tokens ≤ 16777216 → length (tokens_of_piece tokens p) ≤ 16777216
few_of_piece tokens p few = omega (arith, few, length-take (p.to - p.from) (drop p.from tokens), length-drop p.from tokens)

few_nodes : (bytes : List ℕ) (es : List NameEntry) (tokens : List Token) (u : UnitTree) → length tokens ≤ 16777216 → IsTree bytes es tokens u → unit_nodes u < 2 ^ 32
few_nodes bytes es tokens u few tree = omega (arith, few, unit_tokens-few u tree.is.placed, length-map tokens (lexeme_of bytes), ap length tree.is.tokens)

module _ (bytes : List ℕ) (mark : Bool) (es : List NameEntry) (body : Option ℕ) (tokens : List Token) where
  -- units leave orderly names
  pub orderly_read : (tree : Option UnitTree) (now : List NameEntry) → AreOrderly es → IsReadAs bytes mark es body tokens tree now → AreOrderly now
  orderly_read (Some u) now orderly h = units_keep_order.next bytes mark es now h.facts u h.declared orderly
  orderly_read None now orderly h = orderly_behind bytes no_kinds mark es now body tokens _ orderly (refusing h.0 h.1)

  pub known_read : (tree : Option UnitTree) (now : List NameEntry) → length tokens ≤ 16777216 → AreOrderly es → IsReadAs bytes mark es body tokens tree now → IfSome tree (λ u. IsKnownUnit bytes u now)
  known_read (Some u) now few orderly h = record {
    tokens = tokens;
    accepted = record { mark = mark; before = es; orderly = orderly; accepts = h };
    read = record { few = few_nodes bytes es tokens u few h.tree; laid_out = (spans_of tokens, (unlaid_unit u, h.tree.laid_out)) };
  }
  known_read None now few orderly h = tt

-- a function without a cause is judged
pub judged_unit : (bytes : List ℕ) (without : Kinds) (now : List NameEntry) (u : UnitTree) (f : FunctionTree) → IsKnownUnit bytes u now → IsDefinition u f → body_cause bytes without now u ≡ None → IsJudgedUnit bytes without now u f
judged_unit bytes without now u f k d none = record { is = d; read = k.read; typed = typed_well_of bytes without k.tokens u now f d k.accepted; judged = none }
