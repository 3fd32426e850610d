-- The first accepted definition of a name.
use Rattle.std.specs.Prelude.{◌≡◌, ℕ, List, [], ◌∷◌}
use Rattle.stk_lex.specs.declared.token.Token.{Token}
use Rattle.stk_lex.specs.declared.cutting.Piece.{Piece}
use Rattle.stk_lex.specs.Cut.{IsCut}
use Rattle.stk_lex.specs.Skimming.{kept_tokens, notes_of}
use Rattle.stk_lex.specs.Units.{units_of}
use Rattle.stk_ctype.specs.declared.symbol.NameEntry.{NameEntry}
use Rattle.stk_tree.specs.declared.node.Node.{Node}
use Rattle.stk_tree.specs.Syntax.{UnitTree, FunctionTree, defines}
use Rattle.stk_nodes.specs.Rows.{unit_row}
use Rattle.stk_numbers.specs.declared.conditions.Kinds.{Kinds}
use Rattle.stk_meaning.specs.Keys.{head_of}
use Rattle.stk_records.specs.Kinds.{no_kinds}
use Rattle.stk_units.specs.Functions.{unit_typing}
use Rattle.stk_units.specs.Outcomes.{UnitOutcome, no_function, left_out, is_judged, IsOutcome}
use Rattle.stk_units.specs.Pieces.{tokens_of_piece, body_of_piece}
use Rattle.stk_spelling.specs.Claims.{declarator_name}
use Rattle.stk_replay_input.specs.Named.{FunctionAtHand}

-- a function definition, by the names that are in force in it, its node and its tree
pub record Definition : Type 0 where
  pub names : List NameEntry
  pub node : Node
  pub function : FunctionTree

-- the function of a unit under these names in force, at hand, with these kinds of conditions taken out
abbrev pub unit_function : List ℕ → Kinds → List NameEntry → UnitTree → FunctionTree → FunctionAtHand
unit_function bytes without now u f = record {
  placed = record { bytes = bytes; nodes = unit_row u };
  typing = unit_typing bytes now u;
  without = without;
  tree = f;
}

-- a definition in a source, at hand, with the kinds of conditions of the whole table
abbrev pub at_hand : List ℕ → Definition → FunctionAtHand
at_hand source d = unit_function source no_kinds d.names (defines d.node d.function) d.function

-- the name of the function that a unit of this outcome defines is another one, or it defines none
abbrev pub HasOtherName : List ℕ → List ℕ → UnitOutcome → Type 0
HasOtherName bytes name no_function = Unit {0}
HasOtherName bytes name (left_out cause) = Unit {0}
HasOtherName bytes name (is_judged node f) = declarator_name bytes (head_of f) ≡ name → ⊥

-- The first accepted definition of a name among units, which stand one after the other, each under the names that those
-- before it leave; the kinds of conditions are those of the whole table.
pub data IsFirstOf (bytes name : List ℕ) (tokens : List Token) : List NameEntry → List Piece → Definition → Type 0 where
  found : {es now : List NameEntry} {p : Piece} {ps : List Piece} (node : Node) (f : FunctionTree) → IsOutcome bytes no_kinds p.no_return es (body_of_piece p) (tokens_of_piece tokens p) (is_judged node f) now
      → declarator_name bytes (head_of f) ≡ name → IsFirstOf bytes name tokens es (p ∷ ps) (record { names = now; node = node; function = f })
  behind : {es now : List NameEntry} {p : Piece} {ps : List Piece} {d : Definition} (outcome : UnitOutcome) → IsOutcome bytes no_kinds p.no_return es (body_of_piece p) (tokens_of_piece tokens p) outcome now
      → HasOtherName bytes name outcome → IsFirstOf bytes name tokens now ps d → IsFirstOf bytes name tokens es (p ∷ ps) d

-- the first accepted definition of a name in a source
pub record IsDefinitionIn (source name : List ℕ) (d : Definition) : Type 0 where
  pub tokens : List Token
  pub cut : IsCut source tokens
  pub first : IsFirstOf source name (kept_tokens source tokens) [] (units_of source (kept_tokens source tokens) (notes_of source tokens)) d
