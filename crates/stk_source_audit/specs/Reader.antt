-- The same as a function: what units are read as follows from their tokens.
use Rattle.std.specs.Prelude.{ℕ, Bool, if◌then◌else◌, List, [], ◌∷◌, take, Option, Some, None}
use Rattle.std.specs.Option.{option_map}
use Rattle.stk_lex.specs.declared.token.Token.{Token}
use Rattle.stk_lex.specs.declared.cutting.Piece.{Piece}
use Rattle.stk_ctype.specs.declared.symbol.NameEntry.{NameEntry}
use Rattle.stk_ctype.specs.Named.{named}
use Rattle.stk_tree.specs.Syntax.{UnitTree}
use Rattle.stk_tree.specs.Layout.{unit_laid_out}
use Rattle.stk_type_rules.specs.Outcome.{Outcome, Good, Refused}
use Rattle.stk_grammar.specs.Lexemes.{lexemes_of, spans_of}
use Rattle.stk_grammar.specs.StatementReading.{unit_at}
use Rattle.stk_stmt.specs.Heads.{ended_lexemes, ended_spans, is_declaration}
use Rattle.stk_declare.specs.Declaring.{unit_declared}
use Rattle.stk_units.specs.Pieces.{tokens_of_piece, body_of_piece}
use Rattle.stk_source_audit.specs.Reading.{ReadUnit, first_byte}

-- the unit that tokens are, its nodes numbered and placed
abbrev pub tree_of : List ℕ → List NameEntry → List Token → Option UnitTree
tree_of bytes es tokens = option_map (unit_laid_out (spans_of tokens)) (unit_at (named bytes es) (lexemes_of bytes tokens))

-- the unit that tokens are where a `;` follows them
abbrev pub ended_tree_of : List ℕ → List NameEntry → List Token → Option UnitTree
ended_tree_of bytes es tokens = option_map (unit_laid_out (ended_spans (spans_of tokens))) (unit_at (named bytes es) (ended_lexemes (lexemes_of bytes tokens)))

-- the names that are in force where a unit declares these or is refused
abbrev pub names_declared : List NameEntry → Outcome (List NameEntry) → List NameEntry
names_declared es (Good now facts) = now
names_declared es (Refused n r) = es

-- the names that tokens before a body leave: what they declare as a declaration
abbrev pub head_names : List ℕ → Bool → List NameEntry → Option UnitTree → List NameEntry
head_names bytes mark es None = es
head_names bytes mark es (Some u) = if is_declaration u then names_declared es (unit_declared bytes mark es u) else es

abbrev pub names_left : List ℕ → Bool → List NameEntry → Option ℕ → List Token → List NameEntry
names_left bytes mark es None tokens = es
names_left bytes mark es (Some body) tokens = head_names bytes mark es (ended_tree_of bytes es (take body tokens))

-- a unit with this tree, by what it declares; else it leaves the other names
abbrev pub declared_unit : ℕ → List NameEntry → UnitTree → Outcome (List NameEntry) → ReadUnit
declared_unit at left u (Good now facts) = record { at = at; tree = Some u; now = now }
declared_unit at left u (Refused n r) = record { at = at; tree = None; now = left }

abbrev pub unit_by : List ℕ → Bool → List NameEntry → ℕ → List NameEntry → Option UnitTree → ReadUnit
unit_by bytes mark es at left None = record { at = at; tree = None; now = left }
unit_by bytes mark es at left (Some u) = declared_unit at left u (unit_declared bytes mark es u)

abbrev pub unit_of_tokens : List ℕ → Bool → List NameEntry → Option ℕ → List Token → ReadUnit
unit_of_tokens bytes mark es body tokens = unit_by bytes mark es (first_byte tokens) (names_left bytes mark es body tokens) (tree_of bytes es tokens)

-- the unit of a piece, and the units of pieces, where these names are in force before them
abbrev pub unit_of_piece : List ℕ → List Token → List NameEntry → Piece → ReadUnit
unit_of_piece bytes tokens es p = unit_of_tokens bytes p.no_return es (body_of_piece p) (tokens_of_piece tokens p)

unfoldable pub units_read : List ℕ → List Token → List NameEntry → List Piece → List ReadUnit
units_read bytes tokens es [] = []
units_read bytes tokens es (p ∷ ps) = unit_of_piece bytes tokens es p ∷ units_read bytes tokens (unit_of_piece bytes tokens es p).now ps
