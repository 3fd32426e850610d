-- Laws of lawful texts: for each text and options there is one, and one alone where all input maps of its functions are
-- tried.
use Rattle.std.specs.Prelude.{◌≡◌, ℕ, ◌≤◌, List, [], ◌∷◌}
use Rattle.stk_base.specs.declared.status.Status.{Status}
use Rattle.stk_lex.specs.declared.token.Token.{Token}
use Rattle.stk_lex.specs.declared.cutting.Piece.{Piece}
use Rattle.stk_lex.specs.Cut.{IsCut}
use Rattle.stk_lex.specs.Skimming.{kept_tokens, notes_of}
use Rattle.stk_lex.specs.Units.{units_of}
use Rattle.stk_ctype.specs.declared.symbol.NameEntry.{NameEntry}
use Rattle.stk_tree.specs.declared.node.Node.{Node}
use Rattle.stk_tree.specs.Syntax.{FunctionTree, defines}
use Rattle.stk_meaning.specs.Keys.{keys_of, input_bits}
use Rattle.stk_meaning.specs.PathFindings.{most_bits}
use Rattle.stk_accept.specs.Accepting.{Accepts}
use Rattle.stk_records.specs.declared.options.Options.{Options}
use Rattle.stk_records.specs.declared.counts.Counts.{Counts}
use Rattle.stk_records.specs.declared.line.Line.{Line}
use Rattle.stk_units.specs.Functions.{unit_typing}
use Rattle.stk_lint.specs.UnitLines.{IsUnitLines}
use Rattle.stk_units.specs.Pieces.{body_of_piece, tokens_of_piece}
use Rattle.stk_lint.specs.LawfulText.{IsLawfulText}

-- for each text and options there are lawful records, with a status
abbrev pub EachTextHasLawfulRecords : Type 0
EachTextHasLawfulRecords = (bytes : List ℕ) (o : Options) → (text : List ℕ) × ((status : Status) × ((marks : ℕ) × IsLawfulText bytes o text status marks))

-- each function that is accepted among units, under the names that those before it leave, has so few input bits that
-- all its input maps are tried
abbrev pub AreNarrow : List ℕ → Options → List Token → List NameEntry → List Piece → Type 0
AreNarrow bytes o tokens es [] = Unit {0}
AreNarrow bytes o tokens es (p ∷ ps) =
    ((n : Node) (f : FunctionTree) (now : List NameEntry) → Accepts bytes p.no_return es (tokens_of_piece tokens p) (defines n f) now → input_bits (keys_of (unit_typing bytes now (defines n f)) o.without f) ≤ most_bits)
    × ((lines : List Line) (counts : Counts) (now : List NameEntry) → IsUnitLines bytes o.without o.budget p.no_return es (body_of_piece p) (tokens_of_piece tokens p) lines counts now → AreNarrow bytes o tokens now ps)

-- the same of the units of a text
abbrev pub HasNarrowFunctions : List ℕ → Options → Type 0
HasNarrowFunctions bytes o = (tokens : List Token) → IsCut bytes tokens → AreNarrow bytes o (kept_tokens bytes tokens) [] (units_of bytes (kept_tokens bytes tokens) (notes_of bytes tokens))

-- where it is so of a text, two lawful texts of records of it, under the same options, are the same, and so are their
-- statuses and marks
abbrev pub OneLawfulText : Type 0
OneLawfulText = (bytes : List ℕ) (o : Options) (text other : List ℕ) (status also : Status) (marks others : ℕ) → HasNarrowFunctions bytes o → IsLawfulText bytes o text status marks → IsLawfulText bytes o other also others → (text ≡ other) × (status ≡ also) × (marks ≡ others)
