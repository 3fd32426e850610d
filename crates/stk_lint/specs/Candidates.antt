-- The candidates of an input, in the order of their records, and the script of one of them.
use Rattle.std.specs.Prelude.{◌≡◌, ℕ, ◌<◌, List, [], ◌∷◌, ◌++◌, length, Option, Some}
use Rattle.stk_lex.specs.declared.token.Token.{Token}
use Rattle.stk_lex.specs.Cut.{IsCut}
use Rattle.stk_lex.specs.declared.cutting.Piece.{Piece}
use Rattle.stk_lex.specs.Skimming.{kept_tokens, notes_of}
use Rattle.stk_lex.specs.Units.{units_of}
use Rattle.stk_ctype.specs.declared.symbol.NameEntry.{NameEntry}
use Rattle.stk_numbers.specs.declared.conditions.Kinds.{Kinds}
use Rattle.stk_records.specs.declared.options.AskedScript.{AskedScript}
use Rattle.stk_units.specs.Outcomes.{UnitOutcome, IsOutcome}
use Rattle.stk_query_scripts.specs.Queries.{FunctionCandidate, outcome_candidates, IsNumberedScript}
use Rattle.stk_units.specs.Pieces.{tokens_of_piece, body_of_piece}

-- the candidates of units, one after the other, each under the names that those before it leave: those of the functions
-- that are judged, clear ones included
pub data AreCandidates (bytes : List ℕ) (without : Kinds) (tokens : List Token) : List NameEntry → List Piece → List FunctionCandidate → Type 0 where
  of_no_unit : {es : List NameEntry} → AreCandidates bytes without tokens es [] []
  of_unit : {es now : List NameEntry} {p : Piece} {ps : List Piece} {others : List FunctionCandidate} (x : UnitOutcome) → IsOutcome bytes without p.no_return es (body_of_piece p) (tokens_of_piece tokens p) x now
      → AreCandidates bytes without tokens now ps others → AreCandidates bytes without tokens es (p ∷ ps) (outcome_candidates bytes now x ++ others)

-- the candidates of an input
pub record AreInputCandidates (bytes : List ℕ) (without : Kinds) (all : List FunctionCandidate) : Type 0 where
  pub tokens : List Token
  pub cut : IsCut bytes tokens
  pub are : AreCandidates bytes without (kept_tokens bytes tokens) [] (units_of bytes (kept_tokens bytes tokens) (notes_of bytes tokens)) all

-- a text is the script that is asked for of an input
pub record IsInputScript (bytes : List ℕ) (without : Kinds) (asked : AskedScript) (text : List ℕ) : Type 0 where
  pub all : List FunctionCandidate
  pub candidates : AreInputCandidates bytes without all
  pub script : IsNumberedScript without all asked.number asked.set text

-- an input has fewer candidates than are asked for
pub record HasFewCandidates (bytes : List ℕ) (without : Kinds) (asked : AskedScript) : Type 0 where
  pub all : List FunctionCandidate
  pub candidates : AreInputCandidates bytes without all
  pub few : length all < asked.number
