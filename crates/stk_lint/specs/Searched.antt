-- What a search for a candidate's script finds in units.
use Rattle.std.specs.Prelude.{ℕ, ◌<◌, List, [], length, Option, Some, None}
use Rattle.std.specs.Global.{Vec}
use Rattle.stk_lex.specs.declared.token.Token.{Token}
use Rattle.stk_lex.specs.declared.cutting.Piece.{Piece}
use Rattle.stk_base.specs.Streams.{Appended, AppendedPrefix, IsFlushed}
use Rattle.stk_numbers.specs.declared.conditions.Kinds.{Kinds}
use Rattle.stk_records.specs.declared.options.AskedScript.{AskedScript}
use Rattle.stk_query_scripts.specs.Queries.{FunctionCandidate, IsNumberedScript}
use Rattle.stk_lint.specs.Candidates.{AreCandidates, IsInputScript, HasFewCandidates}

-- the script that is asked for among candidates, or nothing where there are fewer
abbrev pub IsFound : Kinds → List FunctionCandidate → AskedScript → Option (Vec ℕ) → Type 0
IsFound without all asked None = length all < asked.number
IsFound without all asked (Some text) = IsNumberedScript without all asked.number asked.set text.items

-- the same among those of units
pub record IsFoundInUnits (bytes : List ℕ) (without : Kinds) (tokens : List Token) (pieces : List Piece) (asked : AskedScript) (found : Option (Vec ℕ)) : Type 0 where
  pub all : List FunctionCandidate
  pub are : AreCandidates bytes without tokens [] pieces all
  pub is : IsFound without all asked found

-- the same of an input
abbrev pub IsFoundIn : List ℕ → Kinds → AskedScript → Option (Vec ℕ) → Type 0
IsFoundIn bytes without asked None = HasFewCandidates bytes without asked
IsFoundIn bytes without asked (Some text) = IsInputScript bytes without asked text.items

-- a sink took the script that is asked for, and was flushed
pub record TookScript (bytes : List ℕ) (without : Kinds) (asked : AskedScript) (taken_before taken_after : Option (List ℕ)) (flushed : ℕ) : Type 0 where
  pub text : List ℕ
  pub script : IsInputScript bytes without asked text
  pub written : Appended taken_before taken_after text
  pub flush : IsFlushed taken_after flushed

-- a sink took some prefix of it
pub record TookScriptPrefix (bytes : List ℕ) (without : Kinds) (asked : AskedScript) (taken_before taken_after : Option (List ℕ)) : Type 0 where
  pub text : List ℕ
  pub script : IsInputScript bytes without asked text
  pub written : AppendedPrefix taken_before taken_after text
