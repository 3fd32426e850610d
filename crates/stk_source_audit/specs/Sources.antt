-- A source, as audits speak of it.
use Rattle.std.specs.Prelude.{ℕ, Bool, false, List, [], length, Option, Some, None}
use Rattle.stk_lex.specs.declared.token.Token.{Token}
use Rattle.stk_lex.specs.declared.cutting.Piece.{Piece}
use Rattle.stk_numbers.specs.declared.conditions.Kinds.{Kinds}
use Rattle.stk_audit_rules.specs.Worlds.{World, AuditedFunction}
use Rattle.stk_audit.specs.Hands.{Hand}
use Rattle.stk_source_audit.specs.Reading.{ReadUnit}
use Rattle.stk_source_audit.specs.Reader.{units_read}
use Rattle.stk_source_audit.specs.Definitions.{Definition, definition_at, definition_typing, is_judged}
use Rattle.stk_source_audit.specs.Functions.{audited_function, no_function}

-- whether there is a function that is judged, and that function
abbrev pub is_judged_one : List ℕ → Kinds → Option Definition → Bool
is_judged_one bytes without None = false
is_judged_one bytes without (Some d) = is_judged bytes without d

abbrev pub judged_one : List ℕ → Kinds → Option Definition → AuditedFunction
judged_one bytes without None = no_function
judged_one bytes without (Some d) = audited_function (definition_typing bytes d) without d.function

-- a source of these bytes whose units are read so
abbrev pub world_of : List ℕ → List ReadUnit → World
world_of bytes units = record {
  length = length bytes;
  is_function = λ without at. is_judged_one bytes without (definition_at units at);
  function = λ without at. judged_one bytes without (definition_at units at);
}

-- the bytes of a source, the tokens of it that skimming keeps, and its units among these
pub record CutSource : Type 0 where
  pub bytes : List ℕ
  pub tokens : List Token
  pub pieces : List Piece

abbrev pub source_units : CutSource → List ReadUnit
source_units s = units_read s.bytes s.tokens [] s.pieces

abbrev pub source_world : CutSource → World
source_world s = world_of s.bytes (source_units s)

-- a source, and the function of it that is at hand
pub record SourceAtHand : Type 0 where
  pub source : CutSource
  pub hand : Option Hand
