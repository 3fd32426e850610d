-- What is known where a function was looked for among units.
use Rattle.std.specs.Prelude.{◌≡◌, ◌<◌, ◌^◌, ℕ, false, List, length, Option, Some, None}
use Rattle.stk_lex.specs.declared.token.Token.{Token}
use Rattle.stk_lex.specs.declared.cutting.Piece.{Piece}
use Rattle.stk_lex.specs.Units.{AreJoined}
use Rattle.stk_ctype.specs.declared.symbol.NameEntry.{NameEntry}
use Rattle.stk_tree.specs.View.{view_unit}
use Rattle.stk_numbers.specs.declared.conditions.Kinds.{Kinds}
use Rattle.stk_meaning.specs.Keys.{keys_of}
use Rattle.stk_type_laws.specs.Orderly.{AreOrderly}
use Rattle.stk_source_audit.specs.declared.answering.FunctionAtHand.{FunctionAtHand}
use Rattle.stk_source_audit.specs.Reader.{units_read}
use Rattle.stk_source_audit.specs.Definitions.{Definition, definition_at, definition_unit, definition_typing}
use Rattle.stk_source_audit.specs.Sources.{is_judged_one}
use Rattle.stk_source_audit.specs.Judged.{AreListsBy, IsJudgedUnit}

-- Of these pieces, where these names are in force before them, the function was taken up whose definition begins at a
-- byte: it is judged, and these are its lists.
pub record IsTaken (bytes : List ℕ) (tokens : List Token) (es : List NameEntry) (pieces : List Piece) (without : Kinds) (at : ℕ) (now : List NameEntry) (h : FunctionAtHand) : Type 0 where
  pub definition : Definition
  pub here : definition_at (units_read bytes tokens es pieces) at ≡ Some definition
  pub same_names : definition.now ≡ now
  pub same_unit : view_unit h.unit ≡ definition_unit definition
  pub same_place : h.at ≡ at
  pub near : at < 2 ^ 32
  pub same_kinds : h.without ≡ without
  pub judged : IsJudgedUnit bytes without definition.now (definition_unit definition) definition.function
  pub lists : AreListsBy (definition_typing bytes definition) without definition.function (keys_of (definition_typing bytes definition) without definition.function) h.lists

-- or none is judged that begins there
abbrev pub IsTakenOr : List ℕ → List Token → List NameEntry → List Piece → Kinds → ℕ → List NameEntry → Option FunctionAtHand → Type 0
IsTakenOr bytes tokens es pieces without at now None = is_judged_one bytes without (definition_at (units_read bytes tokens es pieces) at) ≡ false
IsTakenOr bytes tokens es pieces without at now (Some h) = IsTaken bytes tokens es pieces without at now h

-- and the definitions that begin behind it are those of the pieces that are left
pub record HasTaken (bytes : List ℕ) (tokens : List Token) (es : List NameEntry) (pieces : List Piece) (without : Kinds) (at : ℕ) (hand : Option FunctionAtHand) (now : List NameEntry) (rest : List Piece) : Type 0 where
  pub taken : IsTakenOr bytes tokens es pieces without at now hand
  pub ahead : (later : ℕ) → at < later → definition_at (units_read bytes tokens es pieces) later ≡ definition_at (units_read bytes tokens now rest) later
  pub joined : (from : ℕ) × AreJoined from (length tokens) rest
  pub orderly : AreOrderly now
