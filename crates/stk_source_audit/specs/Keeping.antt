-- What is kept of a source while its units are read, and of the function at hand.
use Rattle.std.specs.Prelude.{◌≡◌, ℕ, ◌≤◌, ◌^◌, true, List, length, Option, Some, None, IfSome}
use Rattle.stk_base.specs.Limits.{most_bytes}
use Rattle.stk_lex.specs.declared.cutting.Piece.{Piece}
use Rattle.stk_lex.specs.Cut.{AreSpans}
use Rattle.stk_lex.specs.Units.{AreJoined}
use Rattle.stk_ctype.specs.declared.symbol.NameEntry.{NameEntry}
use Rattle.stk_tree.specs.View.{view_unit}
use Rattle.stk_meaning.specs.Keys.{keys_of}
use Rattle.stk_type_laws.specs.Orderly.{AreOrderly}
use Rattle.stk_hits.specs.InputMaps.{bits_in}
use Rattle.stk_hits.specs.Tables.{Table}
use Rattle.stk_hits.specs.PathTables.{IsTableOf}
use Rattle.stk_audit_rules.specs.Naming.{is_next_function}
use Rattle.stk_audit.specs.Hands.{Hand, begins}
use Rattle.stk_source_audit.specs.declared.answering.FunctionAtHand.{FunctionAtHand}
use Rattle.stk_source_audit.specs.Reader.{units_read}
use Rattle.stk_source_audit.specs.Definitions.{Definition, definition_at, definition_unit, definition_typing}
use Rattle.stk_source_audit.specs.Sources.{CutSource, source_units}
use Rattle.stk_source_audit.specs.Judged.{AreListsBy, IsJudgedUnit}

-- the tokens of a source stand one behind the other, they aren't too many, and its units follow one another among them
pub record IsCutWell (s : CutSource) : Type 0 where
  pub spans : AreSpans (length s.bytes) 0 s.tokens
  pub few : length s.tokens ≤ most_bytes
  pub joined : AreJoined 0 (length s.tokens) s.pieces

-- the function at hand by its place
abbrev pub hand_in : Option FunctionAtHand → Option Hand
hand_in None = None
hand_in (Some h) = Some (record { without = h.without; at = h.at })

-- The function at hand is that of a definition of the source, which is judged and leaves these names; these are its
-- lists, and the table, where there is one, describes the path runs of all its maps.
pub record IsHand (s : CutSource) (names : List NameEntry) (hits : Option Table) (h : FunctionAtHand) : Type 0 where
  pub definition : Definition
  pub here : definition_at (source_units s) h.at ≡ Some definition
  pub same_names : definition.now ≡ names
  pub same_unit : view_unit h.unit ≡ definition_unit definition
  pub judged : IsJudgedUnit s.bytes h.without definition.now (definition_unit definition) definition.function
  pub lists : AreListsBy (definition_typing s.bytes definition) h.without definition.function (keys_of (definition_typing s.bytes definition) h.without definition.function) h.lists
  pub table : IfSome hits (IsTableOf (definition_typing s.bytes definition) h.without definition.function (2 ^ bits_in h.lists.kinds.items))

-- Of a source whose units were read up to these pieces, where these names are in force: what begins behind the function
-- at hand is among the pieces.
pub record IsKept (s : CutSource) (rest : List Piece) (names : List NameEntry) (hand : Option FunctionAtHand) (hits : Option Table) : Type 0 where
  pub cut : IsCutWell s
  pub joined : (from : ℕ) × AreJoined from (length s.tokens) rest
  pub orderly : AreOrderly names
  pub ahead : (at : ℕ) → is_next_function (begins (hand_in hand)) at ≡ true → definition_at (source_units s) at ≡ definition_at (units_read s.bytes s.tokens names rest) at
  pub at_hand : IfSome hand (IsHand s names hits)
