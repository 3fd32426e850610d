-- How the search for the definition that a script names goes on, and what is answered to the script.
use Rattle.std.specs.Prelude.{◌≡◌, ℕ, Bool, List, [], Option, Some, None, Result, Ok, Err, OnOk}
use Rattle.std.specs.Global.{Vec}
use Rattle.stk_lex.specs.declared.token.Token.{Token}
use Rattle.stk_lex.specs.declared.cutting.Piece.{Piece}
use Rattle.stk_ctype.specs.declared.symbol.NameEntry.{NameEntry}
use Rattle.stk_meaning.specs.Keys.{head_of}
use Rattle.stk_records.specs.Kinds.{no_kinds}
use Rattle.stk_units.specs.Visiting.{LeavingOut, Judging, IsUntouched}
use Rattle.stk_units.specs.Outcomes.{UnitOutcome, no_function, left_out, is_judged, IsOutcome}
use Rattle.stk_spelling.specs.Claims.{declarator_name}
use Rattle.stk_replay_script.specs.declared.script.Script.{Script}
use Rattle.stk_replay_input.specs.declared.definitions.FunctionSearch.{FunctionSearch}
use Rattle.stk_replay_input.specs.declared.unreplayed.Unreplayed.{Unreplayed}
use Rattle.stk_replay_input.specs.declared.unreplayed.Unreplayed.TheVariants.{BadScript, TooLong, NoMemory}
use Rattle.stk_replay_input.specs.Named.{FunctionAtHand, AnswersScript}
use Rattle.stk_replay_input.specs.Definitions.{Definition, unit_function, at_hand, IsFirstOf, IsDefinitionIn}
use Rattle.stk_replay_input.specs.Replays.{IsReplayText, HasBadScript, HasLongRun}

-- what a search has: the answer to its script, or nothing yet
abbrev pub SearchAnswer : Type 0
SearchAnswer = Option (Result (Vec ℕ) Unreplayed)

-- the answer behind all units: where none defines a function of the name, the script names no execution
abbrev pub answer_in : SearchAnswer → Result (Vec ℕ) Unreplayed
answer_in None = Err BadScript
answer_in (Some answer) = answer

-- behind a function: the script is answered where this has the name
abbrev pub KnowsFunction : FunctionAtHand → Script → SearchAnswer → Type 0
KnowsFunction f script None = declarator_name f.placed.bytes (head_of f.tree) ≡ script.function → ⊥
KnowsFunction f script (Some answer) = (declarator_name f.placed.bytes (head_of f.tree) ≡ script.function) × AnswersScript f script answer

-- behind a unit of which this becomes, and which leaves these names in force
abbrev pub KnowsUnit : List ℕ → List NameEntry → UnitOutcome → Script → SearchAnswer → Type 0
KnowsUnit bytes now no_function script answer = answer ≡ None
KnowsUnit bytes now (left_out cause) script answer = answer ≡ None
KnowsUnit bytes now (is_judged node f) script answer = KnowsFunction (at_hand bytes (record { names = now; node = node; function = f })) script answer

-- a search went on over a function
pub record HasSearched (f : FunctionAtHand) (search later : FunctionSearch) : Type 0 where
  pub script : later.script.now ≡ search.script.now
  pub knows : KnowsFunction f search.script.now later.answer

-- a unit that is left out changes nothing
abbrev pub LeavesSearch : LeavingOut FunctionSearch (Unit {0}) (Unit {0})
LeavesSearch = λ bytes tokens cause r v w o p a b. (r ≡ Ok tt) × IsUntouched v w o p a b

-- at a function that is judged the search goes on over it
abbrev pub JudgesSearch : Judging FunctionSearch (Unit {0}) (Unit {0})
JudgesSearch = λ bytes without now tokens u f r v w o p a b. OnOk r (HasSearched (unit_function bytes without now u f) v w)

-- a search that had nothing yet went on over a unit, which leaves these names
pub record HasSearchedUnit (bytes : List ℕ) (mark : Bool) (es : List NameEntry) (body : Option ℕ) (tokens : List Token) (now : List NameEntry) (search later : FunctionSearch) : Type 0 where
  pub outcome : UnitOutcome
  pub is : IsOutcome bytes no_kinds mark es body tokens outcome now
  pub script : later.script.now ≡ search.script.now
  pub knows : KnowsUnit bytes now outcome search.script.now later.answer

-- What is answered to a script of units: what its execution of the first accepted definition of the name gives; where
-- none of them has the name, that it names no execution; and memory may run out.
pub data AnswersUnits (bytes : List ℕ) (tokens : List Token) (pieces : List Piece) (script : Script) : Result (Vec ℕ) Unreplayed → Type 0 where
  answered : {r : Result (Vec ℕ) Unreplayed} (d : Definition) → IsFirstOf bytes script.function tokens [] pieces d → AnswersScript (at_hand bytes d) script r → AnswersUnits bytes tokens pieces script r
  undefined : ((d : Definition) → IsFirstOf bytes script.function tokens [] pieces d → ⊥) → AnswersUnits bytes tokens pieces script (Err BadScript)
  out_of_memory : AnswersUnits bytes tokens pieces script (Err NoMemory)

-- the same of a source
pub data AnswersSource (source : List ℕ) (script : Script) : Result (Vec ℕ) Unreplayed → Type 0 where
  defined : {r : Result (Vec ℕ) Unreplayed} (d : Definition) → IsDefinitionIn source script.function d → AnswersScript (at_hand source d) script r → AnswersSource source script r
  not_defined : ((d : Definition) → IsDefinitionIn source script.function d → ⊥) → AnswersSource source script (Err BadScript)
  no_memory : AnswersSource source script (Err NoMemory)

-- the same of an input
abbrev pub AnswersInput : List ℕ → Result (Vec ℕ) Unreplayed → Type 0
AnswersInput bytes (Ok text) = IsReplayText bytes text.items
AnswersInput bytes (Err BadScript) = HasBadScript bytes
AnswersInput bytes (Err TooLong) = HasLongRun bytes
AnswersInput bytes (Err NoMemory) = Unit {0}
