-- What a visitor of units does. It has a state of its own, and two others that it is handed: where it writes, and whom
-- it asks. What it does with a unit is a relation of its answer and of these states before and behind.
use Rattle.std.specs.Prelude.{◌≡◌, ◌⊎◌, ℕ, Bool, List, Option, Some, None, Result, Ok, Err}
use Rattle.stk_lex.specs.declared.token.Token.{Token}
use Rattle.stk_ctype.specs.declared.symbol.NameEntry.{NameEntry}
use Rattle.stk_tree.specs.Syntax.{UnitTree, FunctionTree, defines}
use Rattle.stk_numbers.specs.declared.conditions.Kinds.{Kinds}
use Rattle.stk_nodes.specs.Rows.{unit_row}
use Rattle.stk_accept.specs.Accepting.{beginning}
use Rattle.stk_typed.specs.declared.untyped.Untyped.{Untyped}
use Rattle.stk_typed.specs.declared.untyped.Untyped.TheVariants as untyped
use Rattle.stk_records.specs.declared.line.Cause.{Cause}
use Rattle.stk_records.specs.declared.line.Cause.TheVariants.{Rule, Nodes}
use Rattle.stk_records.specs.declared.writing.Stop.{Stop}
use Rattle.stk_records.specs.declared.writing.Stop.TheVariants as stops
use Rattle.stk_units.specs.Spots.{spot_at}
use Rattle.stk_units.specs.Outcomes.{UnitOutcome, no_function, left_out, is_judged, IsOutcome}

-- what is done with a unit of these tokens of an input that is left out for this cause
abbrev pub LeavingOut : Type 0 → Type 0 → Type 0 → Type 1
LeavingOut V O A = List ℕ → List Token → Cause → Result (Unit {0}) Stop → V → V → O → O → A → A → Type 0

-- what is done with a function that is judged, with these kinds of conditions taken out and these names in force, of
-- the unit of these tokens
abbrev pub Judging : Type 0 → Type 0 → Type 0 → Type 1
Judging V O A = List ℕ → Kinds → List NameEntry → List Token → UnitTree → FunctionTree → Result (Unit {0}) Stop → V → V → O → O → A → A → Type 0

-- nothing was done
pub record IsUntouched {V O A : Type 0} (v w : V) (o p : O) (a b : A) : Type 0 where
  pub visitor : w ≡ v
  pub out : p ≡ o
  pub asked : b ≡ a

-- memory was wanting before anything was done
pub record HasStoppedBefore {V O A : Type 0} (r : Result (Unit {0}) Stop) (v w : V) (o p : O) (a b : A) : Type 0 where
  pub answer : r ≡ Err stops.NoMemory
  pub untouched : IsUntouched v w o p a b

-- a function is left out where it has a cause, and judged where it has none
abbrev pub HasDoneBy : {V O A : Type 0} → LeavingOut V O A → Judging V O A → List ℕ → Kinds → List NameEntry → List Token → UnitTree → FunctionTree → Option Cause → Result (Unit {0}) Stop → V → V → O → O → A → A → Type 0
HasDoneBy Leaves Judges bytes without now tokens u f (Some cause) r v w o p a b = Leaves bytes tokens cause r v w o p a b
HasDoneBy Leaves Judges bytes without now tokens u f None r v w o p a b = Judges bytes without now tokens u f r v w o p a b

abbrev pub HasVisitedFunction : {V O A : Type 0} → LeavingOut V O A → Judging V O A → List ℕ → Kinds → List NameEntry → List Token → UnitTree → FunctionTree → Option Cause → Result (Unit {0}) Stop → V → V → O → O → A → A → Type 0
HasVisitedFunction Leaves Judges bytes without now tokens u f cause r v w o p a b = HasStoppedBefore r v w o p a b ⊎ HasDoneBy Leaves Judges bytes without now tokens u f cause r v w o p a b

-- a function whose body isn't typed is left out for that
abbrev pub HasLeftUntyped : {V O A : Type 0} → LeavingOut V O A → List ℕ → List Token → UnitTree → Untyped → Result (Unit {0}) Stop → V → V → O → O → A → A → Type 0
HasLeftUntyped Leaves bytes tokens u (untyped.Rule node rule) r v w o p a b = Leaves bytes tokens (Rule rule (spot_at bytes (beginning (unit_row u) node))) r v w o p a b
HasLeftUntyped Leaves bytes tokens u (untyped.Nodes count) r v w o p a b = Leaves bytes tokens (Nodes count) r v w o p a b
HasLeftUntyped Leaves bytes tokens u untyped.NoMemory r v w o p a b = ⊥

-- what is done with a unit of which this becomes
abbrev pub HasDone : {V O A : Type 0} → LeavingOut V O A → Judging V O A → List ℕ → Kinds → List NameEntry → List Token → UnitOutcome → Result (Unit {0}) Stop → V → V → O → O → A → A → Type 0
HasDone Leaves Judges bytes without now tokens no_function r v w o p a b = (r ≡ Ok tt) × IsUntouched v w o p a b
HasDone Leaves Judges bytes without now tokens (left_out cause) r v w o p a b = Leaves bytes tokens cause r v w o p a b
HasDone Leaves Judges bytes without now tokens (is_judged node f) r v w o p a b = Judges bytes without now tokens (defines node f) f r v w o p a b

-- A unit of these tokens was visited, which leaves these names in force: what becomes of it, and what was done.
pub record HasVisited {V O A : Type 0} (Leaves : LeavingOut V O A) (Judges : Judging V O A) (bytes : List ℕ) (without : Kinds) (mark : Bool) (es : List NameEntry) (body : Option ℕ) (tokens : List Token) (now : List NameEntry) (r : Result (Unit {0}) Stop) (v w : V) (o p : O) (a b : A) : Type 0 where
  pub outcome : UnitOutcome
  pub is : IsOutcome bytes without mark es body tokens outcome now
  pub done : HasDone Leaves Judges bytes without now tokens outcome r v w o p a b

-- the same, or memory was wanting before
abbrev pub HasVisitedUnit : {V O A : Type 0} → LeavingOut V O A → Judging V O A → List ℕ → Kinds → Bool → List NameEntry → Option ℕ → List Token → List NameEntry → Result (Unit {0}) Stop → V → V → O → O → A → A → Type 0
HasVisitedUnit Leaves Judges bytes without mark es body tokens now r v w o p a b = HasStoppedBefore r v w o p a b ⊎ HasVisited Leaves Judges bytes without mark es body tokens now r v w o p a b
