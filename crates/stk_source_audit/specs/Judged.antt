-- What is known of a unit that defines a function which is judged, and what such a function has.
use Rattle.std.specs.Prelude.{◌≡◌, ℕ, List, map, nat_le, Option, Some, None}
use Rattle.stk_ctype.specs.declared.symbol.NameEntry.{NameEntry}
use Rattle.stk_tree.specs.Syntax.{FunctionTree, UnitTree, empty_unit, declares, defines}
use Rattle.stk_numbers.specs.declared.conditions.Kinds.{Kinds}
use Rattle.stk_meaning.specs.Typings.{Typing}
use Rattle.stk_meaning.specs.Keys.{KeyInfo, keys_of, input_bits}
use Rattle.stk_meaning.specs.Lists.{candidates, conditions}
use Rattle.stk_meaning.specs.PathFindings.{most_bits}
use Rattle.stk_records.specs.declared.line.Cause.{Cause}
use Rattle.stk_units.specs.Functions.{unit_typing, IsDefinition}
use Rattle.stk_units.specs.Known.{IsReadWell, IsTypedWell}
use Rattle.stk_units.specs.Causes.{body_cause}
use Rattle.stk_source_audit.specs.declared.lists.FunctionLists.{FunctionLists}

-- lists are those of a function with these keys
pub record AreListsBy (ty : Typing) (without : Kinds) (f : FunctionTree) (keys : List KeyInfo) (l : FunctionLists) : Type 0 where
  pub kinds : l.kinds.items ≡ map (λ (k : KeyInfo). k.kind) keys
  pub candidates_are : l.candidates.items ≡ candidates ty f
  pub conditions_are : l.conditions.items ≡ conditions ty without f
  pub all : l.tries_all ≡ nat_le (input_bits keys) most_bits

-- lists are those of a function where it isn't left out for a cause; else there are none
abbrev pub AreListsOf : Typing → Kinds → FunctionTree → Option Cause → Option FunctionLists → Type 0
AreListsOf ty without f None None = ⊥
AreListsOf ty without f None (Some l) = AreListsBy ty without f (keys_of ty without f) l
AreListsOf ty without f (Some cause) None = Unit {0}
AreListsOf ty without f (Some cause) (Some l) = ⊥

-- there are lists exactly where a unit defines a function that is judged
abbrev pub AreUnitLists : List ℕ → Kinds → List NameEntry → UnitTree → Option FunctionLists → Type 0
AreUnitLists bytes without now (empty_unit n) o = o ≡ None
AreUnitLists bytes without now (declares n d) o = o ≡ None
AreUnitLists bytes without now (defines n f) o = AreListsOf (unit_typing bytes now (defines n f)) without f (body_cause bytes without now (defines n f)) o

-- a unit defines this function, which is judged where these kinds of conditions are taken out
pub record IsJudgedUnit (bytes : List ℕ) (without : Kinds) (now : List NameEntry) (u : UnitTree) (f : FunctionTree) : Type 0 where
  pub is : IsDefinition u f
  pub read : IsReadWell u
  pub typed : IsTypedWell bytes without now u f
  pub judged : body_cause bytes without now u ≡ None
