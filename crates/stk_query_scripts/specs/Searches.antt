-- How the search for a candidate by its number goes on.
use Rattle.std.specs.Prelude.{◌≡◌, ℕ, ◌+◌, Bool, List, ◌++◌, length, Option, Some, None, Ok, OnOk}
use Rattle.std.specs.Global.{Vec}
use Rattle.stk_lex.specs.declared.token.Token.{Token}
use Rattle.stk_ctype.specs.declared.symbol.NameEntry.{NameEntry}
use Rattle.stk_numbers.specs.declared.conditions.Kinds.{Kinds}
use Rattle.stk_records.specs.declared.options.ConditionSet.{ConditionSet}
use Rattle.stk_units.specs.Visiting.{LeavingOut, Judging, IsUntouched}
use Rattle.stk_units.specs.Functions.{unit_typing}
use Rattle.stk_units.specs.Outcomes.{UnitOutcome, IsOutcome}
use Rattle.stk_query_scripts.specs.declared.search.ScriptSearch.{ScriptSearch}
use Rattle.stk_query_scripts.specs.Queries.{FunctionCandidate, function_candidates, outcome_candidates, IsNumberedScript}

-- What a search knows behind these candidates: how many are still to come before the one that is looked for, or its
-- script.
abbrev pub Knows : Kinds → ℕ → ConditionSet → List FunctionCandidate → ℕ → Option (Vec ℕ) → Type 0
Knows without number set all before None = before + length all + 1 ≡ number
Knows without number set all before (Some text) = IsNumberedScript without all number set text.items

-- a search stands so behind these candidates
pub record IsBehind (without : Kinds) (number : ℕ) (all : List FunctionCandidate) (search : ScriptSearch) : Type 0 where
  pub knows : Knows without number search.set all search.before search.script

-- a search that stood behind some candidates stands behind these too, with the same set
pub record GoesOn (without : Kinds) (more : List FunctionCandidate) (search later : ScriptSearch) : Type 0 where
  pub set : later.set ≡ search.set
  pub behind : (number : ℕ) (all : List FunctionCandidate) → IsBehind without number all search → IsBehind without number (all ++ more) later

-- a unit that is left out changes nothing
abbrev pub LeavesSearch : LeavingOut ScriptSearch (Unit {0}) (Unit {0})
LeavesSearch = λ bytes tokens cause r v w o p a b. (r ≡ Ok tt) × IsUntouched v w o p a b

-- behind a function that is judged come its candidates
abbrev pub JudgesSearch : Judging ScriptSearch (Unit {0}) (Unit {0})
JudgesSearch = λ bytes without now tokens u f r v w o p a b. OnOk r (GoesOn without (function_candidates (unit_typing bytes now u) f) v w)

-- a search went on over a unit, which leaves these names
pub record HasSearchedUnit (bytes : List ℕ) (without : Kinds) (mark : Bool) (es : List NameEntry) (body : Option ℕ) (tokens : List Token) (now : List NameEntry) (search later : ScriptSearch) : Type 0 where
  pub outcome : UnitOutcome
  pub is : IsOutcome bytes without mark es body tokens outcome now
  pub goes_on : GoesOn without (outcome_candidates bytes now outcome) search later
