-- The script of a query, and the candidates of an input in order.
use Rattle.std.specs.Prelude.{◌≡◌, ◌↔◌, ℕ, ◌+◌, ◌-◌, ◌<◌, ◌≤◌, List, [], map, length, slice_get, Option, Some}
use Rattle.stk_ctype.specs.declared.symbol.NameEntry.{NameEntry}
use Rattle.stk_tree.specs.Syntax.{FunctionTree, defines}
use Rattle.stk_numbers.specs.Kinds.{width_of}
use Rattle.stk_numbers.specs.declared.conditions.Candidate.{Candidate}
use Rattle.stk_numbers.specs.declared.conditions.Condition.{Condition}
use Rattle.stk_numbers.specs.declared.conditions.Kinds.{Kinds}
use Rattle.stk_meaning.specs.Typings.{Typing}
use Rattle.stk_meaning.specs.Keys.{keys_of}
use Rattle.stk_meaning.specs.Lists.{candidates, conditions}
use Rattle.stk_terms.specs.Fitting.{AreResidues}
use Rattle.stk_scripts.specs.Syntax.{Script}
use Rattle.stk_scripts.specs.Scripts.{IsScript, Denotes, widths_in}
use Rattle.stk_spent_queries.specs.Spent.{AnswersByResidues}
use Rattle.stk_records.specs.declared.options.ConditionSet.{ConditionSet}
use Rattle.stk_records.specs.declared.options.ConditionSet.TheVariants.{All, Empty}
use Rattle.stk_units.specs.Functions.{unit_typing}
use Rattle.stk_units.specs.Outcomes.{UnitOutcome, no_function, left_out, is_judged}

-- a text is a script that denotes exactly the residues of the valid input maps of a function whose path run hits a
-- candidate with no condition of a set violated before; it has an input for each key of the function, in order
pub record IsQueryScript (ty : Typing) (without : Kinds) (f : FunctionTree) (c : Candidate) (set : List Condition) (text : List ℕ) : Type 0 where
  pub script : Script
  pub is : IsScript text script
  pub inputs : widths_in script.declared ≡ map (λ k. width_of k.kind) (keys_of ty without f)
  pub denotes : (residues : List ℕ) → AreResidues (widths_in script.declared) residues → Denotes script residues ↔ AnswersByResidues ty without f c set residues

-- the conditions of a set
abbrev pub conditions_of : ConditionSet → Typing → Kinds → FunctionTree → List Condition
conditions_of All ty without f = conditions ty without f
conditions_of Empty ty without f = []

-- the script of the query of the candidate at a place of a function's list
pub record IsCandidateScript (ty : Typing) (without : Kinds) (f : FunctionTree) (at : ℕ) (set : ConditionSet) (text : List ℕ) : Type 0 where
  pub candidate : Candidate
  pub stands : slice_get (candidates ty f) at ≡ Some candidate
  pub script : IsQueryScript ty without f candidate (conditions_of set ty without f) text

-- a candidate, with its function
pub record FunctionCandidate : Type 0 where
  pub typing : Typing
  pub function : FunctionTree
  pub candidate : Candidate

abbrev pub candidate_of : Typing → FunctionTree → Candidate → FunctionCandidate
candidate_of ty f c = record { typing = ty; function = f; candidate = c }

-- the candidates of a function, in order
abbrev pub function_candidates : Typing → FunctionTree → List FunctionCandidate
function_candidates ty f = map (candidate_of ty f) (candidates ty f)

-- those of a unit of which this becomes, which leaves these names: of a function that is judged
abbrev pub outcome_candidates : List ℕ → List NameEntry → UnitOutcome → List FunctionCandidate
outcome_candidates bytes now no_function = []
outcome_candidates bytes now (left_out cause) = []
outcome_candidates bytes now (is_judged node f) = function_candidates (unit_typing bytes now (defines node f)) f

-- the script of the candidate with a number, counted from 1, among those of an input
pub record IsNumberedScript (without : Kinds) (all : List FunctionCandidate) (number : ℕ) (set : ConditionSet) (text : List ℕ) : Type 0 where
  pub found : FunctionCandidate
  pub counted : 1 ≤ number
  pub stands : slice_get all (number - 1) ≡ Some found
  pub script : IsQueryScript found.typing without found.function found.candidate (conditions_of set found.typing without found.function) text
