-- A function whose queries are asked, and what its findings speak of.
use Rattle.std.specs.Prelude.{◌≡◌, ℕ, false, List, slice_get, Some}
use Rattle.stk_tree.specs.Syntax.{FunctionTree}
use Rattle.stk_numbers.specs.declared.conditions.Candidate.{Candidate}
use Rattle.stk_numbers.specs.declared.conditions.Condition.{Condition}
use Rattle.stk_numbers.specs.declared.conditions.Kinds.{Kinds}
use Rattle.stk_meaning.specs.Typings.{Typing}
use Rattle.stk_meaning.specs.Keys.{keys_of}
use Rattle.stk_meaning.specs.Lists.{candidates, conditions}
use Rattle.stk_meaning.specs.Maps.{IsValid, Precedes}
use Rattle.stk_meaning.specs.Paths.{path}
use Rattle.stk_meaning.specs.Findings.{Subject}
use Rattle.stk_function_types.specs.Nodes.{typing_in}
use Rattle.stk_path_runs.specs.Rows.{Tables}

-- a function definition, with what is known of its nodes and the kinds of conditions that are taken out
pub record AskedFunction : Type 0 where
  pub typing : Typing
  pub without : Kinds
  pub tree : FunctionTree

-- the function that tables are of
abbrev pub asked_in : Tables → FunctionTree → AskedFunction
asked_in t f = record { typing = typing_in t.places.types; without = t.places.without; tree = f }

-- What findings speak of where not all input maps are tried: the path runs of the valid ones. Nothing is said of
-- executions.
abbrev pub wide_subject : Typing → Kinds → FunctionTree → (Candidate → List Condition → Type 0) → Subject
wide_subject ty without f spent = record {
  IsMap = IsValid ty without f;
  Before = Precedes (keys_of ty without f);
  run = path ty without f;
  conditions = conditions ty without f;
  tries_all = false;
  Spent = spent;
  Suffices = λ c set. Unit {0};
}

abbrev pub asked_subject : AskedFunction → (Candidate → List Condition → Type 0) → Subject
asked_subject a spent = wide_subject a.typing a.without a.tree spent

-- no query is given up
abbrev pub never_spent : Candidate → List Condition → Type 0
never_spent c set = ⊥

-- the candidate stands at this place of the function's list
abbrev pub IsPlaced : AskedFunction → ℕ → Candidate → Type 0
IsPlaced a position c = slice_get (candidates a.typing a.tree) position ≡ Some c
