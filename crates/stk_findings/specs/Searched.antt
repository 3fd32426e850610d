-- What the findings of a function speak of that are searched for, whatever the number of its input bits: its path runs,
-- for its valid maps, and queries that may be given up at a budget. Nothing is said of executions.
use Rattle.std.specs.Prelude.{◌≡◌, ℕ, ◌≤◌, List, nat_le}
use Rattle.stk_tree.specs.Syntax.{FunctionTree}
use Rattle.stk_tree.specs.View.{view_function}
use Rattle.stk_numbers.specs.declared.conditions.Candidate.{Candidate}
use Rattle.stk_numbers.specs.declared.conditions.Condition.{Condition}
use Rattle.stk_numbers.specs.declared.conditions.Kinds.{Kinds}
use Rattle.stk_meaning.specs.Typings.{Typing}
use Rattle.stk_meaning.specs.Keys.{keys_of, input_bits}
use Rattle.stk_meaning.specs.Lists.{candidates, conditions}
use Rattle.stk_meaning.specs.Maps.{IsValid, Precedes}
use Rattle.stk_meaning.specs.Paths.{path}
use Rattle.stk_meaning.specs.Findings.{Subject}
use Rattle.stk_meaning.specs.PathFindings.{most_bits}
use Rattle.stk_function_types.specs.Nodes.{typing_in}
pub use Rattle.stk_goals.specs.Searched.{IsTypedFunction}
use Rattle.stk_spent_queries.specs.Spent.{spent_at}
use Rattle.stk_wide_judge.specs.Wide.{AskedFunction, asked_in}
use Rattle.stk_findings.specs.declared.judge.SearchedFunction.{SearchedFunction}

abbrev pub searched_subject : Typing → Kinds → FunctionTree → ℕ → Subject
searched_subject ty without f budget = record {
  IsMap = IsValid ty without f;
  Before = Precedes (keys_of ty without f);
  run = path ty without f;
  conditions = conditions ty without f;
  tries_all = nat_le (input_bits (keys_of ty without f)) most_bits;
  Spent = spent_at ty without f budget;
  Suffices = λ c set. Unit {0};
}

-- the function that is searched
abbrev pub about_searched : SearchedFunction → AskedFunction
about_searched s = asked_in s.tables.now (view_function s.function.now)

-- for which candidates and sets a query of it may be given up
abbrev pub spent_searched : SearchedFunction → Candidate → List Condition → Type 0
spent_searched s = spent_at (about_searched s).typing (about_searched s).without (about_searched s).tree s.budget

-- what its findings speak of
abbrev pub subject_searched : SearchedFunction → Subject
subject_searched s = searched_subject (about_searched s).typing (about_searched s).without (about_searched s).tree s.budget

-- A function is to be searched: it is typed and not too heavy, the tables are its own, the candidates and conditions
-- are all that it has, and the budget is one that a query may have.
pub record IsSearchable (s : SearchedFunction) : Type 0 where
  pub typed : IsTypedFunction s.tables.now (view_function s.function.now)
  pub candidates : s.candidates.now ≡ candidates (typing_in s.tables.now.places.types) (view_function s.function.now)
  pub conditions : s.conditions.now ≡ conditions (typing_in s.tables.now.places.types) s.tables.now.places.without (view_function s.function.now)
  pub least : 1 ≤ s.budget
  pub most : s.budget ≤ 200000
