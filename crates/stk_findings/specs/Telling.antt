-- What is known of who tells the findings of a function, before each of them.
use Rattle.std.specs.Prelude.{◌≡◌, ◌≤◌, ◌<◌, List, Some}
use Rattle.stk_tree.specs.View.{view_function}
use Rattle.stk_numbers.specs.declared.conditions.Candidate.{Candidate}
use Rattle.stk_numbers.specs.declared.conditions.Condition.{Condition}
use Rattle.stk_meaning.specs.Keys.{input_bits}
use Rattle.stk_judge.specs.Tried.{AreTried}
use Rattle.stk_judge.specs.declared.tried.TriedMaps.{TriedMaps}
use Rattle.stk_spent_queries.specs.Spent.{spent_at}
use Rattle.stk_findings.specs.Asked.{typing_asked, without_asked, tree_asked}
use Rattle.stk_wide_judge.specs.Wide.{AskedFunction, asked_in}
use Rattle.stk_wide_judge.specs.Starts.{AreKnown}
use Rattle.stk_findings.specs.declared.judge.SearchedFunction.{SearchedFunction}
use Rattle.stk_findings.specs.declared.questions.FunctionQuestions.{FunctionQuestions}
use Rattle.stk_findings.specs.declared.queries.Queries.{Queries}
use Rattle.stk_findings.specs.declared.by_maps.SiftedMaps.{SiftedMaps}
use Rattle.stk_findings.specs.Searched.{IsSearchable, about_searched, spent_searched}

-- the function that is asked about
abbrev pub about_asked : FunctionQuestions → AskedFunction
about_asked q = asked_in q.goals.tables (view_function q.goals.function)

-- for which candidates and sets a query of it may be given up
abbrev pub spent_asked : FunctionQuestions → Candidate → List Condition → Type 0
spent_asked q = spent_at (typing_asked q.goals) (without_asked q.goals) (tree_asked q.goals) q.budget

-- the function has at most 16 input bits, and all its input maps have been run
pub record CanTellByMaps (maps : TriedMaps) (s : SearchedFunction) : Type 0 where
  pub known : IsSearchable s
  pub few : input_bits s.tables.now.places.keys ≤ 16
  pub tried : AreTried (about_searched s).typing (about_searched s).without (about_searched s).tree maps

-- the function's own queries are asked within its budget, and the known starts are its own
pub record CanAsk (q : Queries) (s : SearchedFunction) : Type 0 where
  pub known : IsSearchable s
  pub about : about_asked q.questions ≡ about_searched s
  pub spent : (c : Candidate) (set : List Condition) → spent_asked q.questions c set → spent_searched s c set
  pub starts : AreKnown (about_searched s) q.known.starts.items q.known.table

-- the function has more than 16 input bits, and its queries can be asked
pub record CanTellByQueries (q : Queries) (s : SearchedFunction) : Type 0 where
  pub wide : 16 < input_bits s.tables.now.places.keys
  pub asks : CanAsk q s

-- the function has at most 16 input bits, its queries can be asked, and where its input maps have been run, all have
pub record CanSift (x : SiftedMaps) (s : SearchedFunction) : Type 0 where
  pub few : input_bits s.tables.now.places.keys ≤ 16
  pub asks : CanAsk x.queries s
  pub tried : (maps : TriedMaps) → x.maps ≡ Some maps → CanTellByMaps maps s
