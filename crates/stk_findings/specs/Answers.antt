-- What is answered where a query of a function is asked.
use Rattle.std.specs.Prelude.{ℕ, Bool, true, false, List}
use Rattle.stk_tree.specs.Syntax.{FunctionTree}
use Rattle.stk_numbers.specs.declared.conditions.Candidate.{Candidate}
use Rattle.stk_numbers.specs.declared.conditions.Condition.{Condition}
use Rattle.stk_numbers.specs.declared.conditions.Kinds.{Kinds}
use Rattle.stk_meaning.specs.Typings.{Typing}
use Rattle.stk_spent_queries.specs.Spent.{IsSpentQuery}
use Rattle.stk_wide_judge.specs.declared.asking.QueryAnswer.{QueryAnswer}
use Rattle.stk_wide_judge.specs.declared.asking.QueryAnswer.TheVariants.{Start, Never, GivenUp}
use Rattle.stk_goals.specs.Queries.{AnswersQuery, HasNoAnswer}

-- whether an answer says that the query was given up
abbrev pub is_given_up : QueryAnswer → Bool
is_given_up (Start start) = false
is_given_up Never = false
is_given_up GivenUp = true

-- whether an answer says that no map answers the query
abbrev pub is_never : QueryAnswer → Bool
is_never (Start start) = false
is_never Never = true
is_never GivenUp = false

-- an answer is right: the start answers the query; no map does; or the query is spent at the budget
abbrev pub IsRightAnswer : Typing → Kinds → FunctionTree → Candidate → List Condition → ℕ → QueryAnswer → Type 0
IsRightAnswer ty without f c set budget (Start start) = AnswersQuery ty without f c set start.numbers
IsRightAnswer ty without f c set budget Never = HasNoAnswer ty without f c set
IsRightAnswer ty without f c set budget GivenUp = IsSpentQuery ty without f c set budget
