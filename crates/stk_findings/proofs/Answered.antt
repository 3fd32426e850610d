-- What the goals of a function answer of a query is right.
use Rattle.std.proofs.Common.{ℕ, List}
use Rattle.stk_tree.specs.View.{view_function}
use Rattle.stk_numbers.specs.declared.conditions.Candidate.{Candidate}
use Rattle.stk_numbers.specs.declared.conditions.Condition.{Condition}
use Rattle.stk_spent_queries.specs.Spent.{spent_at}
use Rattle.stk_wide_judge.specs.declared.asking.QueryAnswer.{QueryAnswer}
use Rattle.stk_wide_judge.specs.declared.asking.QueryAnswer.TheVariants.{Start, Never, GivenUp}
use Rattle.stk_findings.specs.Asked.{AskedFunction, typing_asked, without_asked, tree_asked}
use Rattle.stk_findings.specs.Answers.{IsRightAnswer}
use Rattle.stk_wide_judge.specs.Wide.{asked_in, asked_subject}
use Rattle.stk_wide_judge.specs.Answers.{IsAnswer}

module _ (a : AskedFunction) (c : Candidate) (set : List Condition) (budget : ℕ) where
  pub is_answer : (x : QueryAnswer) → IsRightAnswer (typing_asked a) (without_asked a) (tree_asked a) c set budget x
      → IsAnswer (asked_subject (asked_in a.tables (view_function a.function)) (spent_at (typing_asked a) (without_asked a) (tree_asked a) budget)) c set x
  is_answer (Start start) h = record { valid = h.valid; hits = h.hits }
  is_answer Never h = λ m k. h m (record { valid = k.valid; hits = k.hits })
  is_answer GivenUp h = h
