-- What is answered of queries.
use Rattle.std.specs.Prelude.{◌≡◌, ℕ, ◌≤◌, List, [], ◌∷◌, ◌++◌}
use Rattle.stk_base.specs.Causes.{Rose}
use Rattle.stk_numbers.specs.declared.conditions.Candidate.{Candidate}
use Rattle.stk_numbers.specs.declared.conditions.Condition.{Condition}
use Rattle.stk_meaning.specs.declared.finding.Need.{Need}
use Rattle.stk_meaning.specs.Maps.{IsValid}
use Rattle.stk_meaning.specs.Findings.{Subject, Answers, NoAnswer, shown_need, open_need}
use Rattle.stk_wide_judge.specs.declared.asking.QueryAnswer.{QueryAnswer}
use Rattle.stk_wide_judge.specs.declared.asking.QueryAnswer.TheVariants.{Start, Never, GivenUp}
use Rattle.stk_wide_judge.specs.Wide.{AskedFunction}

-- an answer to the query for a candidate and a set is right
abbrev pub IsAnswer : Subject → Candidate → List Condition → QueryAnswer → Type 0
IsAnswer q c set (Start start) = Answers q c set start.numbers
IsAnswer q c set Never = NoAnswer q c set
IsAnswer q c set GivenUp = q.Spent c set

-- where it gives the query up, it is counted
abbrev pub IsCounted : ℕ → ℕ → QueryAnswer → Type 0
IsCounted before now (Start start) = Unit {0}
IsCounted before now Never = Unit {0}
IsCounted before now GivenUp = Rose before now

-- its start, where it has one, is a valid map
abbrev pub HasValidStart : AskedFunction → QueryAnswer → Type 0
HasValidStart a (Start start) = IsValid a.typing a.without a.tree start.numbers
HasValidStart a Never = Unit {0}
HasValidStart a GivenUp = Unit {0}

-- Who is asked is asked of the same function after a call as before; what is spent then was so before; and the count of
-- queries that were given up hasn't fallen.
pub record IsLater (a b : AskedFunction) (was is : Candidate → List Condition → Type 0) (before now : ℕ) : Type 0 where
  pub about : b ≡ a
  pub spent : (c : Candidate) (set : List Condition) → is c set → was c set
  pub counted : before ≤ now

-- the members behind a condition, the greatest first, with that condition where the answer to its query makes it one
abbrev pub with_answer : List Need → Condition → QueryAnswer → List Need
with_answer needs k (Start start) = needs ++ shown_need k start.numbers ∷ []
with_answer needs k Never = needs
with_answer needs k GivenUp = needs ++ open_need k ∷ []
