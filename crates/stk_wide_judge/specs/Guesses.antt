-- The next member of a set that is guessed from known starts.
use Rattle.std.specs.Prelude.{ℕ, ◌+◌, ◌<◌, List, ◌++◌, take, reverse, Option, Some, None}
use Rattle.stk_numbers.specs.declared.conditions.Candidate.{Candidate}
use Rattle.stk_numbers.specs.declared.conditions.Condition.{Condition}
use Rattle.stk_numbers.specs.declared.conditions.Inputs.{Inputs}
use Rattle.stk_meaning.specs.declared.finding.Need.{Need}
use Rattle.stk_meaning.specs.Findings.{members, NoAnswer, IsFirstAnswer}
use Rattle.stk_wide_judge.specs.declared.guessing.FoundMember.{FoundMember}
use Rattle.stk_wide_judge.specs.Wide.{AskedFunction}
use Rattle.stk_wide_judge.specs.Starts.{known_of}

-- the place, if any, is below an end
abbrev pub IsBelow : ℕ → Option FoundMember → Type 0
IsBelow end None = Unit {0}
IsBelow end (Some m) = m.index < end

-- A known start answers the query for the conditions below a low index and the members behind; none answers that for
-- the conditions below a high one.
pub record IsBetween (a : AskedFunction) (starts : List Inputs) (c : Candidate) (all : List Condition) (needs : List Need) (low high : ℕ) (start : Inputs) : Type 0 where
  pub first : IsFirstAnswer (known_of a starts) c (take low all ++ members (reverse needs)) start.numbers
  pub none : NoAnswer (known_of a starts) c (take high all ++ members (reverse needs))

-- the greatest member before those that are found, the greatest first; none where they suffice
abbrev pub IsLastMember : AskedFunction → List Inputs → Candidate → List Condition → List Need → Option FoundMember → Type 0
IsLastMember a starts c all needs None = NoAnswer (known_of a starts) c (members (reverse needs))
IsLastMember a starts c all needs (Some m) = IsBetween a starts c all needs m.index (m.index + 1) m.start
