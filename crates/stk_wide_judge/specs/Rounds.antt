-- What a guess leads to.
use Rattle.std.specs.Prelude.{◌≡◌, ℕ, List, Option, Some, None}
use Rattle.stk_numbers.specs.declared.conditions.Candidate.{Candidate}
use Rattle.stk_numbers.specs.declared.conditions.Condition.{Condition}
use Rattle.stk_meaning.specs.declared.finding.Finding.{Finding}
use Rattle.stk_meaning.specs.declared.finding.Finding.TheVariants.{Clear, Undecided}
use Rattle.stk_meaning.specs.declared.finding.Phase.TheVariants.{Free, Hit}
use Rattle.stk_meaning.specs.Findings.{IsLawful}
use Rattle.stk_wide_judge.specs.declared.asking.QueryAnswer.{QueryAnswer}
use Rattle.stk_wide_judge.specs.declared.asking.QueryAnswer.TheVariants.{Start, Never, GivenUp}
use Rattle.stk_wide_judge.specs.declared.rounds.Round.{Round}
use Rattle.stk_wide_judge.specs.declared.rounds.Round.TheVariants.{Found, Refuted, Stopped}
use Rattle.stk_wide_judge.specs.Wide.{AskedFunction, asked_subject, never_spent}
use Rattle.stk_spent_queries.specs.Marks.{marks, AreCounted}

-- a lawful finding in which nothing is given up
pub record IsDecided (a : AskedFunction) (c : Candidate) (x : Finding) : Type 0 where
  pub lawful : IsLawful (asked_subject a never_spent) c x
  pub decided : marks x ≡ 0

-- a lawful finding, where queries may be given up by what is spent, whose marks are told by a count
pub record IsCountedFinding (a : AskedFunction) (spent : Candidate → List Condition → Type 0) (before now : ℕ) (c : Candidate) (x : Finding) : Type 0 where
  pub lawful : IsLawful (asked_subject a spent) c x
  pub counted : AreCounted before now (marks x)

-- what is found in a round is so
abbrev pub IsRound : AskedFunction → (Candidate → List Condition → Type 0) → ℕ → ℕ → Candidate → Round → Type 0
IsRound a spent before now c (Found x) = IsCountedFinding a spent before now c x
IsRound a spent before now c Refuted = Unit {0}
IsRound a spent before now c Stopped = Unit {0}

-- what is found, if anything, is so
abbrev pub IsFoundOr : AskedFunction → (Candidate → List Condition → Type 0) → ℕ → ℕ → Candidate → Option Finding → Type 0
IsFoundOr a spent before now c None = Unit {0}
IsFoundOr a spent before now c (Some x) = IsCountedFinding a spent before now c x

-- the finding where the query for no condition was given up, by the answer to that for all of them
abbrev pub finding_after : QueryAnswer → Finding
finding_after (Start start) = Clear
finding_after Never = Undecided Hit
finding_after GivenUp = Undecided Free
