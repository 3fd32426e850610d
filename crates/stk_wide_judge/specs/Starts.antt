-- Known starts and the table of their runs.
use Rattle.std.specs.Prelude.{ℕ, ◌≤◌, List, [], ℤ, length, Option, MatchOption}
use Rattle.stk_numbers.specs.declared.conditions.Candidate.{Candidate}
use Rattle.stk_numbers.specs.declared.conditions.Condition.{Condition}
use Rattle.stk_numbers.specs.declared.conditions.Inputs.{Inputs}
use Rattle.stk_meaning.specs.Maps.{IsValid}
use Rattle.stk_meaning.specs.Paths.{path}
use Rattle.stk_meaning.specs.Findings.{Subject, NoAnswer, IsFirstAnswer}
use Rattle.stk_hits.specs.Tables.{Table, Describes}
use Rattle.stk_guess.specs.Known.{IsKnown, known_subject, runs_of}
use Rattle.stk_wide_judge.specs.Wide.{AskedFunction, asked_subject, never_spent}

-- the starts are valid maps, at most 8,192, and the table describes their path runs in order
pub record AreKnown (a : AskedFunction) (starts : List Inputs) (t : Table) : Type 0 where
  pub maps : (numbers : List ℤ) → IsKnown starts numbers → IsValid a.typing a.without a.tree numbers
  pub described : Describes (runs_of (path a.typing a.without a.tree) starts) [] t
  pub few : length starts ≤ 8192

-- what findings would speak of if the known starts were all maps
abbrev pub known_of : AskedFunction → List Inputs → Subject
known_of a starts = known_subject (asked_subject a never_spent) starts

-- the first known start that answers a query, where one does
abbrev pub KnownAnswer : AskedFunction → List Inputs → Candidate → List Condition → Option Inputs → Type 0
KnownAnswer a starts c set found = MatchOption found (NoAnswer (known_of a starts) c set) (λ start. IsFirstAnswer (known_of a starts) c set start.numbers)
