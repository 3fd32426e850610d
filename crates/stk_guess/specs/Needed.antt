-- What the search for a set of conditions gives.
use Rattle.std.specs.Prelude.{List, []}
use Rattle.stk_numbers.specs.declared.conditions.Candidate.{Candidate}
use Rattle.stk_numbers.specs.declared.conditions.Condition.{Condition}
use Rattle.stk_meaning.specs.declared.finding.Need.{Need}
use Rattle.stk_meaning.specs.Findings.{Subject, members, NoAnswer, IsMinimal}

-- The set that a report names, of these conditions: it is minimal by deletion, and no run that violates none of it
-- before hits the candidate.
pub record IsNeededSet (q : Subject) (c : Candidate) (all : List Condition) (needs : List Need) : Type 0 where
  pub minimal : IsMinimal q c [] all needs
  pub sufficient : NoAnswer q c (members needs)
