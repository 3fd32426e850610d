-- When a set that is guessed from known starts is right, and what a start that refutes it does.
use Rattle.std.specs.Prelude.{◌≡◌, List, [], ◌++◌, ◌∷◌}
use Rattle.stk_numbers.specs.declared.conditions.Candidate.{Candidate}
use Rattle.stk_numbers.specs.declared.conditions.Condition.{Condition}
use Rattle.stk_numbers.specs.declared.conditions.Inputs.{Inputs}
use Rattle.stk_meaning.specs.declared.entry.Entry.{Entry}
use Rattle.stk_meaning.specs.Hits.{HitsFree}
use Rattle.stk_meaning.specs.declared.finding.Need.{Need}
use Rattle.stk_meaning.specs.Findings.{Subject, members, NoAnswer, IsMinimal}
use Rattle.stk_guess.specs.Known.{AreIncluded, IsKnown, IsGuess}

-- what is free of a larger set is free of a smaller one
abbrev pub LessIsHitToo : Type 0
LessIsHitToo = (small large : List Condition) (c : Candidate) (trace : List Entry) → AreIncluded small large → HitsFree large c trace → HitsFree small c trace

-- where no map answers the query for the guessed set, each query of the definition has the answer that the known starts
-- give
pub record IsRight (q : Subject) (c : Candidate) (needs : List Need) : Type 0 where
  pub minimal : IsMinimal q c [] q.conditions needs
  pub sufficient : NoAnswer q c (members needs)
  pub none_free : NoAnswer q c q.conditions

-- a start that answers the query for the guessed set is a new one, and what is guessed with it is another set
pub record IsProgress (q : Subject) (starts : List Inputs) (c : Candidate) (needs : List Need) (start : Inputs) : Type 0 where
  pub new : IsKnown starts start.numbers → ⊥
  pub other : (later : List Need) → IsGuess q (starts ++ start ∷ []) c later → members later ≡ members needs → ⊥
