-- The steps of a walk whose hits are of candidates of a list.
use Rattle.std.specs.Prelude.{ℕ, ◌+◌, ◌*◌, List, [], ◌∷◌}
use Rattle.stk_numbers.specs.declared.conditions.Candidate.{Candidate}
use Rattle.stk_run_laws.specs.Visits.{IsIn}
use Rattle.stk_run_laws.specs.Listed.{candidate_number}
use Rattle.stk_walking.specs.declared.state.Event.{Event}
use Rattle.stk_walking.specs.declared.state.Event.TheVariants.{Broken, Hit}

-- a number by which candidates are in order: by node, and then by what they may be found to be
abbrev pub rank : Candidate → ℕ
rank c = 4 * c.node + candidate_number c.kind

-- an event hits a candidate of a list, or none
abbrev pub IsHitIn : List Candidate → Event → Type 0
IsHitIn cs (Broken k) = Unit {0}
IsHitIn cs (Hit c) = IsIn c cs

abbrev pub AreHitsIn : List Candidate → List Event → Type 0
AreHitsIn cs [] = Unit {0}
AreHitsIn cs (x ∷ xs) = IsHitIn cs x × AreHitsIn cs xs
