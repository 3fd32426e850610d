-- What units count for, and the status that goes with it.
use Rattle.std.specs.Prelude.{ℕ, ◌+◌, zero, suc, List, [], ◌∷◌, length}
use Rattle.stk_base.specs.declared.status.Status.{Status}
use Rattle.stk_base.specs.declared.status.Status.TheVariants.{Stable, Found, Unsure}
use Rattle.stk_meaning.specs.declared.finding.Finding.{Finding}
use Rattle.stk_meaning.specs.declared.finding.Finding.TheVariants.{Clear, Unstable, Undecided}
use Rattle.stk_records.specs.declared.counts.Counts.{Counts}

-- how many of some findings are reports, and how many of some fragments undecided
abbrev pub unstable_count : List Finding → ℕ
unstable_count [] = 0
unstable_count (Clear ∷ xs) = unstable_count xs
unstable_count (Unstable start needs ∷ xs) = unstable_count xs + 1
unstable_count (Undecided phase ∷ xs) = unstable_count xs

abbrev pub undecided_count : List Finding → ℕ
undecided_count [] = 0
undecided_count (Clear ∷ xs) = undecided_count xs
undecided_count (Unstable start needs ∷ xs) = undecided_count xs
undecided_count (Undecided phase ∷ xs) = undecided_count xs + 1

-- the counts of a unit that is skipped
abbrev pub one_skipped : Counts
one_skipped = record { functions = 0; candidates = 0; unstable = 0; undecided = 0; skipped = 1 }

-- the counts of a function with these findings
abbrev pub one_judged : List Finding → Counts
one_judged findings = record { functions = 1; candidates = length findings; unstable = unstable_count findings; undecided = undecided_count findings; skipped = 0 }

-- the status where so many candidates are unstable, and so many undecided
abbrev pub status_of : ℕ → ℕ → Status
status_of zero zero = Stable
status_of zero (suc m) = Unsure
status_of (suc n) m = Found
