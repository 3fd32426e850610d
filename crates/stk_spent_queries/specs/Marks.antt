-- How often findings say that a query was given up: their marks, and what a count of queries that were given up tells
-- of them.
use Rattle.std.specs.Prelude.{ℕ, ◌+◌, ◌-◌, ◌^◌, ◌<◌, ◌≤◌, ◌⊎◌, List, [], ◌∷◌, Option, Some, None}
use Rattle.stk_base.specs.Causes.{Rose}
use Rattle.stk_numbers.specs.declared.conditions.Inputs.{Inputs}
use Rattle.stk_meaning.specs.declared.finding.Finding.{Finding}
use Rattle.stk_meaning.specs.declared.finding.Finding.TheVariants.{Clear, Unstable, Undecided}
use Rattle.stk_meaning.specs.declared.finding.Need.{Need}

-- a member of a set that no start shows is open
abbrev pub open_mark : Option Inputs → ℕ
open_mark None = 1
open_mark (Some start) = 0

abbrev pub open_count : List Need → ℕ
open_count [] = 0
open_count (n ∷ ns) = open_mark n.shown + open_count ns

-- the marks of a finding: one where it is undecided, and one for each open member of its set
abbrev pub marks : Finding → ℕ
marks Clear = 0
marks (Unstable start needs) = open_count needs
marks (Undecided phase) = 1

abbrev pub all_marks : List Finding → ℕ
all_marks [] = 0
all_marks (x ∷ xs) = marks x + all_marks xs

-- A count that was `before` and is `now` tells of so many: it rose by at least as many, or stands at the last value of
-- a u64 or above; and where there are any, it rose at all, or stands there.
pub record AreCounted (before now n : ℕ) : Type 0 where
  pub enough : (before + n ≤ now) ⊎ (2 ^ 64 - 1 ≤ now)
  pub rose : 0 < n → Rose before now
