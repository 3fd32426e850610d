-- Where the sections of a `switch` begin and where it ends, and which of them control falls into or goes to (C11
-- 6.8.4.2).
use Rattle.std.specs.Prelude.{ℕ, zero, suc, ◌≡◌, Bool, true, false, ◌||◌, List, [], Option, Some, None, ℤ}
use Rattle.stk_meaning.specs.Worlds.{Ran, Flow}
use Rattle.stk_meaning.specs.Paths.{KeptNumbers}
use Rattle.stk_guarded.specs.Standing.{Standing, live}
use Rattle.stk_guarded.specs.Statements.{Flows}

-- where the sections begin: nothing has left the `switch` yet
abbrev pub begun : Standing → Standing
begun s = record { alive = s.alive; broken = false; continued = s.continued; numbers = s.numbers; kept = s.kept; entries = s.entries }

-- where the `switch` ends, which began at s: past its last section, or where a `break` left it
abbrev pub past : Standing → Standing → Standing
past s t = record { alive = t.alive || t.broken; broken = s.broken; continued = t.continued; numbers = t.numbers; kept = t.kept; entries = t.entries }

-- where control begins among sections: at the first where it falls into it, else where it goes to
abbrev pub begins : Bool → Option ℕ → Option ℕ
begins true goes_to = Some 0
begins false goes_to = goes_to

-- whether control goes to the first section
abbrev pub is_first : Option ℕ → Bool
is_first None = false
is_first (Some zero) = true
is_first (Some (suc n)) = false

-- where control goes among the sections behind the first
abbrev pub behind_first : Option ℕ → Option ℕ
behind_first None = None
behind_first (Some zero) = None
behind_first (Some (suc n)) = Some n

-- sections that are walked one after the other, from where control falls into them or goes to
pub record Falls (X : ℕ → List ℤ → KeptNumbers → Ran Flow KeptNumbers) (start : Option ℕ) (s t : Standing) : Type 0 where
  pub at : (n : ℕ) → start ≡ Some n → Flows [] (X n s.numbers s.kept) (live true s) t
  pub none : start ≡ None → t ≡ live false s
