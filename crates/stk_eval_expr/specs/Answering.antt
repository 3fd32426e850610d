-- How the code's answers of the outside stand to those of a world.
use Rattle.std.specs.Prelude.{◌≡◌, Bool, true, false, Option, Some, None, ℤ}

-- a number with the state behind it; none, where no answer is left
abbrev pub Answers : {S : Type 0} → Option ℤ → S → Option (ℤ × S) → Type 0
Answers None m given = given ≡ None
Answers (Some x) m given = given ≡ Some (x, m)

-- whether the outside had an answer left to write by, with the state behind it
abbrev pub Writes : {S : Type 0} → Bool → S → Option S → Type 0
Writes false m given = given ≡ None
Writes true m given = given ≡ Some m
