-- A kept object under a guard, as numbers at one input map: whether a number is kept, and that number.
use Rattle.std.specs.Prelude.{ℕ, ◌+◌, Bool, [], ◌∷◌, ℤ, Option, Some, None, if◌then◌else◌}
use Rattle.stk_meaning.specs.Paths.{KeptNumbers}

-- the number that a read gives, where y is the input's
abbrev pub read_of : ℤ → Option ℤ → ℤ
read_of y None = y
read_of y (Some x) = x

-- what is kept, by whether a number is and by the number
abbrev pub content : Bool → ℤ → Option ℤ
content known number = if known then Some number else None

-- kept numbers without those that a test names, where b is true, object by object
abbrev pub removed_from : ℕ → Bool → (ℕ → Bool) → KeptNumbers → KeptNumbers
removed_from i b test [] = []
removed_from i b test (x ∷ xs) = (if test i then (if b then None else x) else x) ∷ removed_from (i + 1) b test xs
