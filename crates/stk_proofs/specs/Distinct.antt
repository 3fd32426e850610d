-- The literals of a list, each once.
use Rattle.std.specs.Prelude.{ℕ, ◌≡◌, ◌≤◌, ◌<◌, ◌+◌, ◌-◌, Bool, false, nat_eq, if◌then◌else◌, List, [], ◌∷◌, ◌++◌, length, get_or}
use Rattle.std.specs.List.{list_any}
use Rattle.stk_clauses.specs.declared.literal.Lit.{Lit}

-- whether a literal is among these
abbrev pub is_among : List Lit → Lit → Bool
is_among found l = list_any (λ (m : Lit). nat_eq l.0 m.0) found

-- literals with one more at the end, unless it is among them
abbrev pub with_literal : List Lit → Lit → List Lit
with_literal found l = if is_among found l then found else found ++ l ∷ []

-- literals with others behind them, those left out that have come before
abbrev pub distinct_behind : List Lit → List Lit → List Lit
distinct_behind found [] = found
distinct_behind found (l ∷ ls) = distinct_behind (with_literal found l) ls

-- each literal where it first stands
abbrev pub distinct : List Lit → List Lit
distinct ls = distinct_behind [] ls

-- the number of a literal lies between two, these included
abbrev pub IsBetween : ℕ → ℕ → Lit → Type 0
IsBetween least greatest l = (least ≤ l.0) × (l.0 ≤ greatest)

-- among the numbers from the least on that have a mark, those of these literals are marked, and no others
abbrev pub AreMarked : ℕ → List Bool → List Lit → Type 0
AreMarked least marks found = (l : Lit) → least ≤ l.0 → l.0 < least + length marks → get_or marks (l.0 - least) false ≡ is_among found l
