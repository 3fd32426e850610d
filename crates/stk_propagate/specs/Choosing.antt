-- When literals became false.
use Rattle.std.specs.Prelude.{◌↔◌, ℕ, ◌<◌, ◌≤◌, List, length, take}
use Rattle.std.specs.List.{Contains}
use Rattle.stk_clauses.specs.declared.literal.Lit.{Lit}
use Rattle.stk_clauses.specs.Literals.{negated}

-- l is false by exactly those fronts of t that go beyond the place
abbrev pub IsFalseFrom : List Lit → Lit → ℕ → Type 0
IsFalseFrom t l place = (k : ℕ) → k ≤ length t → Contains (take k t) (negated l) ↔ (place < k)

-- where l is false, so is m
abbrev pub IsNotLater : List Lit → Lit → Lit → Type 0
IsNotLater t m l = (k : ℕ) → k ≤ length t → Contains (take k t) (negated l) → Contains (take k t) (negated m)
