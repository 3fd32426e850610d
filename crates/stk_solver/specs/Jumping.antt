-- How far a search goes back.
use Rattle.std.specs.Prelude.{◌≡◌, ℕ, ◌<◌, List, length, slice_index_or}
use Rattle.std.specs.List.{Contains}
use Rattle.stk_clauses.specs.declared.literal.Lit.{Lit}
use Rattle.stk_clauses.specs.Literals.{negated}

-- one of these literals became false at this place
abbrev pub IsDeep : List Lit → List Lit → ℕ → Type 0
IsDeep t c place = (place < length t) × ((m : Lit) × Contains c m × (slice_index_or t place (negated m) ≡ negated m))
