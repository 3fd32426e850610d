-- What a store's fields hold: the clauses, by where each ends.
use Rattle.std.specs.Prelude.{◌≡◌, ℕ, ◌≤◌, ◌<◌, ◌^◌, List, [], ◌∷◌, length, slice_range}
use Rattle.std.specs.List.{All}
use Rattle.stk_clauses.specs.declared.literal.Lit.{Lit}
use Rattle.stk_clauses.specs.Literals.{AreDistinct}

-- the literals cut at these ends, the first clause beginning at from
abbrev pub cut : List Lit → ℕ → List ℕ → List (List Lit)
cut literals from [] = []
cut literals from (end ∷ ends) = slice_range literals from end ∷ cut literals end ends

-- the ends don't fall, from from on, and the last one is limit
abbrev pub AreEnds : ℕ → List ℕ → ℕ → Type 0
AreEnds from [] limit = from ≡ limit
AreEnds from (end ∷ ends) limit = (from ≤ end) × AreEnds end ends limit

-- what holds of a store's fields
pub record IsStore (literals : List Lit) (ends : List ℕ) : Type 0 where
  pub rising : AreEnds 0 ends (length literals)
  pub distinct : All AreDistinct (cut literals 0 ends)
  pub few : length ends < 2 ^ 31
