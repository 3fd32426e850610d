-- Numbers of a set, and facts that are found.
use Rattle.std.proofs.Common.{ℕ, ◌≡◌, ◌<◌, ◌||◌, ◌==◌, List, [], ◌∷◌, length, get_or, map, refl, sym, ap, subst}
use Rattle.stk_ctype.specs.Types.{type_of}
use Rattle.stk_ctype.specs.Structs.{Structs}
use Rattle.stk_ctype.specs.Sound.{IsSound}
use Rattle.stk_type_rules.specs.declared.facts.NodeFact.{NodeFact}
use Rattle.stk_type_rules.specs.Facts.{AreSoundFacts, fact_of}
use Rattle.stk_type_rules.proofs.FactsAt.{place_sound}
use Rattle.stk_address_taken.specs.Sets.{is_listed}
use Rattle.stk_meaning.specs.Typings.{is_among}

-- the two words for a number of a list are one
pub is_listed-is_among : (k : ℕ) (js : List ℕ) → is_listed k js ≡ is_among k js
is_listed-is_among k [] = refl
is_listed-is_among k (j ∷ js) = ap (λ b. k == j || b) (is_listed-is_among k js)

-- a fact that is found is sound where all are
pub found_sound : (structs : Structs) (xs items : List NodeFact) (i : ℕ) (f : NodeFact) → f ≡ get_or xs i f → i < length xs → xs ≡ items → AreSoundFacts structs (map fact_of items) → IsSound structs (type_of f.ty)
found_sound structs xs items i f is below same sound =
    subst (λ (y : NodeFact). IsSound structs (type_of y.ty)) (sym is) (place_sound structs xs i f below (subst (λ (ys : List NodeFact). AreSoundFacts structs (map fact_of ys)) (sym same) sound))
