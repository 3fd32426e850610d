-- Facts at places of a list.
use Rattle.std.proofs.Common.{ℕ, zero, suc, ◌≡◌, ◌<◌, List, [], ◌∷◌, ◌++◌, length, get_or, map, refl, sym, ap, ◌∙◌, subst, arith}
use Rattle.std.proofs.lemmas.List.{map-append}
use Rattle.stk_ctype.specs.Types.{type_of}
use Rattle.stk_ctype.specs.Structs.{Structs}
use Rattle.stk_ctype.specs.Sound.{IsSound}
use Rattle.stk_type_rules.specs.declared.facts.NodeFact.{NodeFact}
use Rattle.stk_type_rules.specs.Facts.{AreSoundFacts, Fact, fact_of, fact_at}

pub at_view : (xs : List NodeFact) (i : ℕ) (d : NodeFact) → i < length xs → fact_of (get_or xs i d) ≡ fact_at (map fact_of xs) i
at_view [] i d h = absurd (omega arith)
at_view (x ∷ xs) zero d h = refl
at_view (x ∷ xs) (suc i) d h = at_view xs i d (omega arith)

-- facts and one more are sound where they are
pub one_more_sound : (structs : Structs) (fs : List Fact) (x : Fact) → IsSound structs x.ty → AreSoundFacts structs fs → AreSoundFacts structs (fs ++ x ∷ [])
one_more_sound structs [] x h k zero = h
one_more_sound structs [] x h k (suc i) = tt
one_more_sound structs (f ∷ fs) x h k zero = k zero
one_more_sound structs (f ∷ fs) x h k (suc i) = one_more_sound structs fs x h (λ j. k (suc j)) i

pub more_sound : (structs : Structs) (old new : List NodeFact) (f : NodeFact) → new ≡ old ++ f ∷ [] → IsSound structs (type_of f.ty) → AreSoundFacts structs (map fact_of old) → AreSoundFacts structs (map fact_of new)
more_sound structs old new f e h k =
    subst (λ (fs : List Fact). AreSoundFacts structs fs) (sym (ap (map fact_of) e ∙ map-append fact_of old (f ∷ []))) (one_more_sound structs (map fact_of old) (fact_of f) h k)

-- a fact at a place is sound where all are
pub place_sound : (structs : Structs) (xs : List NodeFact) (i : ℕ) (d : NodeFact) → i < length xs → AreSoundFacts structs (map fact_of xs) → IsSound structs (type_of (get_or xs i d).ty)
place_sound structs [] i d h k = absurd (omega arith)
place_sound structs (x ∷ xs) zero d h k = k zero
place_sound structs (x ∷ xs) (suc i) d h k = place_sound structs xs i d (omega arith) (λ j. k (suc j))

pub ruleset facts_at = (at_view, more_sound, place_sound)
