-- Keys and the kinds of their numbers.
use Rattle.std.proofs.Common.{◌≡◌, ◌+◌, inl, inr, List, [], ◌∷◌, ℤ, refl, sym, ap, ◌∙◌}
use Rattle.std.proofs.lemmas.List.Sums.{sum_by-cons}
use Rattle.stk_numbers.specs.Kinds.{width_of}
use Rattle.stk_meaning.specs.Keys.{KeyInfo, input_bits}
use Rattle.stk_meaning.specs.Maps.{AreInRange, Precedes}
use Rattle.stk_hits.specs.InputMaps.{bits_in, Covers}
use Rattle.stk_hits.specs.InputMaps as maps
use Rattle.stk_hits.specs.PathSubjects.{kinds_of}

pub covers : (keys : List KeyInfo) (xs : List ℤ) → AreInRange keys xs → Covers (kinds_of keys) xs
covers [] [] h = tt
covers [] (x ∷ xs) h = absurd h
covers (k ∷ ks) [] h = absurd h
covers (k ∷ ks) (x ∷ xs) h = (h.0, covers ks xs h.1)

pub in_range : (keys : List KeyInfo) (xs : List ℤ) → Covers (kinds_of keys) xs → AreInRange keys xs
in_range [] [] h = tt
in_range [] (x ∷ xs) h = absurd h
in_range (k ∷ ks) [] h = absurd h
in_range (k ∷ ks) (x ∷ xs) h = (h.0, in_range ks xs h.1)

pub precedes : (keys : List KeyInfo) (xs ys : List ℤ) → Precedes keys xs ys → maps.Precedes (kinds_of keys) xs ys
precedes [] xs ys h = absurd h
precedes (k ∷ ks) [] ys h = absurd h
precedes (k ∷ ks) (x ∷ xs) [] h = absurd h
precedes (k ∷ ks) (x ∷ xs) (y ∷ ys) (inl less) = inl less
precedes (k ∷ ks) (x ∷ xs) (y ∷ ys) (inr h) = inr (h.0, precedes ks xs ys h.1)

pub bits : (keys : List KeyInfo) → bits_in (kinds_of keys) ≡ input_bits keys
bits [] = refl
bits (k ∷ ks) = ap (λ n. width_of k.kind + n) (bits ks) ∙ sym (sum_by-cons (λ (x : KeyInfo). width_of x.kind) k ks)
