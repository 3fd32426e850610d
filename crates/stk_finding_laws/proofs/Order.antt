-- Of two maps in range one comes first, or they are one.
use Rattle.std.proofs.Common.{◌≡◌, ℕ, ◌+◌, ◌*◌, ◌^◌, ◌⊎◌, inl, inr, List, [], ◌∷◌, ℤ, refl, sym, ap, ◌∙◌}
use Rattle.std.proofs.lemmas.Bool.{cases_order}
use Rattle.stk_ctype.specs.declared.kind.IntKind.{IntKind}
use Rattle.stk_meaning.specs.Keys.{KeyInfo}
use Rattle.stk_meaning.specs.Maps.{AreInRange, residue_in, Precedes}
use Rattle.stk_hits.specs.InputMaps.{bits_in, Covers, map_at}
use Rattle.stk_hits.proofs.Numbering.{by_number}
use Rattle.stk_hits.proofs.Starts.{number_back}
use Rattle.stk_hits.specs.Subjects.{number_of}
use Rattle.stk_hits.specs.PathSubjects.{kinds_of}
use Rattle.stk_hits.proofs.KeyKinds.{covers}

-- one comes first, or they have one number
by_residues : (keys : List KeyInfo) (xs ys : List ℤ) → AreInRange keys xs → AreInRange keys ys → Precedes keys xs ys ⊎ (Precedes keys ys xs ⊎ (number_of (kinds_of keys) xs ≡ number_of (kinds_of keys) ys))
by_residues [] xs ys h g = inr (inr refl)
by_residues (k ∷ ks) [] ys h g = absurd h
by_residues (k ∷ ks) (x ∷ xs) [] h g = absurd g
by_residues (k ∷ ks) (x ∷ xs) (y ∷ ys) h g = elim (cases_order (residue_in k x) (residue_in k y)) [
  | inl same ↦ elim (by_residues ks xs ys h.1 g.1) [
    | inl before ↦ inl (inr (same, before))
    | inr other ↦ elim other [
      | inl after ↦ inr (inl (inr (sym same, after)))
      | inr rest ↦ inr (inr (ap (λ (r : ℕ). r * 2 ^ bits_in (kinds_of ks) + number_of (kinds_of ks) xs) same ∙ ap (λ (n : ℕ). residue_in k y * 2 ^ bits_in (kinds_of ks) + n) rest))
    ]
  ]
  | inr other ↦ elim other [ inl less ↦ inl (inl less) | inr more ↦ inr (inl (inl more)) ]
]

-- a map in range is that of its number
map_back : (ks : List IntKind) (xs : List ℤ) → Covers ks xs → map_at ks (number_of ks xs) ≡ xs
map_back ks xs h =
    let n = (by_number ks).numbered xs h in
    let same : number_of ks xs ≡ n.number = sym (ap (number_of ks) n.is) ∙ number_back ks n.number n.below in
    ap (map_at ks) same ∙ n.is

pub order_of : (keys : List KeyInfo) (xs ys : List ℤ) → AreInRange keys xs → AreInRange keys ys → Precedes keys xs ys ⊎ (Precedes keys ys xs ⊎ (xs ≡ ys))
order_of keys xs ys h g = elim (by_residues keys xs ys h g) [
  | inl before ↦ inl before
  | inr other ↦ elim other [
    | inl after ↦ inr (inl after)
    | inr same ↦ inr (inr (sym (map_back (kinds_of keys) xs (covers keys xs h)) ∙ (ap (map_at (kinds_of keys)) same ∙ map_back (kinds_of keys) ys (covers keys ys g))))
  ]
]
