-- Maps whose numbers are in the ranges of their keys have each key.
use Rattle.std.proofs.Common.{◌≡◌, ℕ, zero, suc, ◌<◌, true, List, [], ◌∷◌, length, map, get_or, slice_get, Some, IsTrue, ℤ, pos, subst, arith}
use Rattle.std.proofs.lemmas.Option.{none-some, same_Some}
use Rattle.stk_ctype.specs.declared.kind.IntKind.{IntKind}
use Rattle.stk_numbers.specs.Kinds.{fits}
use Rattle.stk_meaning.specs.Keys.{KeyInfo}
use Rattle.stk_meaning.specs.Maps.{AreInRange}

pub there : (ks : List KeyInfo) (xs : List ℤ) (key : ℕ) (k : IntKind) → AreInRange ks xs → slice_get (map (λ (x : KeyInfo). x.kind) ks) key ≡ Some k → (key < length xs) × IsTrue (fits k (get_or xs key (pos 0)))
there [] xs key k h found = absurd (none-some k found)
there (c ∷ ks) [] key k h found = absurd h
there (c ∷ ks) (x ∷ xs) zero k h found =
    let same : c.kind ≡ k = same_Some c.kind k found in
    (omega arith, subst (λ (b : IntKind). IsTrue (fits b x)) same h.0)
there (c ∷ ks) (x ∷ xs) (suc n) k h found = let r = there ks xs n k h.1 found in (omega (arith, r.0), r.1)
