-- Literals cut into clauses: one more clause at the end, and the clause at a place.
use Rattle.std.proofs.Common.{◌≡◌, ℕ, zero, suc, ◌-◌, ◌^◌, ◌<◌, ◌≤◌, List, [], ◌∷◌, ◌++◌, length, get_or, drop, sym, ◌∙◌, ap, subst, arith, refl, slice_range, length-append}
use Rattle.std.proofs.lemmas.List.Elements.{All-push}
use Rattle.std.proofs.lemmas.List.{drop-append-le, take-append-le, drop_at, take_all, length-drop}
use Rattle.stk_clauses.specs.declared.literal.Lit.{Lit}
use Rattle.stk_clauses.specs.Literals.{AreDistinct}
use Rattle.stk_clauses.specs.Cut.{cut, AreEnds, IsStore}

slice-append_left : (xs ys : List Lit) (a b : ℕ) → a ≤ b → b ≤ length xs → slice_range (xs ++ ys) a b ≡ slice_range xs a b
slice-append_left xs ys a b ab bn =
    let an : a ≤ length xs = omega arith in
    let n : b - a ≤ length (drop a xs) = omega (arith, length-drop a xs) in
    rw (drop-append-le a xs ys an, take-append-le (b - a) (drop a xs) ys n)

slice-append_right : (xs ys : List Lit) (a b : ℕ) → a ≡ length xs → b ≡ length (xs ++ ys) → slice_range (xs ++ ys) a b ≡ ys
slice-append_right xs ys a b ea eb =
    rw (drop_at xs ys a (sym ea)) (take_all (b - a) ys (omega (arith, length-append xs ys)))

pub length-cut : (lits : List Lit) (from : ℕ) (ends : List ℕ) → length (cut lits from ends) ≡ length ends
length-cut lits from [] = refl
length-cut lits from (e ∷ es) = ap (λ n. suc n) (length-cut lits e es)

pub ends_limit : (from : ℕ) (ends : List ℕ) (limit : ℕ) → AreEnds from ends limit → from ≤ limit
ends_limit from [] limit a = omega arith
ends_limit from (e ∷ es) limit a = let b = ends_limit e es limit a.1 in omega (arith, a.0)

pub ends_push : (from : ℕ) (ends : List ℕ) (limit n : ℕ) → AreEnds from ends limit → limit ≤ n → AreEnds from (ends ++ n ∷ []) n
ends_push from [] limit n a le = (omega (arith, a), refl)
ends_push from (e ∷ es) limit n a le = (a.0, ends_push e es limit n a.1 le)

pub cut-push : (lits clause : List Lit) (from : ℕ) (ends : List ℕ) (n : ℕ) → AreEnds from ends (length lits) → n ≡ length (lits ++ clause) → cut (lits ++ clause) from (ends ++ n ∷ []) ≡ cut lits from ends ++ clause ∷ []
cut-push lits clause from [] n a e = ap (λ c. c ∷ []) (slice-append_right lits clause from n a e)
cut-push lits clause from (end ∷ ends) n a e =
    let rest = cut-push lits clause end ends n a.1 e in
    ap (λ c. c ∷ cut (lits ++ clause) end (ends ++ n ∷ [])) (slice-append_left lits clause from end a.0 (ends_limit end ends (length lits) a.1)) ∙ ap (λ r. slice_range lits from end ∷ r) rest

pub cut_at : (lits : List Lit) (from : ℕ) (ends : List ℕ) (at : ℕ) → at < length ends → get_or (cut lits from ends) at [] ≡ slice_range lits (get_or (from ∷ ends) at 0) (get_or ends at 0)
cut_at lits from [] at lt = absurd (omega (arith, lt))
cut_at lits from (e ∷ es) zero lt = refl
cut_at lits from (e ∷ es) (suc k) lt = cut_at lits e es k (omega (arith, lt))

-- a clause begins before it ends, and ends within the literals
pub rise_at : (from : ℕ) (ends : List ℕ) (limit at : ℕ) → AreEnds from ends limit → at < length ends → (get_or (from ∷ ends) at 0 ≤ get_or ends at 0) × (get_or ends at 0 ≤ limit)
rise_at from [] limit at a lt = absurd (omega (arith, lt))
rise_at from (e ∷ es) limit zero a lt = (a.0, ends_limit e es limit a.1)
rise_at from (e ∷ es) limit (suc k) a lt = rise_at e es limit k a.1 (omega (arith, lt))

-- one more clause in a store
pub store_push : (lits clause : List Lit) (ends : List ℕ) (n : ℕ) → IsStore lits ends → length ends < 2 ^ 31 - 1 → AreDistinct clause → n ≡ length (lits ++ clause) → IsStore (lits ++ clause) (ends ++ n ∷ [])
store_push lits clause ends n s few distinct e = record {
  rising = subst (λ m. AreEnds 0 (ends ++ n ∷ []) m) e (ends_push 0 ends (length lits) n s.rising (omega (arith, e, length-append lits clause)));
  distinct = rw (cut-push lits clause 0 ends n s.rising e) (All-push AreDistinct (cut lits 0 ends) clause s.distinct distinct);
  few = omega (arith, few, length-append ends (n ∷ []));
}
