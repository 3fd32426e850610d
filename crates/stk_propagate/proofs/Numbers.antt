-- Lists of numbers that all differ.
use Rattle.std.proofs.Common.{◌≡◌, ◌⊎◌, ℕ, zero, suc, ◌<◌, ◌≤◌, true, false, eqb, List, [], ◌∷◌, length, get_or, drop, sym, ◌∙◌, inl, inr, refl, arith}
use Rattle.std.specs.List.{Contains, IsDistinct, list_any}
use Rattle.std.proofs.lemmas.Bool.{eqb-true, ne_eqb, or_cases, false≢true}
use Rattle.std.proofs.lemmas.List.{get_or_default}
use Rattle.std.proofs.lemmas.List.Elements.{recursion_from_All}
use Rattle.std.proofs.lemmas.Map.Steps.{length-le_from_distinct_below}
use Rattle.stk_propagate.specs.WatchLists.{AreOnce}

pub none_in : (x : ℕ) → Contains [] x → ⊥
none_in x h = omega (arith, h.1)

pub in_head : (x : ℕ) (xs : List ℕ) → Contains (x ∷ xs) x
in_head x xs = (0, omega arith, refl)

pub in_tail : (y : ℕ) (xs : List ℕ) (x : ℕ) → Contains xs x → Contains (y ∷ xs) x
in_tail y xs x h = (suc h.0, omega (arith, h.1), h.2)

pub in_split : (y : ℕ) (xs : List ℕ) (x : ℕ) → Contains (y ∷ xs) x → (y ≡ x) ⊎ Contains xs x
in_split y xs x (zero, lt, e) = inl e
in_split y xs x (suc k, lt, e) = inr (k, omega (arith, lt), e)

pub in_rest : (xs : List ℕ) (x : ℕ) → Contains (drop 1 xs) x → Contains xs x
in_rest [] x h = h
in_rest (y ∷ xs) x h = in_tail y xs x h

pub once_rest : (xs : List ℕ) → AreOnce xs → AreOnce (drop 1 xs)
once_rest [] o = tt
once_rest (x ∷ xs) o = o.1

once_distinct : (xs : List ℕ) → AreOnce xs → IsDistinct eqb xs
unfolding IsDistinct
once_distinct [] o = tt
once_distinct (x ∷ xs) o =
    (recursion_from_All (λ y. eqb x y ≡ false) xs (λ k d lt. ne_eqb x (get_or xs k d) (λ e. o.0 (k, lt, get_or_default xs k x d lt ∙ sym e))), once_distinct xs o.1)

any_in : (q : ℕ) (xs : List ℕ) → list_any (eqb q) xs ≡ true → Contains xs q
any_in q [] e = absurd (false≢true e)
any_in q (x ∷ xs) e =
    elim (or_cases (eqb q x) (list_any (eqb q) xs) e) [
      | inl a ↦ (0, omega arith, sym (eqb-true q x a))
      | inr b ↦ in_tail x xs q (any_in q xs b)
    ]

-- different numbers below n are at most n
pub once_short : (xs : List ℕ) (n : ℕ) → AreOnce xs → ((q : ℕ) → Contains xs q → q < n) → length xs ≤ n
once_short xs n o below = length-le_from_distinct_below xs n (once_distinct xs o) (λ q e. below q (any_in q xs e))
