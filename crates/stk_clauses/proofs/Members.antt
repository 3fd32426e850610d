-- Whether a literal is in a list, and clauses without repeats.
use Rattle.std.proofs.Common.{◌≡◌, ◌⊎◌, zero, suc, List, [], ◌∷◌, inl, inr, arith, refl}
use Rattle.std.specs.List.{Contains}
use Rattle.stk_clauses.specs.declared.literal.Lit.{Lit}
use Rattle.stk_clauses.proofs.Values.{lit_cases}

pub contains_head : (y : Lit) (ys : List Lit) → Contains (y ∷ ys) y
contains_head y ys = (0, omega arith, refl)

pub contains_tail : (y : Lit) (ys : List Lit) (x : Lit) → Contains ys x → Contains (y ∷ ys) x
contains_tail y ys x h = (suc h.0, omega (arith, h.1), h.2)

pub contains_split : (y : Lit) (ys : List Lit) (x : Lit) → Contains (y ∷ ys) x → (y ≡ x) ⊎ Contains ys x
contains_split y ys x (zero, lt, e) = inl e
contains_split y ys x (suc k, lt, e) = inr (k, omega (arith, lt), e)

pub contains_cases : (t : List Lit) (x : Lit) → Contains t x ⊎ (Contains t x → ⊥)
contains_cases [] x = inr (λ h. omega (arith, h.1))
contains_cases (y ∷ ys) x =
    elim (lit_cases y x) [
      | inl e ↦ inl (0, omega arith, e)
      | inr n ↦ elim (contains_cases ys x) [
        | inl h ↦ inl (contains_tail y ys x h)
        | inr m ↦ inr (λ h. elim (contains_split y ys x h) [ inl e ↦ n e | inr k ↦ m k ])
      ]
    ]
