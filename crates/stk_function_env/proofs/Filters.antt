-- Filters, and numbers among some.
use Rattle.std.proofs.Common.{ℕ, ◌≡◌, ◌==◌, ◌||◌, Bool, true, false, List, [], ◌∷◌, ◌++◌, refl, sym, ap, ◌∙◌, append-nil, eqb-true}
use Rattle.std.specs.Prelude.{if◌then◌else◌, filter}
use Rattle.std.proofs.lemmas.Bool.{eqb-false}
use Rattle.stk_address_taken.specs.Sets.{is_listed}
use Rattle.stk_function_types.proofs.Among.{is_listed-is_among}

by_first : {A : Type 0} (b : Bool) (x : A) (xs : List A) → (if b then x ∷ xs else xs) ≡ (if b then x ∷ [] else []) ++ xs
by_first true x xs = refl
by_first false x xs = refl

-- a filter, one element after the other
pub filter-cons : {A : Type 0} (p : A → Bool) (x : A) (xs : List A) → filter p (x ∷ xs) ≡ (if p x then x ∷ [] else []) ++ filter p xs
filter-cons p x xs = by_first (p x) x (filter p xs)

pub ruleset filtered = (filter-cons)

pub ruleset among = (is_listed-is_among)

-- filters by the same test
pub filter-same : {A : Type 0} (p q : A → Bool) (xs : List A) → ((x : A) → p x ≡ q x) → filter p xs ≡ filter q xs
filter-same p q [] h = refl
filter-same p q (x ∷ xs) h = filter-cons p x xs ∙ ap (λ b. (if b then x ∷ [] else []) ++ filter p xs) (h x) ∙ ap (λ ys. (if q x then x ∷ [] else []) ++ ys) (filter-same p q xs h) ∙ sym (filter-cons q x xs)

among-none : (ks : List ℕ) → [] ≡ filter (λ k. is_listed k []) ks
among-none [] = refl
among-none (k ∷ ks) = among-none ks

-- where there are no others, no number is among them
pub none-among : (ks others : List ℕ) → others ≡ [] → [] ≡ filter (λ k. is_listed k others) ks
none-among ks others e = among-none ks ∙ ap (λ (js : List ℕ). filter (λ k. is_listed k js) ks) (sym e)

-- equality of numbers, turned round
pub turned_eq : (j k : ℕ) → (j == k) ≡ (k == j)
turned_eq j k = by (j == k) refl (k == j) refl where
  by : (u : Bool) → (j == k) ≡ u → (v : Bool) → (k == j) ≡ v → (j == k) ≡ (k == j)
  by true e true f = e ∙ sym f
  by true e false f = absurd (eqb-false k j f (sym (eqb-true j k e)))
  by false e true f = absurd (eqb-false j k e (sym (eqb-true k j f)))
  by false e false f = e ∙ sym f
