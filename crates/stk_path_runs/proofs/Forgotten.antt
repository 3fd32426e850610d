-- Kept numbers that are forgotten one after another.
use Rattle.std.proofs.Common.{◌≡◌, ℕ, zero, suc, ◌+◌, Bool, true, false, List, [], ◌∷◌, Option, Some, None, ℤ, length, set, refl, sym, ap, ◌∙◌, arith, add-zero}
use Rattle.std.specs.Prelude.{if◌then◌else◌}
use Rattle.stk_meaning.specs.Paths.{KeptNumbers, forgotten_from, forgotten}

-- the first n are forgotten, where a test says so
abbrev pub first_forgotten : (ℕ → Bool) → ℕ → ℕ → KeptNumbers → KeptNumbers
first_forgotten test i zero xs = xs
first_forgotten test i (suc n) [] = []
first_forgotten test i (suc n) (x ∷ xs) = (if test i then None else x) ∷ first_forgotten test (i + 1) n xs

nothing_there : (b : Bool) (n : ℕ) → (if b then set {A = Option ℤ} [] n None else []) ≡ []
nothing_there true zero = refl
nothing_there true (suc n) = refl
nothing_there false n = refl

first_one : (b : Bool) (x : Option ℤ) (xs : KeptNumbers) → (if b then None ∷ xs else x ∷ xs) ≡ (if b then None else x) ∷ xs
first_one true x xs = refl
first_one false x xs = refl

behind_first : (b : Bool) (x : Option ℤ) (n : ℕ) (xs : KeptNumbers) → (if b then x ∷ set xs n None else x ∷ xs) ≡ x ∷ (if b then set xs n None else xs)
behind_first true x n xs = refl
behind_first false x n xs = refl

one_forgotten : (test : ℕ → Bool) (i n : ℕ) (xs : KeptNumbers) → (if test (i + n) then set (first_forgotten test i n xs) n None else first_forgotten test i n xs) ≡ first_forgotten test i (suc n) xs
one_forgotten test i zero [] = nothing_there (test (i + 0)) 0
one_forgotten test i zero (x ∷ xs) = first_one (test (i + 0)) x xs ∙ ap (λ k. (if test k then None else x) ∷ xs) (add-zero i)
one_forgotten test i (suc n) [] = nothing_there (test (i + suc n)) (suc n)
one_forgotten test i (suc n) (x ∷ xs) =
    let there : i + suc n ≡ i + 1 + n = omega arith in
    behind_first (test (i + suc n)) (if test i then None else x) n (first_forgotten test (i + 1) n xs)
    ∙ ap (λ (ys : KeptNumbers). (if test i then None else x) ∷ ys) (ap (λ k. if test k then set (first_forgotten test (i + 1) n xs) n None else first_forgotten test (i + 1) n xs) there ∙ one_forgotten test (i + 1) n xs)

pub next_forgotten : (test : ℕ → Bool) (n : ℕ) (xs now : KeptNumbers) → now ≡ (if test n then set (first_forgotten test 0 n xs) n None else first_forgotten test 0 n xs) → now ≡ first_forgotten test 0 (n + 1) xs
next_forgotten test n xs now e =
    let here : n ≡ 0 + n = omega arith in
    let there : suc n ≡ n + 1 = omega arith in
    e ∙ ap (λ k. if test k then set (first_forgotten test 0 n xs) n None else first_forgotten test 0 n xs) here ∙ one_forgotten test 0 n xs ∙ ap (λ k. first_forgotten test 0 k xs) there

pub each_forgotten : (test : ℕ → Bool) (i : ℕ) (xs : KeptNumbers) → first_forgotten test i (length xs) xs ≡ forgotten_from i test xs
each_forgotten test i [] = refl
each_forgotten test i (x ∷ xs) = ap (λ (ys : KeptNumbers). (if test i then None else x) ∷ ys) (each_forgotten test (i + 1) xs)

-- tests that agree forget the same
pub forgotten_alike : (p q : ℕ → Bool) (i : ℕ) (xs : KeptNumbers) → ((k : ℕ) → p k ≡ q k) → forgotten_from i p xs ≡ forgotten_from i q xs
forgotten_alike p q i [] h = refl
forgotten_alike p q i (x ∷ xs) h = ap (λ b. (if b then None else x) ∷ forgotten_from (i + 1) p xs) (h i) ∙ ap (λ (ys : KeptNumbers). (if q i then None else x) ∷ ys) (forgotten_alike p q (i + 1) xs h)
