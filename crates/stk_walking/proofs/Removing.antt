-- Kept numbers that are removed one after another, under a guard.
use Rattle.std.proofs.Common.{◌≡◌, ℕ, zero, suc, ◌+◌, Bool, true, false, [], ◌∷◌, None, length, set, refl, ap, ◌∙◌, arith}
use Rattle.std.specs.Prelude.{if◌then◌else◌}
use Rattle.stk_meaning.specs.Paths.{KeptNumbers, forgotten_from}
use Rattle.stk_guarded.specs.Cells.{removed_from}
use Rattle.stk_guarded.proofs.Cells.{removed_is}

-- one is removed, where it is to be and b is true
abbrev pub removed_when : Bool → Bool → ℕ → KeptNumbers → KeptNumbers
removed_when asked b n xs = if asked then (if b then set xs n None else xs) else xs

-- the first n of those from a position on
abbrev pub first_removed : ℕ → ℕ → Bool → (ℕ → Bool) → KeptNumbers → KeptNumbers
first_removed zero i b test xs = xs
first_removed (suc n) i b test [] = []
first_removed (suc n) i b test (x ∷ xs) = (if test i then (if b then None else x) else x) ∷ first_removed n (i + 1) b test xs

none_removed : (asked b : Bool) (n : ℕ) → removed_when asked b n [] ≡ []
none_removed true true n = refl
none_removed true false n = refl
none_removed false b n = refl

head_removed : (asked b : Bool) (x : _) (xs : KeptNumbers) → removed_when asked b 0 (x ∷ xs) ≡ (if asked then (if b then None else x) else x) ∷ xs
head_removed true true x xs = refl
head_removed true false x xs = refl
head_removed false b x xs = refl

later_removed : (asked b : Bool) (n : ℕ) (x : _) (xs : KeptNumbers) → removed_when asked b (suc n) (x ∷ xs) ≡ x ∷ removed_when asked b n xs
later_removed true true n x xs = refl
later_removed true false n x xs = refl
later_removed false b n x xs = refl

one_more : (n i : ℕ) (b : Bool) (test : ℕ → Bool) (xs : KeptNumbers) → removed_when (test (i + n)) b n (first_removed n i b test xs) ≡ first_removed (suc n) i b test xs
one_more zero i b test [] = none_removed (test (i + 0)) b 0
one_more zero i b test (x ∷ xs) = let e : i + 0 ≡ i = omega arith in ap (λ k. removed_when (test k) b 0 (x ∷ xs)) e ∙ head_removed (test i) b x xs
one_more (suc n) i b test [] = none_removed (test (i + suc n)) b (suc n)
one_more (suc n) i b test (x ∷ xs) =
    let e : i + suc n ≡ i + 1 + n = omega arith in
    later_removed (test (i + suc n)) b n (if test i then (if b then None else x) else x) (first_removed n (i + 1) b test xs)
    ∙ ap (λ k. (if test i then (if b then None else x) else x) ∷ removed_when (test k) b n (first_removed n (i + 1) b test xs)) e
    ∙ ap (λ ys. (if test i then (if b then None else x) else x) ∷ ys) (one_more n (i + 1) b test xs)

-- one more of them
pub next_removed : (n : ℕ) (b : Bool) (test : ℕ → Bool) (xs : KeptNumbers) → removed_when (test n) b n (first_removed n 0 b test xs) ≡ first_removed (n + 1) 0 b test xs
next_removed n b test xs =
    let e : suc n ≡ n + 1 = omega arith in
    let z : n ≡ 0 + n = omega arith in
    ap (λ k. removed_when (test k) b n (first_removed n 0 b test xs)) z ∙ one_more n 0 b test xs ∙ ap (λ k. first_removed k 0 b test xs) e

all_removed : (i : ℕ) (b : Bool) (test : ℕ → Bool) (xs : KeptNumbers) → first_removed (length xs) i b test xs ≡ removed_from i b test xs
all_removed i b test [] = refl
all_removed i b test (x ∷ xs) = ap (λ ys. (if test i then (if b then None else x) else x) ∷ ys) (all_removed (i + 1) b test xs)

-- all of them
pub each_removed : (b : Bool) (test : ℕ → Bool) (xs : KeptNumbers) → first_removed (length xs) 0 b test xs ≡ (if b then forgotten_from 0 test xs else xs)
each_removed b test xs = all_removed 0 b test xs ∙ removed_is 0 b test xs
