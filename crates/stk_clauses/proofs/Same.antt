-- Whether clauses and lists of them are the same.
use Rattle.std.proofs.Common.{◌≡◌, ◌≢◌, ℕ, zero, suc, ◌+◌, ◌<◌, Bool, true, false, List, [], ◌∷◌, length, slice_index_or, nat_lt, refl, sym, ap, ◌∙◌, arith}
use Rattle.stk_clauses.specs.declared.literal.Lit.{Lit}

pub false_true : ◌≡◌ {A = Bool} false true → ⊥
false_true e = cc

tail_same : (a b : List (List Lit)) (x y : List Lit) → x ≡ y → a ≡ b → ◌≡◌ {A = List (List Lit)} (x ∷ a) (y ∷ b)
tail_same a b x y p q = ap (λ z. z ∷ a) p ∙ ap (λ zs. y ∷ zs) q

-- lists whose clauses are the same one by one
pub all_same : (a b : List (List Lit)) → length a ≡ length b → ((k : ℕ) → k < length a → slice_index_or a k [] ≡ slice_index_or b k []) → a ≡ b
all_same [] [] e h = refl
all_same [] (y ∷ ys) e h = absurd (omega arith)
all_same (x ∷ xs) [] e h = absurd (omega arith)
all_same (x ∷ xs) (y ∷ ys) e h = tail_same xs ys x y (h zero (omega arith)) (all_same xs ys (omega arith) (λ k l. h (suc k) (omega arith)))

pub not_same : (a b : List (List Lit)) (k : ℕ) → slice_index_or a k [] ≢ slice_index_or b k [] → a ≢ b
not_same a b k n e = n (ap (λ xs. slice_index_or xs k []) e)

pub same_length : (a b : List (List Lit)) → length a ≢ length b → a ≢ b
same_length a b n e = n (ap length e)

pub one_same : (a b : List (List Lit)) (i : ℕ) → ((k : ℕ) → k < i → slice_index_or a k [] ≡ slice_index_or b k []) → slice_index_or a i [] ≡ slice_index_or b i [] → (k : ℕ) → k < i + 1 → slice_index_or a k [] ≡ slice_index_or b k []
one_same a b i h e k l = by (nat_lt k i) refl
  where
    by : (t : Bool) → nat_lt k i ≡ t → slice_index_or a k [] ≡ slice_index_or b k []
    by true p = h k (grind (arith, p))
    by false p =
        let same : k ≡ i = grind (arith, p, l) in
        ap (λ n. slice_index_or a n []) same ∙ (e ∙ ap (λ n. slice_index_or b n []) (sym same))
