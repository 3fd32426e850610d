-- What is left behind the end of a list, and sums of loops.
use Rattle.std.proofs.Common.{ℕ, zero, suc, ◌≡◌, ◌+◌, ◌-◌, ◌^◌, ◌<◌, ◌≤◌, min, List, [], ◌∷◌, drop, length, get_or, drop-cons, add-one, refl, sym, ap, ◌∙◌, arith}
use Rattle.stk_weights.specs.Sums.{capped}

pub drop_none : {A : Type 0} (xs : List A) (i : ℕ) → length xs ≤ i → drop i xs ≡ []
drop_none [] zero h = refl
drop_none [] (suc i) h = refl
drop_none (x ∷ xs) zero h = absurd (omega (arith, h))
drop_none (x ∷ xs) (suc i) h = drop_none xs i (omega (arith, h))

-- what is left from an element of a list on
pub next_of : {A : Type 0} (xs : List A) (i : ℕ) (x : A) → i < length xs → x ≡ get_or xs i x → drop i xs ≡ x ∷ drop (i + 1) xs
next_of xs i x h e = rw add-one (drop-cons xs i x h ∙ ap (λ y. y ∷ drop (suc i) xs) (sym e))

pub summed_end : (sum rest whole : ℕ) → sum ≤ 2 ^ 64 - 1 → rest ≡ 0 → capped (sum + rest) ≡ capped whole → sum ≡ capped whole
summed_end sum rest whole h e f = omega (arith, h, e, f)

pub summed_step : (sum own total n rest whole : ℕ) → own ≡ capped n → total ≡ min (sum + own) (2 ^ 64 - 1) → capped (sum + (n + rest)) ≡ capped whole → capped (total + rest) ≡ capped whole
summed_step sum own total n rest whole a b e = omega (arith, a, b, e)

pub next_at : {A : Type 0} (xs : List A) (i : ℕ) (d : A) → i < length xs → drop i xs ≡ get_or xs i d ∷ drop (i + 1) xs
next_at xs i d h = rw add-one (drop-cons xs i d h)
