-- Signed comparisons of the store and of scripts.
use Rattle.std.proofs.Common.{◌≡◌, ℕ, ◌-◌, ◌^◌, ◌<◌, ◌≤◌, Bool, true, false, ◌⊎◌, inl, inr, nat_lt, ℤ, pos, refl, sym, ◌∙◌, arith, if◌then◌else◌}
use Rattle.std.specs.Prelude.{int_lt, nat_le, ◌-ℤ◌}
use Rattle.std.proofs.lemmas.Bool.Decides.{nat_tests}
use Rattle.stk_terms.specs.Values.{signed}
use Rattle.stk_scripts.specs.Table.{signed_below, has_sign}

by_sign : (x n : ℕ) → (x < n) ⊎ (n ≤ x)
by_sign x n = by (nat_lt x n) refl
  where
    by : (t : Bool) → nat_lt x n ≡ t → (x < n) ⊎ (n ≤ x)
    by true e = inl (grind (arith, nat_tests))
    by false e = inr (grind (arith, nat_tests))

below_is : (x n : ℕ) → x < n → nat_lt x n ≡ true
below_is x n h = grind (arith, nat_tests)

behind_is : (x n : ℕ) → n ≤ x → nat_lt x n ≡ false
behind_is x n h = grind (arith, nat_tests)

sign_is : (x n : ℕ) → n ≤ x → nat_le n x ≡ true
sign_is x n h = grind (arith, nat_tests)

no_sign : (x n : ℕ) → x < n → nat_le n x ≡ false
no_sign x n h = grind (arith, nat_tests)

-- numbers below W, less W where they have a sign
abbrev less_whole : ℕ → ℕ → Bool → ℤ
less_whole W x positive = if positive then pos x else pos x -ℤ pos W

both_positive : (x y : ℕ) → int_lt (pos x) (pos y) ≡ nat_lt x y
both_positive x y = grind (arith, nat_tests)

both_negative : (W x y : ℕ) → int_lt (pos x -ℤ pos W) (pos y -ℤ pos W) ≡ nat_lt x y
both_negative W x y = grind (arith, nat_tests)

first_negative : (W x y : ℕ) → x < W → int_lt (pos x -ℤ pos W) (pos y) ≡ true
first_negative W x y h = grind (arith, nat_tests)

second_negative : (W x y : ℕ) → y < W → int_lt (pos x) (pos y -ℤ pos W) ≡ false
second_negative W x y h = grind (arith, nat_tests)

pub signed_below_is : (w x y : ℕ) → x < 2 ^ w → y < 2 ^ w → int_lt (signed w x) (signed w y) ≡ signed_below (has_sign w x) (has_sign w y) x y
signed_below_is w x y small little = elim (by_sign x (2 ^ (w - 1))) [
  | inl h ↦ elim (by_sign y (2 ^ (w - 1))) [
    | inl l ↦
        (λ j. int_lt (less_whole (2 ^ w) x (below_is x (2 ^ (w - 1)) h j)) (less_whole (2 ^ w) y (below_is y (2 ^ (w - 1)) l j)))
        ∙ both_positive x y
        ∙ (λ j. signed_below (sym (no_sign x (2 ^ (w - 1)) h) j) (sym (no_sign y (2 ^ (w - 1)) l) j) x y)
    | inr l ↦
        (λ j. int_lt (less_whole (2 ^ w) x (below_is x (2 ^ (w - 1)) h j)) (less_whole (2 ^ w) y (behind_is y (2 ^ (w - 1)) l j)))
        ∙ second_negative (2 ^ w) x y little
        ∙ (λ j. signed_below (sym (no_sign x (2 ^ (w - 1)) h) j) (sym (sign_is y (2 ^ (w - 1)) l) j) x y)
  ]
  | inr h ↦ elim (by_sign y (2 ^ (w - 1))) [
    | inl l ↦
        (λ j. int_lt (less_whole (2 ^ w) x (behind_is x (2 ^ (w - 1)) h j)) (less_whole (2 ^ w) y (below_is y (2 ^ (w - 1)) l j)))
        ∙ first_negative (2 ^ w) x y small
        ∙ (λ j. signed_below (sym (sign_is x (2 ^ (w - 1)) h) j) (sym (no_sign y (2 ^ (w - 1)) l) j) x y)
    | inr l ↦
        (λ j. int_lt (less_whole (2 ^ w) x (behind_is x (2 ^ (w - 1)) h j)) (less_whole (2 ^ w) y (behind_is y (2 ^ (w - 1)) l j)))
        ∙ both_negative (2 ^ w) x y
        ∙ (λ j. signed_below (sym (sign_is x (2 ^ (w - 1)) h) j) (sym (sign_is y (2 ^ (w - 1)) l) j) x y)
  ]
]
