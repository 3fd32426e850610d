-- The table of scripts and the store's give the same numbers.
use Rattle.std.proofs.Common.{◌≡◌, ℕ, zero, suc, ◌<◌, ◌≤◌, ◌+◌, ◌-◌, ◌*◌, ◌/◌, ◌%◌, ◌^◌, Bool, true, false, refl, ap, sym, ◌∙◌, arith, cond, subst, ◌⊎◌, inl, inr}
use Rattle.std.specs.Prelude.{nat_lt, nat_le}
use Rattle.std.proofs.Math.Nat.{pow-le-pow_right, mul-mod_left, div-eq_of_lt, div-lt_iff_lt-mul, mod-lt, mod-add-div, one-le-pow}
use Rattle.std.proofs.lemmas.Nat.{pow-add, div-mul-add}
use Rattle.std.proofs.lemmas.Bool.Decides.{nat_tests}
use Rattle.stk_scripts.specs.declared.operators.BinaryOp.TheVariants as binary
use Rattle.stk_scripts.specs.declared.operators.ExtendOp.TheVariants as extend
use Rattle.stk_scripts.specs.Table.{binary_number, extended_number, has_sign, turned, ones}
use Rattle.stk_scripts.specs.Store.{TablesAgree, store_extended, store_signs}
use Rattle.stk_scripts.proofs.Bytes.{cond_true, cond_false}

is_below : (m n : ℕ) → m < n → nat_lt m n ≡ true
is_below m n h = grind (arith, nat_tests)

not_below : (m n : ℕ) → n ≤ m → nat_lt m n ≡ false
not_below m n h = grind (arith, nat_tests)

is_at_most : (m n : ℕ) → m ≤ n → nat_le m n ≡ true
is_at_most m n h = grind (arith, nat_tests)

not_at_most : (m n : ℕ) → n < m → nat_le m n ≡ false
not_at_most m n h = grind (arith, nat_tests)

by_test : (t : Bool) (m n : ℕ) → nat_lt m n ≡ t → (m < n) ⊎ (n ≤ m)
by_test true m n e = inl (grind (arith, nat_tests))
by_test false m n e = inr (grind (arith, nat_tests))

order : (m n : ℕ) → (m < n) ⊎ (n ≤ m)
order m n = by_test (nat_lt m n) m n refl

positive : (n : ℕ) → 0 < 2 ^ n
positive n = let k = one-le-pow n 2 (omega arith) in omega (arith, k)

-- beyond the width nothing is left
shifted_out : (w x y : ℕ) → w ≤ y → (x * 2 ^ y) % 2 ^ w ≡ 0
shifted_out w x y h =
    let e : 2 ^ y ≡ 2 ^ (y - w) * 2 ^ w = (let s : y ≡ (y - w) + w = omega arith in ap (λ n. 2 ^ n) s ∙ pow-add 2 (y - w) w) in
    let f : x * 2 ^ y ≡ (x * 2 ^ (y - w)) * 2 ^ w = omega (arith, ap (λ n. x * n) e) in
    ap (λ n. n % 2 ^ w) f ∙ mul-mod_left (x * 2 ^ (y - w)) (2 ^ w)

divided_out : (w x y : ℕ) → x < 2 ^ w → w ≤ y → x / 2 ^ y ≡ 0
divided_out w x y small h = let k = pow-le-pow_right {n = 2} (omega arith) h in div-eq_of_lt (omega (arith, k))

shl : (w x y : ℕ) → x < 2 ^ w → cond (nat_lt y w) ((x * 2 ^ y) % 2 ^ w) 0 ≡ binary_number binary.Shl w x y
shl w x y small = elim (order y w) [
  | inl h ↦ cond_true (nat_lt y w) _ 0 (is_below y w h)
  | inr h ↦ cond_false (nat_lt y w) _ 0 (not_below y w h) ∙ sym (shifted_out w x y h)
]

lshr : (w x y : ℕ) → x < 2 ^ w → cond (nat_lt y w) (x / 2 ^ y) 0 ≡ binary_number binary.LShr w x y
lshr w x y small = elim (order y w) [
  | inl h ↦ cond_true (nat_lt y w) _ 0 (is_below y w h)
  | inr h ↦ cond_false (nat_lt y w) _ 0 (not_below y w h) ∙ sym (divided_out w x y small h)
]

-- the quotient of the turned bits is the turned quotient
turned_quotient : (T D q r j x : ℕ) → T ≡ (q + 1 + j) * D → x ≡ q * D + r → r < D → (T - 1 - x) / D ≡ j
turned_quotient T D q r j x whole is less =
    let e : T - 1 - x ≡ j * D + (D - 1 - r) = omega (arith, whole, is, less) in
    ap (λ n. n / D) e ∙ div-mul-add j D (D - 1 - r) (omega (arith, less))

quotient_below : (w y x : ℕ) → y ≤ w → x < 2 ^ w → x / 2 ^ y < 2 ^ (w - y)
quotient_below w y x h small =
    let s : w ≡ (w - y) + y = omega arith in
    let e : 2 ^ w ≡ 2 ^ (w - y) * 2 ^ y = ap (λ n. 2 ^ n) s ∙ pow-add 2 (w - y) y in
    (div-lt_iff_lt-mul {x = x} {y = 2 ^ (w - y)} (positive y)).1 (omega (arith, e))

quotient_from : (w y x : ℕ) → y ≤ w → 2 ^ w ≤ x → 2 ^ (w - y) ≤ x / 2 ^ y
quotient_from w y x h least =
    let s : w ≡ (w - y) + y = omega arith in
    let e : 2 ^ w ≡ 2 ^ (w - y) * 2 ^ y = ap (λ n. 2 ^ n) s ∙ pow-add 2 (w - y) y in
    elim (order (x / 2 ^ y) (2 ^ (w - y))) [
      | inl k ↦ let l = (div-lt_iff_lt-mul {x = x} {y = 2 ^ (w - y)} (positive y)).0 k in absurd (omega (arith, l, e))
      | inr k ↦ k
    ]

same_width : (w y : ℕ) → y < w → (w - 1) - y ≡ (w - y) - 1
same_width w y h = omega arith

-- where the top bit is 0
ashr_positive : (w x y : ℕ) → 1 ≤ w → x < 2 ^ w → x < 2 ^ (w - 1) → cond (nat_lt y w) (store_extended (w - y) w (x / 2 ^ y)) (store_signs w x) ≡ x / 2 ^ y
ashr_positive w x y some small low = elim (order y w) [
  | inl h ↦
      let q : x / 2 ^ y < 2 ^ ((w - y) - 1) = subst (λ n. x / 2 ^ y < 2 ^ n) (same_width w y h) (quotient_below (w - 1) y x (omega arith) low) in
      cond_true (nat_lt y w) _ _ (is_below y w h) ∙ cond_true (nat_lt (x / 2 ^ y) (2 ^ ((w - y) - 1))) (x / 2 ^ y) _ (is_below _ _ q)
  | inr h ↦ cond_false (nat_lt y w) _ _ (not_below y w h) ∙ cond_true (nat_lt x (2 ^ (w - 1))) 0 _ (is_below _ _ low) ∙ sym (divided_out w x y small h)
]

-- where it is 1
ashr_negative : (w x y : ℕ) → 1 ≤ w → x < 2 ^ w → 2 ^ (w - 1) ≤ x → cond (nat_lt y w) (store_extended (w - y) w (x / 2 ^ y)) (store_signs w x) ≡ turned w (turned w x / 2 ^ y)
ashr_negative w x y some small high = elim (order y w) [
  | inl h ↦
      let s : w ≡ (w - y) + y = omega arith in
      let e : 2 ^ w ≡ 2 ^ (w - y) * 2 ^ y = ap (λ n. 2 ^ n) s ∙ pow-add 2 (w - y) y in
      let below : x / 2 ^ y < 2 ^ (w - y) = quotient_below w y x (omega arith) small in
      let from : 2 ^ ((w - y) - 1) ≤ x / 2 ^ y = subst (λ n. 2 ^ n ≤ x / 2 ^ y) (same_width w y h) (quotient_from (w - 1) y x (omega arith) high) in
      let split : x ≡ x / 2 ^ y * 2 ^ y + x % 2 ^ y = omega (arith, mod-add-div x (2 ^ y)) in
      let count : x / 2 ^ y + 1 + (2 ^ (w - y) - 1 - x / 2 ^ y) ≡ 2 ^ (w - y) = omega (arith, below) in
      let whole : 2 ^ w ≡ (x / 2 ^ y + 1 + (2 ^ (w - y) - 1 - x / 2 ^ y)) * 2 ^ y = e ∙ ap (λ n. n * 2 ^ y) (sym count) in
      let quotient : turned w x / 2 ^ y ≡ 2 ^ (w - y) - 1 - x / 2 ^ y = turned_quotient (2 ^ w) (2 ^ y) (x / 2 ^ y) (x % 2 ^ y) (2 ^ (w - y) - 1 - x / 2 ^ y) x whole split (mod-lt x (positive y)) in
      let fewer : 2 ^ (w - y) ≤ 2 ^ w = pow-le-pow_right {n = 2} (omega arith) (omega arith) in
      cond_true (nat_lt y w) _ _ (is_below y w h) ∙ cond_false (nat_lt (x / 2 ^ y) (2 ^ ((w - y) - 1))) _ (x / 2 ^ y + (2 ^ w - 2 ^ (w - y))) (not_below _ _ from)
      ∙ turned_back (2 ^ w) (2 ^ (w - y)) (x / 2 ^ y) (turned w x / 2 ^ y) below fewer quotient
  | inr h ↦
      let less : turned w x < 2 ^ w = omega (arith, positive w) in
      cond_false (nat_lt y w) _ _ (not_below y w h) ∙ cond_false (nat_lt x (2 ^ (w - 1))) 0 (2 ^ w - 1) (not_below _ _ high) ∙ minus_none (2 ^ w - 1) ∙ sym (ap (turned w) (divided_out w (turned w x) y less h))
]
  where
    minus_none : (n : ℕ) → n ≡ n - 0
    minus_none n = omega arith

    turned_back : (T K q p : ℕ) → q < K → K ≤ T → p ≡ K - 1 - q → q + (T - K) ≡ T - 1 - p
    turned_back T K q p a b c = omega arith

ashr : (w x y : ℕ) → 1 ≤ w → x < 2 ^ w → cond (nat_lt y w) (store_extended (w - y) w (x / 2 ^ y)) (store_signs w x) ≡ binary_number binary.AShr w x y
ashr w x y some small = elim (order x (2 ^ (w - 1))) [
  | inl h ↦ ashr_positive w x y some small h ∙ sym (cond_false (has_sign w x) _ (x / 2 ^ y) (not_at_most _ _ h))
  | inr h ↦ ashr_negative w x y some small h ∙ sym (cond_true (has_sign w x) (turned w (turned w x / 2 ^ y)) _ (is_at_most _ _ h))
]

sign : (w v x : ℕ) → 1 ≤ w → w ≤ v → store_extended w v x ≡ extended_number extend.Sign w (v - w) x
sign w v x some wider = elim (order x (2 ^ (w - 1))) [
  | inl h ↦ cond_true (nat_lt x (2 ^ (w - 1))) x _ (is_below _ _ h) ∙ sym (cond_false (has_sign w x) _ x (not_at_most _ _ h))
  | inr h ↦
      let s : v ≡ (v - w) + w = omega arith in
      let e : 2 ^ v ≡ 2 ^ (v - w) * 2 ^ w = ap (λ n. 2 ^ n) s ∙ pow-add 2 (v - w) w in
      cond_false (nat_lt x (2 ^ (w - 1))) x (x + (2 ^ v - 2 ^ w)) (not_below _ _ h) ∙ in_front (2 ^ (v - w)) (2 ^ w) (2 ^ v) x (positive (v - w)) e
      ∙ sym (cond_true (has_sign w x) (ones (v - w) * 2 ^ w + x) _ (is_at_most _ _ h))
]
  where
    in_front : (K W V x : ℕ) → 0 < K → V ≡ K * W → x + (V - W) ≡ (K - 1) * W + x
    in_front zero W V x some e = absurd (omega arith)
    in_front (suc k) W V x some e = let same : suc k - 1 ≡ k = omega arith in let f : V ≡ k * W + W = omega (arith, e) in omega (arith, f, ap (λ n. n * W) same)

pub tables_agree : TablesAgree
tables_agree = record { shl = shl; lshr = lshr; ashr = ashr; sign = sign }
