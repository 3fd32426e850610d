-- Quotients and remainders of signed numbers by their magnitudes.
use Rattle.std.proofs.Common.{◌≡◌, ℕ, zero, suc, ◌+◌, ◌-◌, ◌/◌, ◌%◌, ◌^◌, ◌<◌, ◌≤◌, Bool, true, false, not, ℤ, pos, neg_ℤ, ◌-ℤ◌, refl, sym, ap, ◌∙◌, arith, nat_eq, nat_lt, if◌then◌else◌}
use Rattle.std.specs.Int.RustNames.{int_div, int_rem, unsigned_abs}
use Rattle.std.specs.Ordering.{int_eq}
use Rattle.std.proofs.lemmas.Int.{ints}
use Rattle.std.proofs.lemmas.Nat.{pow_pos}
use Rattle.std.proofs.Math.Nat.{mod-eq_of_lt, mod-lt, div-le_self, mod-le, zero-div, zero-mod, zero-add}
use Rattle.stk_ctype.specs.declared.kind.IntKind.{IntKind}
use Rattle.stk_numbers.specs.declared.operators.ArithOp.TheVariants.{Div, Rem}
use Rattle.stk_numbers.specs.Kinds.{width_of, is_signed, is_bool, residue, decoded}
use Rattle.stk_numbers.specs.Values.{exact, arith as arith_of, bits_of}
use Rattle.stk_numbers.proofs.Wrapping.{wrap_congruent}
use Rattle.stk_numbers.proofs.Residues.{residue_sub}
use Rattle.stk_numbers.proofs.Dividing.{abs_neg, apart_eq, alike_eq}
use Rattle.stk_terms.specs.Values.{bit}
use Rattle.stk_values.specs.Standing.{stands}
use Rattle.stk_symbols.specs.Standing.{magnitude, turned_bits, same}
use Rattle.stk_symbols.specs.Valued.{differ}
use Rattle.stk_symbols.proofs.Signs.{half_above}

-- the number of this magnitude, negative unless p
abbrev pub with_sign : Bool → ℕ → ℤ
with_sign true a = pos a
with_sign false a = neg_ℤ (pos a)

minus : (n M a : ℕ) → n ≤ M → a ≡ M - n → pos n -ℤ pos M ≡ neg_ℤ (pos a)
minus n M zero h e = omega (arith, ints)
minus n M (suc a) h e = omega (arith, ints)

pub signed_number : (w n : ℕ) → 1 ≤ w → n < 2 ^ w → decoded true w n ≡ with_sign (nat_lt n (2 ^ (w - 1))) (magnitude w n)
signed_number w n o h = by (nat_lt n (2 ^ (w - 1))) refl
  where
    by : (b : Bool) → nat_lt n (2 ^ (w - 1)) ≡ b → (if b then pos n else pos n -ℤ pos (2 ^ w)) ≡ with_sign b (if b then n else (2 ^ w - n) % 2 ^ w)
    by true e = refl
    by false e =
        let l : 2 ^ (w - 1) ≤ n = half_above n (2 ^ (w - 1)) e in
        let z = pow_pos (w - 1) in
        minus n (2 ^ w) ((2 ^ w - n) % 2 ^ w) (omega (arith, h)) (mod-eq_of_lt (omega (arith, h, l, z)))

pub magnitude_below : (w n : ℕ) → n < 2 ^ w → magnitude w n < 2 ^ w
magnitude_below w n h = by (nat_lt n (2 ^ (w - 1)))
  where
    by : (b : Bool) → (if b then n else (2 ^ w - n) % 2 ^ w) < 2 ^ w
    by true = h
    by false = mod-lt (2 ^ w - n) (pow_pos w)

signed_quotient : (p q : Bool) (a b : ℕ) → 0 < b → int_div (with_sign p a) (with_sign q b) ≡ with_sign (same p q) (a / b)
signed_quotient true true a b h = refl
signed_quotient true false a zero h = absurd (omega arith)
signed_quotient true false a (suc b) h = refl
signed_quotient false true zero b h = let e : 0 / b ≡ 0 = zero-div b in rw e refl
signed_quotient false true (suc a) b h = refl
signed_quotient false false a zero h = absurd (omega arith)
signed_quotient false false zero (suc b) h = let e : 0 / suc b ≡ 0 = zero-div (suc b) in rw e refl
signed_quotient false false (suc a) (suc b) h = refl

abs_sign : (q : Bool) (b : ℕ) → unsigned_abs (with_sign q b) ≡ b
abs_sign true b = refl
abs_sign false b = abs_neg b

signed_remainder : (p : Bool) (a : ℕ) (y : ℤ) → int_rem (with_sign p a) y ≡ with_sign p (a % unsigned_abs y)
signed_remainder true a y = refl
signed_remainder false zero y = let e : 0 % unsigned_abs y ≡ 0 = zero-mod (unsigned_abs y) in rw e refl
signed_remainder false (suc a) y = refl

from_zero : (c : ℕ) → pos 0 -ℤ pos c ≡ neg_ℤ (pos c)
from_zero zero = refl
from_zero (suc c) = omega (arith, ints)

pub sign_bits_of : (w : ℕ) (p : Bool) (c : ℕ) → c < 2 ^ w → turned_bits w p c ≡ residue w (with_sign p c)
sign_bits_of w true c h = sym (mod-eq_of_lt h)
sign_bits_of w false c h =
    let z : residue w (pos 0) ≡ 0 = mod-eq_of_lt (pow_pos w) in
    let y : residue w (pos c) ≡ c = mod-eq_of_lt h in
    sym (ap (residue w) (sym (from_zero c)) ∙ (residue_sub w (pos 0) (pos c) ∙ ((λ i. (z i + (2 ^ w - y i)) % 2 ^ w) ∙ ap (λ n. n % 2 ^ w) (zero-add (2 ^ w - c)))))

no_sign : (q : Bool) (b : ℕ) → with_sign q b ≡ pos 0 → b ≡ 0
no_sign true b e = ap unsigned_abs e
no_sign false b e = sym (abs_neg b) ∙ ap unsigned_abs e

no_number : (s : Bool) → with_sign s 0 ≡ pos 0
no_number true = refl
no_number false = refl

module _ (w : ℕ) (p q : Bool) (a b : ℕ) (h : a < 2 ^ w) where
  quotient_by : (t : Bool) → nat_eq b 0 ≡ t → turned_bits w (same p q) (if nat_eq b 0 then 0 else a / b) ≡ residue w (if int_eq (with_sign q b) (pos 0) then pos 0 else int_div (with_sign p a) (with_sign q b))
  quotient_by true e =
      let z : b ≡ 0 = grind arith in
      let f : int_eq (with_sign q b) (pos 0) ≡ true = alike_eq (with_sign q b) (pos 0) (ap (with_sign q) z ∙ no_number q) in
      (λ i. turned_bits w (same p q) (if e i then 0 else a / b)) ∙ (sign_bits_of w (same p q) 0 (pow_pos w) ∙ (ap (residue w) (no_number (same p q)) ∙ (λ i. residue w (if sym f i then pos 0 else int_div (with_sign p a) (with_sign q b)))))
  quotient_by false e =
      let z : 0 < b = grind arith in
      let f : int_eq (with_sign q b) (pos 0) ≡ false = apart_eq (with_sign q b) (pos 0) (λ g. let y : b ≡ 0 = no_sign q b g in omega (arith, y, z)) in
      (λ i. turned_bits w (same p q) (if e i then 0 else a / b)) ∙ (sign_bits_of w (same p q) (a / b) (omega (arith, h, div-le_self a b)) ∙ (ap (residue w) (sym (signed_quotient p q a b z)) ∙ (λ i. residue w (if sym f i then pos 0 else int_div (with_sign p a) (with_sign q b)))))

  remainder_by : (t : Bool) → nat_eq b 0 ≡ t → turned_bits w p (if nat_eq b 0 then a else a % b) ≡ residue w (if int_eq (with_sign q b) (pos 0) then with_sign p a else int_rem (with_sign p a) (with_sign q b))
  remainder_by true e =
      let z : b ≡ 0 = grind arith in
      let f : int_eq (with_sign q b) (pos 0) ≡ true = alike_eq (with_sign q b) (pos 0) (ap (with_sign q) z ∙ no_number q) in
      (λ i. turned_bits w p (if e i then a else a % b)) ∙ (sign_bits_of w p a h ∙ (λ i. residue w (if sym f i then with_sign p a else int_rem (with_sign p a) (with_sign q b))))
  remainder_by false e =
      let z : 0 < b = grind arith in
      let f : int_eq (with_sign q b) (pos 0) ≡ false = apart_eq (with_sign q b) (pos 0) (λ g. let y : b ≡ 0 = no_sign q b g in omega (arith, y, z)) in
      (λ i. turned_bits w p (if e i then a else a % b)) ∙ (sign_bits_of w p (a % b) (omega (arith, h, mod-le a b)) ∙ ((λ i. residue w (sym (signed_remainder p a (with_sign q b) ∙ ap (λ d. with_sign p (a % d)) (abs_sign q b)) i)) ∙ (λ i. residue w (if sym f i then with_sign p a else int_rem (with_sign p a) (with_sign q b)))))

-- the bits of signed quotients and remainders
module _ (k : IntKind) (n m : ℕ) (other : is_bool k ≡ false) (sign : is_signed k ≡ true) (o : 1 ≤ width_of k) (h : n < 2 ^ width_of k) (l : m < 2 ^ width_of k) where
  abbrev w : ℕ
  w = width_of k

  abbrev p : Bool
  p = nat_lt n (2 ^ (width_of k - 1))

  abbrev q : Bool
  q = nat_lt m (2 ^ (width_of k - 1))

  left : with_sign p (magnitude w n) ≡ stands k n
  left = sym (ap (λ s. decoded s w n) sign ∙ signed_number w n o h)

  right : with_sign q (magnitude w m) ≡ stands k m
  right = sym (ap (λ s. decoded s w m) sign ∙ signed_number w m o l)

  pub signed_quotient_bits : turned_bits w (same p q) (if nat_eq (magnitude w m) 0 then 0 else magnitude w n / magnitude w m) ≡ bits_of k (arith_of Div k (stands k n) (stands k m))
  signed_quotient_bits =
      quotient_by w p q (magnitude w n) (magnitude w m) (magnitude_below w n h) (nat_eq (magnitude w m) 0) refl
      ∙ ((λ i. residue w (exact Div k (left i) (right i))) ∙ sym (wrap_congruent k (exact Div k (stands k n) (stands k m)) other))

  pub signed_remainder_bits : turned_bits w p (if nat_eq (magnitude w m) 0 then magnitude w n else magnitude w n % magnitude w m) ≡ bits_of k (arith_of Rem k (stands k n) (stands k m))
  signed_remainder_bits =
      remainder_by w p q (magnitude w n) (magnitude w m) (magnitude_below w n h) (nat_eq (magnitude w m) 0) refl
      ∙ ((λ i. residue w (exact Rem k (left i) (right i))) ∙ sym (wrap_congruent k (exact Rem k (stands k n) (stands k m)) other))

-- what a choice by a sign gives
pub turned_choice : (w n : ℕ) (t : ℕ) (b : Bool) → t ≡ bit b → (if nat_eq t 1 then (2 ^ w - n) % 2 ^ w else n) ≡ turned_bits w (not b) n
turned_choice w n t true e = rw e refl
turned_choice w n t false e = rw e refl

pub signs_same : (p q : Bool) → not (differ (not p) (not q)) ≡ same p q
signs_same true true = refl
signs_same true false = refl
signs_same false true = refl
signs_same false false = refl

pub not_not : (b : Bool) → not (not b) ≡ b
not_not true = refl
not_not false = refl
