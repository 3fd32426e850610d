-- Overflow of sums, differences, products and quotients, by bits.
use Rattle.std.proofs.Common.{◌≡◌, ℕ, zero, suc, ◌+◌, ◌-◌, ◌*◌, ◌%◌, ◌^◌, ◌<◌, ◌≤◌, Bool, true, false, not, ◌&&◌, ℤ, pos, negsuc, ◌-ℤ◌, ◌*ℤ◌, refl, sym, ap, ◌∙◌, arith, nat_eq, nat_lt, if◌then◌else◌}
use Rattle.std.specs.Ordering.{int_eq}
use lib.IntN.{pos-*ℤ-negsuc, negsuc-*ℤ-pos}
use Rattle.std.proofs.lemmas.Int.{ints}
use Rattle.std.proofs.lemmas.Nat.{pow_pos, pow-add}
use Rattle.std.proofs.Math.Nat.{mod-eq_of_lt, mul-le-mul}
use Rattle.stk_ctype.specs.declared.kind.IntKind.{IntKind}
use Rattle.stk_ctype.specs.declared.kind.IntKind.TheVariants as kind
use Rattle.stk_numbers.specs.declared.operators.ArithOp.{ArithOp}
use Rattle.stk_numbers.specs.declared.operators.ArithOp.TheVariants.{Add, Sub, Mul, Div, Rem, And, Xor, Or}
use Rattle.stk_numbers.specs.declared.conditions.UbKind.{UbKind}
use Rattle.stk_numbers.specs.declared.conditions.UbKind.TheVariants as ub
use Rattle.stk_numbers.specs.Kinds.{width_of, is_signed, is_bool, least, fits, residue, decoded, wrap}
use Rattle.stk_numbers.specs.Conditions.{overflows, violates}
use Rattle.stk_numbers.proofs.Residues.{residue_mul, residue_below}
use Rattle.stk_numbers.proofs.Wrapping.{wrap_in_range, wrap_stays}
use Rattle.stk_numbers.proofs.Dividing.{apart_eq, alike_eq}
use Rattle.stk_values.specs.Standing.{stands}
use Rattle.stk_symbols.specs.Standing.{same, is_plus, magnitude}
use Rattle.stk_symbols.specs.Valued.{differ}
use Rattle.stk_symbols.proofs.Signs.{halves, half_above, half_below}
use Rattle.stk_symbols.proofs.Signing.{equal_bits}
use Rattle.stk_symbols.proofs.Sizes.{lowest_stand}
use Rattle.stk_symbols.proofs.Magnitudes.{with_sign, signed_number}

-- by sign bits
pub overflow_of_sum : (p q t : Bool) → (differ (not p) (not t) && differ (not q) (not t)) ≡ (same p q && not (same p t))
overflow_of_sum true true true = refl
overflow_of_sum true true false = refl
overflow_of_sum true false true = refl
overflow_of_sum true false false = refl
overflow_of_sum false true true = refl
overflow_of_sum false true false = refl
overflow_of_sum false false true = refl
overflow_of_sum false false false = refl

pub overflow_of_difference : (p q t : Bool) → (differ (not p) (not q) && differ (not p) (not t)) ≡ (not (same p q) && not (same p t))
overflow_of_difference true true true = refl
overflow_of_difference true true false = refl
overflow_of_difference true false true = refl
overflow_of_difference true false false = refl
overflow_of_difference false true true = refl
overflow_of_difference false true false = refl
overflow_of_difference false false true = refl
overflow_of_difference false false false = refl

-- a number is in the range of a signed kind where it is what its bits stand for
pub fits_bits : (k : IntKind) (z : ℤ) → is_signed k ≡ true → fits k z ≡ int_eq z (decoded true (width_of k) (residue (width_of k) z))
fits_bits k z sign = by (fits k z) refl
  where
    no_bool : (j : IntKind) → is_signed j ≡ true → is_bool j ≡ false
    no_bool kind.Bool e = cc
    no_bool kind.Char e = refl
    no_bool kind.SChar e = refl
    no_bool kind.UChar e = refl
    no_bool kind.Short e = refl
    no_bool kind.UShort e = refl
    no_bool kind.Int e = refl
    no_bool kind.UInt e = refl
    no_bool kind.Long e = refl
    no_bool kind.ULong e = refl
    no_bool kind.LLong e = refl
    no_bool kind.ULLong e = refl

    wrapped : wrap k z ≡ decoded true (width_of k) (residue (width_of k) z)
    wrapped = λ i. if no_bool k sign i then (if int_eq z (pos 0) then pos 0 else pos 1) else decoded (sign i) (width_of k) (residue (width_of k) z)

    by : (b : Bool) → fits k z ≡ b → b ≡ int_eq z (decoded true (width_of k) (residue (width_of k) z))
    by true e = sym (alike_eq z _ (sym (wrap_stays k z e) ∙ wrapped))
    by false e = sym (apart_eq z _ (λ f. let g : fits k z ≡ true = ap (fits k) (f ∙ sym wrapped) ∙ wrap_in_range k z in cc))

-- a number within w signed bits is what its bits stand for
below_true : (m n : ℕ) → m < n → nat_lt m n ≡ true
below_true m n h = grind arith

below_false : (m n : ℕ) → n ≤ m → nat_lt m n ≡ false
below_false m n h = grind arith

high_bits : (n H W : ℕ) → W ≡ H + H → n < H → pos (W - 1 - n) -ℤ pos W ≡ negsuc n
high_bits n H W e h = omega (arith, ints)

pub signed_back : (w : ℕ) (p : Bool) (c : ℕ) → 1 ≤ w → c < 2 ^ (w - 1) → decoded true w (residue w (with_sign p c)) ≡ with_sign p c
signed_back w true c o h =
    let e = halves w o in
    let r : c % 2 ^ w ≡ c = mod-eq_of_lt (omega (arith, e, h)) in
    ap (decoded true w) r ∙ ap (λ b. if b then pos c else pos c -ℤ pos (2 ^ w)) (below_true c (2 ^ (w - 1)) h)
signed_back w false zero o h =
    let r : 0 % 2 ^ w ≡ 0 = mod-eq_of_lt (pow_pos w) in
    ap (decoded true w) r ∙ ap (λ b. if b then pos 0 else pos 0 -ℤ pos (2 ^ w)) (below_true 0 (2 ^ (w - 1)) h)
signed_back w false (suc c) o h =
    let e = halves w o in
    let l : c < 2 ^ (w - 1) = omega (arith, h) in
    let r : c % 2 ^ w ≡ c = mod-eq_of_lt (omega (arith, e, l)) in
    let q = 2 ^ w - 1 - c in
    ap (λ n. decoded true w (2 ^ w - 1 - n)) r ∙ (ap (λ b. if b then pos q else pos q -ℤ pos (2 ^ w)) (below_false q (2 ^ (w - 1)) (omega (arith, e, l))) ∙ high_bits c (2 ^ (w - 1)) (2 ^ w) e l)

-- products by magnitudes
signed_product : (p q : Bool) (a b : ℕ) → with_sign p a *ℤ with_sign q b ≡ with_sign (same p q) (a * b)
signed_product true true a b = refl
signed_product true false a zero = let e : a * 0 ≡ 0 = omega arith in rw e refl
signed_product true false a (suc b) = pos-*ℤ-negsuc a b
signed_product false true zero b = let e : 0 * b ≡ 0 = omega arith in rw e refl
signed_product false true (suc a) b = negsuc-*ℤ-pos a b
signed_product false false zero zero = refl
signed_product false false zero (suc b) = pos-*ℤ-negsuc 0 b ∙ (let e : 0 * suc b ≡ 0 = omega arith in rw e refl)
signed_product false false (suc a) zero = negsuc-*ℤ-pos a 0 ∙ (let e : suc a * 0 ≡ 0 = omega arith in rw e refl)
signed_product false false (suc a) (suc b) = refl

magnitude_within : (w n : ℕ) → 1 ≤ w → n < 2 ^ w → magnitude w n ≤ 2 ^ (w - 1)
magnitude_within w n o h = by (nat_lt n (2 ^ (w - 1))) refl
  where
    by : (b : Bool) → nat_lt n (2 ^ (w - 1)) ≡ b → (if b then n else (2 ^ w - n) % 2 ^ w) ≤ 2 ^ (w - 1)
    by true e = let l = half_below n (2 ^ (w - 1)) e in omega (arith, l)
    by false e =
        let l = half_above n (2 ^ (w - 1)) e in
        let z = pow_pos (w - 1) in
        let r : (2 ^ w - n) % 2 ^ w ≡ 2 ^ w - n = mod-eq_of_lt (omega (arith, h, l, z)) in
        let f = halves w o in
        omega (arith, r, f, l)

twice : (w : ℕ) → 1 ≤ w → 2 ^ (2 * w - 1) ≡ 2 ^ (w - 1) * 2 ^ (w - 1) + 2 ^ (w - 1) * 2 ^ (w - 1)
twice w o =
    let e : 2 * w - 1 ≡ w + (w - 1) = omega arith in
    let f = halves w o in
    ap (λ n. 2 ^ n) e ∙ (pow-add 2 w (w - 1) ∙ (ap (λ n. n * 2 ^ (w - 1)) f ∙ omega arith))

module _ (w n m : ℕ) (o : 1 ≤ w) (h : n < 2 ^ w) (l : m < 2 ^ w) where
  abbrev z : ℤ
  z = decoded true w n *ℤ decoded true w m

  signed_z : z ≡ with_sign (same (is_plus w n) (is_plus w m)) (magnitude w n * magnitude w m)
  signed_z = (λ i. signed_number w n o h i *ℤ signed_number w m o l i) ∙ signed_product (is_plus w n) (is_plus w m) (magnitude w n) (magnitude w m)

  small : magnitude w n * magnitude w m < 2 ^ (2 * w - 1)
  small =
      let a = magnitude_within w n o h in
      let b = magnitude_within w m o l in
      let p : magnitude w n * magnitude w m ≤ 2 ^ (w - 1) * 2 ^ (w - 1) = mul-le-mul a b in
      let q : 0 < 2 ^ (w - 1) * 2 ^ (w - 1) = grind (arith, pow_pos (w - 1)) in
      omega (arith, p, q, twice w o)

  whole : decoded true (2 * w) (residue (2 * w) z) ≡ z
  whole = ap (λ y. decoded true (2 * w) (residue (2 * w) y)) signed_z ∙ (signed_back (2 * w) (same (is_plus w n) (is_plus w m)) (magnitude w n * magnitude w m) (omega arith) small ∙ sym signed_z)

  abbrev d : ℤ
  d = decoded true w (residue w z)

  small_d : magnitude w (residue w z) < 2 ^ (2 * w - 1)
  small_d =
      let a = magnitude_within w (residue w z) o (residue_below w z) in
      let b = pow_pos (w - 1) in
      let p : 2 ^ (w - 1) * 1 ≤ 2 ^ (w - 1) * 2 ^ (w - 1) = mul-le-mul (omega arith) (omega arith) in
      omega (arith, a, b, p, twice w o)

  whole_d : decoded true (2 * w) (residue (2 * w) d) ≡ d
  whole_d =
      let e = signed_number w (residue w z) o (residue_below w z) in
      ap (λ y. decoded true (2 * w) (residue (2 * w) y)) e ∙ (signed_back (2 * w) (is_plus w (residue w z)) (magnitude w (residue w z)) (omega arith) small_d ∙ sym e)

  -- the test in twice the width
  pub product_test : (a b p low back : ℕ) → a ≡ residue (2 * w) (decoded true w n) → b ≡ residue (2 * w) (decoded true w m) → p ≡ (a * b) % 2 ^ (2 * w) → low ≡ p % 2 ^ w → back ≡ residue (2 * w) (decoded true w low) → nat_eq p back ≡ int_eq z d
  product_test a b p low back ea eb ep el ek =
      let p_is : p ≡ residue (2 * w) z = ep ∙ ((λ i. (ea i * eb i) % 2 ^ (2 * w)) ∙ sym (residue_mul (2 * w) (decoded true w n) (decoded true w m))) in
      let low_is : low ≡ residue w z = el ∙ (ap (λ u. u % 2 ^ w) p_is ∙ (lowest_stand true (2 * w) w (residue (2 * w) z) (omega arith) ∙ ap (residue w) whole)) in
      let back_is : back ≡ residue (2 * w) d = ek ∙ ap (λ u. residue (2 * w) (decoded true w u)) low_is in
      (λ i. nat_eq (p_is i) (back_is i)) ∙ (equal_bits true (2 * w) (residue (2 * w) z) (residue (2 * w) d) (residue_below (2 * w) z) (residue_below (2 * w) d) ∙ (λ i. int_eq (whole i) (whole_d i)))

-- quotients
least_stands : (k : IntKind) → is_signed k ≡ true → stands k (2 ^ (width_of k - 1)) ≡ least k
least_stands kind.Bool e = cc
least_stands kind.Char e = refl
least_stands kind.SChar e = refl
least_stands kind.UChar e = cc
least_stands kind.Short e = refl
least_stands kind.UShort e = cc
least_stands kind.Int e = refl
least_stands kind.UInt e = cc
least_stands kind.Long e = refl
least_stands kind.ULong e = cc
least_stands kind.LLong e = refl
least_stands kind.ULLong e = cc

minus_stands : (k : IntKind) → is_signed k ≡ true → stands k (2 ^ width_of k - 1) ≡ negsuc 0
minus_stands kind.Bool e = cc
minus_stands kind.Char e = refl
minus_stands kind.SChar e = refl
minus_stands kind.UChar e = cc
minus_stands kind.Short e = refl
minus_stands kind.UShort e = cc
minus_stands kind.Int e = refl
minus_stands kind.UInt e = cc
minus_stands kind.Long e = refl
minus_stands kind.ULong e = cc
minus_stands kind.LLong e = refl
minus_stands kind.ULLong e = cc

pub quotient_test : (k : IntKind) (n m : ℕ) → is_signed k ≡ true → 1 ≤ width_of k → n < 2 ^ width_of k → m < 2 ^ width_of k → (nat_eq n (2 ^ (width_of k - 1)) && nat_eq m (2 ^ width_of k - 1)) ≡ (int_eq (stands k n) (least k) && int_eq (stands k m) (negsuc 0))
quotient_test k n m sign o h l =
    let f = halves (width_of k) o in
    let z = pow_pos (width_of k - 1) in
    let a = equal_bits (is_signed k) (width_of k) n (2 ^ (width_of k - 1)) h (omega (arith, f, z)) in
    let b = equal_bits (is_signed k) (width_of k) m (2 ^ width_of k - 1) l (omega (arith, f, z)) in
    (λ i. (a ∙ ap (int_eq (stands k n)) (least_stands k sign)) i && (b ∙ ap (int_eq (stands k m)) (minus_stands k sign)) i)

pub no_overflow : (op : ArithOp) (k : IntKind) (x y : ℤ) → (op ≡ Add → ⊥) → (op ≡ Sub → ⊥) → (op ≡ Mul → ⊥) → (op ≡ Div → ⊥) → (op ≡ Rem → ⊥) → overflows op k x y ≡ false
no_overflow Add k x y a b c d e = absurd (a refl)
no_overflow Sub k x y a b c d e = absurd (b refl)
no_overflow Mul k x y a b c d e = absurd (c refl)
no_overflow Div k x y a b c d e = absurd (d refl)
no_overflow Rem k x y a b c d e = absurd (e refl)
no_overflow And k x y a b c d e = refl
no_overflow Xor k x y a b c d e = refl
no_overflow Or k x y a b c d e = refl

pub no_condition : (what : UbKind) (op : ArithOp) (k : IntKind) (x y : ℤ) → (what ≡ ub.Overflow → ⊥) → (what ≡ ub.Zero → ⊥) → violates what op k x y ≡ false
no_condition ub.Overflow op k x y a b = absurd (a refl)
no_condition ub.Zero op k x y a b = absurd (b refl)
no_condition ub.Shift op k x y a b = refl
no_condition ub.Null op k x y a b = refl
no_condition ub.Pointer op k x y a b = refl
no_condition ub.Bounds op k x y a b = refl
no_condition ub.AbsValue op k x y a b = refl
no_condition ub.Overlap op k x y a b = refl
