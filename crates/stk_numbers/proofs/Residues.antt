-- Residues of sums, differences and products are those of the residues.
use Rattle.std.proofs.Common.{◌≡◌, ℕ, zero, suc, ◌+◌, ◌-◌, ◌*◌, ◌%◌, ◌/◌, ◌^◌, ◌<◌, Bool, true, false, ℤ, pos, negsuc, ◌+ℤ◌, ◌-ℤ◌, ◌*ℤ◌, refl, sym, ap, subst, ◌∙◌, arith, if◌then◌else◌, nat_lt}
use lib.IntN.{neg_ℤ, pos-*ℤ-negsuc, negsuc-*ℤ-pos}
use Rattle.std.proofs.lemmas.Int.{ints, int_rem_euclid_is}
use Rattle.std.specs.Int.{int_rem_euclid}
use Rattle.std.proofs.lemmas.Nat.{pow_pos, mul-mod}
use Rattle.std.proofs.Math.Nat.{add-mod, mod-lt, mod-eq_of_lt, add-mul-mod_self_right, div-add-mod, mod-one}
use Rattle.stk_numbers.specs.Kinds.{residue, decoded}

abbrev number : ℤ → ℕ
number (pos n) = n
number (negsuc n) = 0

pub same_number : (m n : ℕ) → pos m ≡ pos n → m ≡ n
same_number m n h = ap number h

rem_is : (w : ℕ) (z : ℤ) → int_rem_euclid z (pos (2 ^ w)) ≡ pos (residue w z)
rem_is w (pos n) = refl
rem_is w (negsuc n) = refl

-- a number that is m, but for some times 2 to the width, has the residue of m
pub residue_is : (w : ℕ) (z : ℤ) (k m : ℕ) → z +ℤ pos (k * 2 ^ w) ≡ pos m → residue w z ≡ m % 2 ^ w
residue_is w z k m h = same_number _ _ (sym (rem_is w z) ∙ int_rem_euclid_is z (pos (2 ^ w)) (2 ^ w) k m (pow_pos w) refl h)

-- a natural number that is congruent, and how many times 2 to the width it is away
abbrev up : ℕ → ℤ → ℕ
up M (pos n) = n
up M (negsuc n) = suc n * (M - 1)

abbrev times : ℤ → ℕ
times (pos n) = 0
times (negsuc n) = suc n

plus : (n t : ℕ) → negsuc n +ℤ pos (t + suc n) ≡ pos t
plus n t = grind (arith, ints)

minus : (n M : ℕ) → 0 < M → negsuc n +ℤ pos (suc n * M) ≡ pos (suc n * (M - 1))
minus n zero h = absurd (omega arith)
minus n (suc k) h =
    let e : suc k - 1 ≡ k = omega arith in
    let f : suc n * suc k ≡ suc n * k + suc n = omega arith in
    rw (e, f) (plus n (suc n * k))

lifted : (M : ℕ) (z : ℤ) → 0 < M → z +ℤ pos (times z * M) ≡ pos (up M z)
lifted M (pos n) h = let e : 0 * M ≡ 0 = omega arith in rw e (omega (arith, ints))
lifted M (negsuc n) h = minus n M h

pub residue_up : (w : ℕ) (z : ℤ) → residue w z ≡ up (2 ^ w) z % 2 ^ w
residue_up w z = residue_is w z (times z) (up (2 ^ w) z) (lifted (2 ^ w) z (pow_pos w))

pub residue_below : (w : ℕ) (z : ℤ) → residue w z < 2 ^ w
residue_below w z = subst (λ n. n < 2 ^ w) (sym (residue_up w z)) (mod-lt (up (2 ^ w) z) (pow_pos w))

sum : (x y : ℤ) (a b c d m n : ℕ) → x +ℤ pos a ≡ pos m → y +ℤ pos b ≡ pos n → c ≡ a + b → d ≡ m + n → (x +ℤ y) +ℤ pos c ≡ pos d
sum x y a b c d m n h k e f = omega (arith, ints)

pub residue_add : (w : ℕ) (x y : ℤ) → residue w (x +ℤ y) ≡ (residue w x + residue w y) % 2 ^ w
residue_add w x y =
    let M = 2 ^ w in
    let d : (times x + times y) * M ≡ times x * M + times y * M = omega arith in
    residue_is w (x +ℤ y) (times x + times y) (up M x + up M y) (sum x y (times x * M) (times y * M) _ _ (up M x) (up M y) (lifted M x (pow_pos w)) (lifted M y (pow_pos w)) d refl)
    ∙ (add-mod (up M x) (up M y) M ∙ (λ i. (sym (residue_up w x) i + sym (residue_up w y) i) % M))

difference : (x y : ℤ) (a b c d m n q r M : ℕ) → x +ℤ pos a ≡ pos m → y +ℤ pos b ≡ pos n → n ≡ q + r → r < M → c ≡ a + q + M → d ≡ m + (M - r) + b → (x -ℤ y) +ℤ pos c ≡ pos d
difference x y a b c d m n q r M h k e l f g = omega (arith, ints)

pub residue_sub : (w : ℕ) (x y : ℤ) → residue w (x -ℤ y) ≡ (residue w x + (2 ^ w - residue w y)) % 2 ^ w
residue_sub w x y =
    let M = 2 ^ w in
    let q = up M y / M in
    let e : up M y ≡ q * M + residue w y = omega (arith, div-add-mod (up M y) M, residue_up w y) in
    let d : (times x + q + 1) * M ≡ times x * M + q * M + M = omega arith in
    let r = residue w y in
    residue_is w (x -ℤ y) (times x + q + 1) (up M x + (M - r) + times y * M) (difference x y (times x * M) (times y * M) _ _ (up M x) (up M y) (q * M) r M (lifted M x (pow_pos w)) (lifted M y (pow_pos w)) e (residue_below w y) d refl)
    ∙ (add-mul-mod_self_right (up M x + (M - r)) (times y) M ∙ (add-mod (up M x) (M - r) M ∙ (ap (λ n. (n + (M - r) % M) % M) (sym (residue_up w x) ∙ sym (mod-eq_of_lt (residue_below w x))) ∙ sym (add-mod (residue w x) (M - r) M))))

up_minus : (M p : ℕ) → up M (neg_ℤ (pos p)) ≡ p * (M - 1)
up_minus M zero = omega arith
up_minus M (suc p) = refl

square : (p k : ℕ) → (p * (k * k)) % suc k ≡ p % suc k
square p zero = mod-one (p * (0 * 0)) ∙ sym (mod-one p)
square p (suc j) =
    let e : p * (suc j * suc j) ≡ p + (p * j) * suc (suc j) = omega arith in
    ap (λ n. n % suc (suc j)) e ∙ add-mul-mod_self_right p (p * j) (suc (suc j))

both_minus : (M m n : ℕ) → 0 < M → ((m * (M - 1)) * (n * (M - 1))) % M ≡ (m * n) % M
both_minus zero m n h = absurd (omega arith)
both_minus (suc k) m n h =
    let e : suc k - 1 ≡ k = omega arith in
    let f : (m * k) * (n * k) ≡ (m * n) * (k * k) = omega arith in
    ap (λ j. ((m * j) * (n * j)) % suc k) e ∙ (ap (λ j. j % suc k) f ∙ square (m * n) k)

product : (M : ℕ) (x y : ℤ) → 0 < M → up M (x *ℤ y) % M ≡ (up M x * up M y) % M
product M (pos m) (pos n) h = refl
product M (pos m) (negsuc n) h =
    let f : (m * suc n) * (M - 1) ≡ m * (suc n * (M - 1)) = omega arith in
    ap (λ z. up M z % M) (pos-*ℤ-negsuc m n) ∙ ap (λ j. j % M) (up_minus M (m * suc n) ∙ f)
product M (negsuc m) (pos n) h =
    let f : (suc m * n) * (M - 1) ≡ (suc m * (M - 1)) * n = omega arith in
    ap (λ z. up M z % M) (negsuc-*ℤ-pos m n) ∙ ap (λ j. j % M) (up_minus M (suc m * n) ∙ f)
product M (negsuc m) (negsuc n) h = sym (both_minus M (suc m) (suc n) h)

pub residue_mul : (w : ℕ) (x y : ℤ) → residue w (x *ℤ y) ≡ (residue w x * residue w y) % 2 ^ w
residue_mul w x y =
    let M = 2 ^ w in
    residue_up w (x *ℤ y) ∙ (product M x y (pow_pos w) ∙ (mul-mod (up M x) (up M y) M ∙ (λ i. (sym (residue_up w x) i * sym (residue_up w y) i) % M)))

minus_all : (n M : ℕ) → (pos n -ℤ pos M) +ℤ pos (1 * M) ≡ pos n
minus_all n M = let e : 1 * M ≡ M = omega arith in rw e (omega (arith, ints))

-- the residue of what bits stand for are the bits
pub residue_decoded : (s : Bool) (w n : ℕ) → n < 2 ^ w → residue w (decoded s w n) ≡ n
residue_decoded false w n h = mod-eq_of_lt h
residue_decoded true w n h = by (nat_lt n (2 ^ (w - 1)))
  where
    by : (b : Bool) → residue w (if b then pos n else pos n -ℤ pos (2 ^ w)) ≡ n
    by true = mod-eq_of_lt h
    by false = residue_is w (pos n -ℤ pos (2 ^ w)) 1 n (minus_all n (2 ^ w)) ∙ mod-eq_of_lt h

pub same_bits : (s : Bool) (w m n : ℕ) → m < 2 ^ w → n < 2 ^ w → decoded s w m ≡ decoded s w n → m ≡ n
same_bits s w m n h k e = sym (residue_decoded s w m h) ∙ (ap (residue w) e ∙ residue_decoded s w n k)
