-- Counts of shifts by bits.
use Rattle.std.proofs.Common.{◌≡◌, ℕ, zero, suc, ◌-◌, ◌%◌, ◌^◌, ◌<◌, ◌≤◌, Bool, true, false, not, ◌||◌, ℤ, pos, negsuc, ◌-ℤ◌, refl, sym, ap, subst, ◌∙◌, arith, nat_lt, int_lt, if◌then◌else◌}
use Rattle.std.specs.Int.RustNames.{int_le}
use Rattle.std.proofs.lemmas.Int.{ints}
use Rattle.std.proofs.lemmas.Nat.{pow_pos}
use Rattle.std.proofs.Math.Nat.{mod-eq_of_lt, mod-lt}
use Rattle.stk_ctype.specs.declared.kind.IntKind.{IntKind}
use Rattle.stk_numbers.specs.Kinds.{width_of, is_signed, residue, decoded}
use Rattle.stk_numbers.specs.Values.{is_oversized}
use Rattle.stk_values.specs.Charges.{wider}
use Rattle.stk_values.specs.Standing.{stands}
use Rattle.stk_symbols.proofs.Results.{wide_kind, narrow_kind}
use Rattle.stk_symbols.proofs.Signs.{halves, half_above, half_below}
use Rattle.stk_symbols.proofs.Sizes.{power_wider}

-- the greater of two widths
pub wider_first : (a b : IntKind) → width_of a ≤ wider a b
wider_first a b = by (nat_lt (width_of a) (width_of b)) refl
  where
    by : (t : Bool) → nat_lt (width_of a) (width_of b) ≡ t → width_of a ≤ (if t then width_of b else width_of a)
    by true e = let l = half_below (width_of a) (width_of b) e in omega (arith, l)
    by false e = omega arith

pub wider_second : (a b : IntKind) → width_of b ≤ wider a b
wider_second a b = by (nat_lt (width_of a) (width_of b)) refl
  where
    by : (t : Bool) → nat_lt (width_of a) (width_of b) ≡ t → width_of b ≤ (if t then width_of b else width_of a)
    by true e = omega arith
    by false e = let l = half_above (width_of a) (width_of b) e in omega (arith, l)

pub wider_most : (a b : IntKind) → wider a b ≤ 64
wider_most a b = by (nat_lt (width_of a) (width_of b))
  where
    by : (t : Bool) → (if t then width_of b else width_of a) ≤ 64
    by true = narrow_kind b
    by false = narrow_kind a

-- the count in the greater width, beside the whole number: the number itself, or one that is too large where it is
-- negative
pub data IsCount (W : ℕ) (y : ℤ) (C : ℕ) : Type 0 where
  Plain : y ≡ pos C → C < 2 ^ W → IsCount W y C
  Negative : (n : ℕ) → y ≡ negsuc n → W ≤ C → IsCount W y C

below_power : (n : ℕ) → n < 2 ^ n
below_power zero = omega arith
below_power (suc n) =
    let e : suc n - 1 ≡ n = omega arith in
    let f = halves (suc n) (omega arith) in
    let g : 2 ^ (suc n - 1) ≡ 2 ^ n = ap (λ k. 2 ^ k) e in
    omega (arith, f, g, below_power n)

large : (W : ℕ) → 1 ≤ W → W ≤ 2 ^ (W - 1)
large W o = omega (arith, below_power (W - 1))

pub below_zero : (m M : ℕ) → m < M → pos m -ℤ pos M ≡ negsuc (M - 1 - m)
below_zero m M h = omega (arith, ints)

counted : (s : Bool) (w W m : ℕ) → 1 ≤ w → w ≤ W → m < 2 ^ w → IsCount W (decoded s w m) (residue W (decoded s w m))
counted false w W m o l h =
    let b : m < 2 ^ W = omega (arith, h, power_wider w W l) in
    let e : m % 2 ^ W ≡ m = mod-eq_of_lt b in
    Plain (ap pos (sym e)) (mod-lt m (pow_pos W))
counted true w W m o l h = by (nat_lt m (2 ^ (w - 1))) refl
  where
    by : (t : Bool) → nat_lt m (2 ^ (w - 1)) ≡ t → IsCount W (if t then pos m else pos m -ℤ pos (2 ^ w)) (residue W (if t then pos m else pos m -ℤ pos (2 ^ w)))
    by true e =
        let b : m < 2 ^ W = omega (arith, h, power_wider w W l) in
        Plain (ap pos (sym (mod-eq_of_lt b))) (mod-lt m (pow_pos W))
    by false e =
        let g = half_above m (2 ^ (w - 1)) e in
        let f = halves w o in
        let n = 2 ^ w - 1 - m in
        let z = below_zero m (2 ^ w) h in
        let p = power_wider (w - 1) (W - 1) (omega arith) in
        let q = halves W (omega arith) in
        let r : n % 2 ^ W ≡ n = mod-eq_of_lt (omega (arith, g, f, p, q)) in
        let big : W ≤ 2 ^ W - 1 - n % 2 ^ W = omega (arith, r, g, f, p, q, large W (omega arith)) in
        subst (λ y. IsCount W y (residue W y)) (sym z) (Negative n refl big)

pub count_is : (k ck : IntKind) (m : ℕ) → m < 2 ^ width_of ck → IsCount (wider k ck) (stands ck m) (residue (wider k ck) (stands ck m))
count_is k ck m h = counted (is_signed ck) (width_of ck) (wider k ck) m (wide_kind ck) (wider_second k ck) h

-- a count is oversized where its bits are at least the width
not_less : (C w : ℕ) → not (nat_lt C w) ≡ (int_lt (pos C) (pos 0) || int_le (pos w) (pos C))
not_less C w = grind (arith, ints)

pub oversized_of : (k : IntKind) (W : ℕ) (y : ℤ) (C : ℕ) → width_of k ≤ W → IsCount W y C → not (nat_lt C (width_of k)) ≡ is_oversized k y
oversized_of k W y C l (Plain e b) = not_less C (width_of k) ∙ ap (is_oversized k) (sym e)
oversized_of k W y C l (Negative n e g) =
    let f : nat_lt C (width_of k) ≡ false = (let h : width_of k ≤ C = omega (arith, l, g) in grind arith) in
    ap not f ∙ ap (is_oversized k) (sym e)

pub oversized_bits : (k ck : IntKind) (m : ℕ) → m < 2 ^ width_of ck → not (nat_lt (residue (wider k ck) (stands ck m)) (width_of k)) ≡ is_oversized k (stands ck m)
oversized_bits k ck m h = oversized_of k (wider k ck) (stands ck m) (residue (wider k ck) (stands ck m)) (wider_first k ck) (count_is k ck m h)
