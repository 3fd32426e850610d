-- Residues in wider and narrower widths.
use Rattle.std.proofs.Common.{◌≡◌, ℕ, ◌+◌, ◌-◌, ◌*◌, ◌/◌, ◌%◌, ◌^◌, ◌<◌, ◌≤◌, Bool, true, false, pos, ◌+ℤ◌, ◌-ℤ◌, refl, sym, ap, ◌∙◌, arith, if◌then◌else◌, nat_lt}
use Rattle.std.proofs.lemmas.Int.{ints}
use Rattle.std.proofs.lemmas.Nat.{pow-add}
use Rattle.std.proofs.Math.Nat.{mod-eq_of_lt, div-one, pow-le-pow_right}
use Rattle.stk_terms.specs.Values.{extended}
use Rattle.stk_numbers.specs.Kinds.{residue, decoded}
use Rattle.stk_numbers.proofs.Residues.{residue_is}

pub power_wider : (w v : ℕ) → w ≤ v → 2 ^ w ≤ 2 ^ v
power_wider w v l = pow-le-pow_right {n = 2} (omega arith) l

taken_off : (n k M W : ℕ) → k * W ≡ M → (pos n -ℤ pos M) +ℤ pos (k * W) ≡ pos n
taken_off n k M W e = omega (arith, ints)

raised : (n W V : ℕ) → n < W → W ≤ V → (pos n -ℤ pos W) +ℤ pos (1 * V) ≡ pos (n + (V - W))
raised n W V h l = let e : 1 * V ≡ V = omega arith in rw e (omega (arith, ints))

-- zeros in front
pub zeros_in_front : (w v n : ℕ) → n < 2 ^ w → w ≤ v → n ≡ residue v (decoded false w n)
zeros_in_front w v n h l = sym (mod-eq_of_lt (omega (arith, h, power_wider w v l)))

-- sign bits in front
pub signs_in_front : (w v n : ℕ) → n < 2 ^ w → w ≤ v → extended w v n ≡ residue v (decoded true w n)
signs_in_front w v n h l = by (nat_lt n (2 ^ (w - 1)))
  where
    by : (b : Bool) → (if b then n else n + (2 ^ v - 2 ^ w)) ≡ residue v (if b then pos n else pos n -ℤ pos (2 ^ w))
    by true = sym (mod-eq_of_lt (omega (arith, h, power_wider w v l)))
    by false =
        let p = power_wider w v l in
        sym (residue_is v (pos n -ℤ pos (2 ^ w)) 1 (n + (2 ^ v - 2 ^ w)) (raised n (2 ^ w) (2 ^ v) h p) ∙ mod-eq_of_lt (omega (arith, h, p)))

-- the lowest bits
pub lowest : (s : Bool) (w v n : ℕ) → v ≤ w → n / 2 ^ 0 % 2 ^ v ≡ n % 2 ^ v
lowest s w v n l = ap (λ m. m % 2 ^ v) (div-one n)

pub lowest_stand : (s : Bool) (w v n : ℕ) → v ≤ w → n % 2 ^ v ≡ residue v (decoded s w n)
lowest_stand false w v n l = refl
lowest_stand true w v n l = by (nat_lt n (2 ^ (w - 1)))
  where
    whole : 2 ^ (w - v) * 2 ^ v ≡ 2 ^ w
    whole = sym (pow-add 2 (w - v) v) ∙ (let e : w - v + v ≡ w = omega arith in ap (λ k. 2 ^ k) e)

    by : (b : Bool) → n % 2 ^ v ≡ residue v (if b then pos n else pos n -ℤ pos (2 ^ w))
    by true = refl
    by false = sym (residue_is v (pos n -ℤ pos (2 ^ w)) (2 ^ (w - v)) n (taken_off n (2 ^ (w - v)) (2 ^ w) (2 ^ v) whole))
