-- Residues that are read off values.
use Rattle.std.proofs.Common.{◌≡◌, inl, inr, ℕ, zero, suc, ◌+◌, ◌-◌, ◌*◌, ◌/◌, ◌%◌, ◌^◌, ◌<◌, ◌≤◌, Bool, true, false, nat_eq, List, [], ◌∷◌, ◌++◌, length, take, drop, get_or, refl, ap, ◌∙◌, arith}
use Rattle.std.specs.Prelude.{sum}
use Rattle.std.proofs.lemmas.List.Sums.{sum_by-cons}
use Rattle.std.proofs.lemmas.List.{get_or_append_left, get_or-append-add, get_or-drop}
use Rattle.std.proofs.lemmas.Bool.{cases_lt}
use Rattle.std.proofs.Math.Nat.{pow-succ'}
use Rattle.stk_terms.specs.Values.{bit}
use Rattle.stk_terms.specs.Fitting.{AreResidues}
use Rattle.stk_blast.specs.Laws.{low_bits, input_bits}
use Rattle.stk_goal_clauses.specs.Reading.{bits_number, residues_in}

-- so many of the first bits are a number in range
number_below : (w : ℕ) (values : List Bool) → bits_number (take w values) < 2 ^ w
number_below zero values = omega arith
number_below (suc w) [] = omega (arith, pow-succ' 2 w, number_below w [])
number_below (suc w) (b ∷ values) = omega (arith, pow-succ' 2 w, number_below w values, small b)
  where
    small : (b : Bool) → bit b ≤ 1
    small true = omega arith
    small false = omega arith

pub in_range : (ws : List ℕ) (values : List Bool) → AreResidues ws (residues_in ws values)
in_range [] values = tt
in_range (w ∷ ws) values = (number_below w values, in_range ws (drop w values))

-- the lowest bits of 0 are false
no_bits : (w k : ℕ) → get_or (low_bits w 0) k false ≡ false
no_bits zero k = refl
no_bits (suc w) zero = refl
no_bits (suc w) (suc k) = no_bits w k

least : (b : Bool) (m : ℕ) → nat_eq ((bit b + 2 * m) % 2) 1 ≡ b
least true m = let e : (1 + 2 * m) % 2 ≡ 1 = omega arith in ap (λ x. nat_eq x 1) e
least false m = let e : (0 + 2 * m) % 2 ≡ 0 = omega arith in ap (λ x. nat_eq x 1) e

others : (b : Bool) (m : ℕ) → (bit b + 2 * m) / 2 ≡ m
others true m = omega arith
others false m = omega arith

-- the bits of the number that the first bits are
read_low : (w : ℕ) (values : List Bool) (k : ℕ) → k < w → get_or (low_bits w (bits_number (take w values))) k false ≡ get_or values k false
read_low zero values k h = absurd (omega (arith, h))
read_low (suc w) [] k h = no_bits (suc w) k
read_low (suc w) (b ∷ values) zero h = least b (bits_number (take w values))
read_low (suc w) (b ∷ values) (suc k) h = ap (λ n. get_or (low_bits w n) k false) (others b (bits_number (take w values))) ∙ read_low w values k (omega (arith, h))

length-low_bits : (w n : ℕ) → length (low_bits w n) ≡ w
length-low_bits zero n = refl
length-low_bits (suc w) n = ap suc (length-low_bits w (n / 2))

-- the bits of the residues that are read are the first values
pub read_bits : (ws : List ℕ) (values : List Bool) (k : ℕ) → k < sum ws → get_or (input_bits ws (residues_in ws values)) k false ≡ get_or values k false
read_bits [] values k h = absurd (omega (arith, h))
read_bits (w ∷ ws) values k h =
    let n : ℕ = bits_number (take w values) in
    let rest : List Bool = input_bits ws (residues_in ws (drop w values)) in
    let long = length-low_bits w n in
    let total : sum (w ∷ ws) ≡ w + sum ws = sum_by-cons (λ x. x) w ws in
    elim (cases_lt k w) [
      | inl lt ↦ get_or_append_left (low_bits w n) rest false k (omega (arith, lt, long)) ∙ read_low w values k lt
      | inr le ↦
          let j : ℕ = k - w in
          let place : k ≡ length (low_bits w n) + j = omega (arith, le, long) in
          let back : w + j ≡ k = omega (arith, le) in
          ap (λ m. get_or (low_bits w n ++ rest) m false) place ∙ (get_or-append-add (low_bits w n) rest j false
          ∙ (read_bits ws (drop w values) j (omega (arith, h, le, total)) ∙ (get_or-drop w values j false ∙ ap (λ m. get_or values m false) back)))
    ]
