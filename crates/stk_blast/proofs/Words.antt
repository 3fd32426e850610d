-- What circuits give, in the words of terms.
use Rattle.std.proofs.Common.{◌≡◌, ℕ, zero, suc, ◌+◌, ◌-◌, ◌*◌, ◌/◌, ◌%◌, ◌^◌, ◌<◌, ◌≤◌, Bool, true, false, pos, ◌-ℤ◌, if◌then◌else◌, nat_eq, nat_lt, List, [], ◌∷◌, length, get_or, refl, sym, ap, ◌∙◌, arith}
use Rattle.std.specs.Prelude.{int_lt}
use Rattle.std.proofs.lemmas.Int.{ints}
use Rattle.std.proofs.lemmas.Bool.{ltb-false, ltb-true, lt-ltb, le-ltb, le-leb, lt-leb}
use Rattle.std.proofs.lemmas.Nat.{pow_pos, pow-add, shr_split, mod_below, mul-le}
use Rattle.std.proofs.Math.Nat.{pow-succ', add-mul, mod-eq_of_lt, add-mod_right, div-eq_of_lt, pow-le-pow_right}
use Rattle.stk_gates.specs.declared.edge.Edge.{Edge}
use Rattle.stk_gates.specs.Edges.{edge_value}
use Rattle.stk_arith.specs.Rows.{bit, number, signed_place, is_less}
use Rattle.stk_arith.specs.Shifts.{shifted_left, is_negative, shifted_right}
use Rattle.stk_arith.proofs.LeftShifts.{shifted_left-over}
use Rattle.stk_arith.proofs.Shifting.{complement_shift}
use Rattle.stk_arith.specs.Words.{extended as row_extended}
use Rattle.stk_terms.specs.Values.{bit as term_bit, is_positive, signed, extended, sign_bits}

-- the number of a row of one edge
pub number-alone : (gates : ℕ → Bool) (row : List Edge) (e : Edge) (v : Bool) → row ≡ e ∷ [] → edge_value gates e ≡ v → number gates row ≡ term_bit v
number-alone gates row e v is value = ap (number gates) is ∙ ((λ j. bit (value j) + 2 * 0) ∙ one v)
  where
    one : (v : Bool) → bit v + 2 * 0 ≡ term_bit v
    one true = refl
    one false = refl

-- the edge of a row of one edge tells its number
pub chosen-by : (gates : ℕ → Bool) (row : List Edge) (d : Edge) (x y : ℕ) → length row ≡ 1 → (if edge_value gates (get_or row 0 d) then x else y) ≡ (if nat_eq (number gates row) 1 then x else y)
chosen-by gates [] d x y h = absurd (omega arith)
chosen-by gates (e ∷ []) d x y h = by (edge_value gates e)
  where
    by : (v : Bool) → (if v then x else y) ≡ (if nat_eq (bit v + 2 * 0) 1 then x else y)
    by true = refl
    by false = refl
chosen-by gates (e ∷ f ∷ row) d x y h = absurd (omega arith)

twice : (w : ℕ) → 0 < w → 2 ^ w ≡ 2 * 2 ^ (w - 1)
twice zero h = elim h [ ]
twice (suc w) h = pow-succ' 2 w ∙ ap (λ n. 2 * 2 ^ n) (let e : w ≡ suc w - 1 = omega arith in e)

-- a number's place in the order with a sign
place-low : (w p x : ℕ) → 2 ^ (w - 1) ≡ p → 2 ^ w ≡ 2 * p → x < p → signed_place w x ≡ x + p
place-low w p x e f h = (λ j. (x + e j) % f j) ∙ mod-eq_of_lt (omega arith)

place-high : (w p x : ℕ) → 2 ^ (w - 1) ≡ p → 2 ^ w ≡ 2 * p → p ≤ x → x < 2 * p → signed_place w x ≡ x - p
place-high w p x e f h l =
    let all : x + p ≡ (x - p) + 2 * p = omega arith in
    (λ j. (x + e j) % f j) ∙ (ap (λ n. n % (2 * p)) all ∙ (add-mod_right (x - p) (2 * p) ∙ mod-eq_of_lt (omega arith)))

-- the order of the places is that of the signed numbers
pub less-signed : (w x y : ℕ) → 0 < w → x < 2 ^ w → y < 2 ^ w → is_less true w x y ≡ int_lt (signed w x) (signed w y)
less-signed w x y some lx ly = by (is_positive w x) (is_positive w y) refl refl
  where
    double : 2 ^ w ≡ 2 * 2 ^ (w - 1)
    double = twice w some

    at : (s t : Bool) → is_positive w x ≡ s → is_positive w y ≡ t → int_lt (signed w x) (signed w y) ≡ int_lt (if s then pos x else pos x -ℤ pos (2 ^ w)) (if t then pos y else pos y -ℤ pos (2 ^ w))
    at s t e f = λ j. int_lt (if e j then pos x else pos x -ℤ pos (2 ^ w)) (if f j then pos y else pos y -ℤ pos (2 ^ w))

    by : (s t : Bool) → is_positive w x ≡ s → is_positive w y ≡ t → is_less true w x y ≡ int_lt (signed w x) (signed w y)
    by true true e f =
        let a = ltb-true x (2 ^ (w - 1)) e in
        let b = ltb-true y (2 ^ (w - 1)) f in
        (λ j. nat_lt (place-low w (2 ^ (w - 1)) x refl double a j) (place-low w (2 ^ (w - 1)) y refl double b j)) ∙ (pp x y (2 ^ (w - 1)) ∙ sym (at true true e f))
      where
        pp : (m n k : ℕ) → nat_lt (m + k) (n + k) ≡ int_lt (pos m) (pos n)
        pp m n k = grind (arith, ints)
    by true false e f =
        let a = ltb-true x (2 ^ (w - 1)) e in
        let b = ltb-false y (2 ^ (w - 1)) f in
        (λ j. nat_lt (place-low w (2 ^ (w - 1)) x refl double a j) (place-high w (2 ^ (w - 1)) y refl double b (omega (arith, double)) j)) ∙ (pn x y (2 ^ (w - 1)) (2 ^ w) a b double ∙ sym (at true false e f))
      where
        pn : (m n k q : ℕ) → m < k → k ≤ n → q ≡ 2 * k → nat_lt (m + k) (n - k) ≡ int_lt (pos m) (pos n -ℤ pos q)
        pn m n k q a b e = grind (arith, ints)
    by false true e f =
        let a = ltb-false x (2 ^ (w - 1)) e in
        let b = ltb-true y (2 ^ (w - 1)) f in
        (λ j. nat_lt (place-high w (2 ^ (w - 1)) x refl double a (omega (arith, double)) j) (place-low w (2 ^ (w - 1)) y refl double b j)) ∙ (np x y (2 ^ (w - 1)) (2 ^ w) a (omega (arith, double)) b double ∙ sym (at false true e f))
      where
        np : (m n k q : ℕ) → k ≤ m → m < 2 * k → n < k → q ≡ 2 * k → nat_lt (m - k) (n + k) ≡ int_lt (pos m -ℤ pos q) (pos n)
        np m n k q a l b e = grind (arith, ints)
    by false false e f =
        let a = ltb-false x (2 ^ (w - 1)) e in
        let b = ltb-false y (2 ^ (w - 1)) f in
        (λ j. nat_lt (place-high w (2 ^ (w - 1)) x refl double a (omega (arith, double)) j) (place-high w (2 ^ (w - 1)) y refl double b (omega (arith, double)) j)) ∙ (nn x y (2 ^ (w - 1)) (2 ^ w) a b double ∙ sym (at false false e f))
      where
        nn : (m n k q : ℕ) → k ≤ m → k ≤ n → q ≡ 2 * k → nat_lt (m - k) (n - k) ≡ int_lt (pos m -ℤ pos q) (pos n -ℤ pos q)
        nn m n k q a b e = grind (arith, ints)

-- a number that was inverted
pub inverted-is : (n m p : ℕ) → n + m + 1 ≡ p → n ≡ p - 1 - m
inverted-is n m p e = omega arith

-- the difference of numbers below p
pub difference-is : (n x y p : ℕ) → y < p → n ≡ (x + p - y) % p → n ≡ (x + (p - y)) % p
difference-is n x y p l e = let same : x + p - y ≡ x + (p - y) = omega arith in e ∙ ap (λ m. m % p) same

pub extended-is : (w v x : ℕ) → row_extended w v x ≡ extended w v x
extended-is w v x = by (is_positive w x) refl
  where
    by : (s : Bool) → is_positive w x ≡ s → row_extended w v x ≡ extended w v x
    by true e =
        let l = ltb-true x (2 ^ (w - 1)) e in
        (λ j. if lt-leb (2 ^ (w - 1)) x l j then x + (2 ^ v - 2 ^ w) else x) ∙ sym (λ j. if e j then x else x + (2 ^ v - 2 ^ w))
    by false e =
        let l = ltb-false x (2 ^ (w - 1)) e in
        (λ j. if le-leb (2 ^ (w - 1)) x l j then x + (2 ^ v - 2 ^ w) else x) ∙ sym (λ j. if e j then x else x + (2 ^ v - 2 ^ w))

-- a shift to the left
pub left-is : (w x c : ℕ) → shifted_left w x c ≡ (if nat_lt c w then (x * 2 ^ c) % 2 ^ w else 0)
left-is w x c = by (nat_lt c w) refl
  where
    by : (s : Bool) → nat_lt c w ≡ s → shifted_left w x c ≡ (if nat_lt c w then (x * 2 ^ c) % 2 ^ w else 0)
    by true e = sym (λ j. if e j then (x * 2 ^ c) % 2 ^ w else 0)
    by false e = shifted_left-over w x c (ltb-false c w e) ∙ sym (λ j. if e j then (x * 2 ^ c) % 2 ^ w else 0)

-- nothing is left of a number that is shifted by its width
gone : (w c x : ℕ) → w ≤ c → x < 2 ^ w → x / 2 ^ c ≡ 0
gone w c x h l = let big : 2 ^ w ≤ 2 ^ c = pow-le-pow_right (omega arith) h in div-eq_of_lt (omega arith)

pub right-is : (w x c : ℕ) → x < 2 ^ w → shifted_right false w x c ≡ (if nat_lt c w then x / 2 ^ c else 0)
right-is w x c l = by (nat_lt c w) refl
  where
    by : (s : Bool) → nat_lt c w ≡ s → x / 2 ^ c ≡ (if nat_lt c w then x / 2 ^ c else 0)
    by true e = sym (λ j. if e j then x / 2 ^ c else 0)
    by false e = gone w c x (ltb-false c w e) l ∙ sym (λ j. if e j then x / 2 ^ c else 0)

-- which multiple of q is not larger
at_least : (a b q l m n : ℕ) → l < q → a * q ≡ m → b * q + l ≡ n → m ≤ n → a ≤ b
at_least a b q l m n h e f g = by (nat_lt b a) refl
  where
    by : (t : Bool) → nat_lt b a ≡ t → a ≤ b
    by true k =
        let less = ltb-true b a k in
        let more : (b + 1) * q ≤ a * q = mul-le (b + 1) q a q (omega arith) (omega arith) in
        let parts : (b + 1) * q ≡ b * q + 1 * q = add-mul b 1 q in
        absurd (omega arith)
    by false k = ltb-false b a k

at_most : (a b q l m n : ℕ) → b * q ≡ m → a * q + l ≡ n → n < m → a < b
at_most a b q l m n e f g = by (nat_lt a b) refl
  where
    by : (t : Bool) → nat_lt a b ≡ t → a < b
    by true k = ltb-true a b k
    by false k =
        let more : b * q ≤ a * q = mul-le b q a q (ltb-false a b k) (omega arith) in
        absurd (omega arith)

module _ (w x c : ℕ) (some : 0 < w) (lx : x < 2 ^ w) where
  -- a shift of a number whose sign is set, by less than its width
  part : c < w → 2 ^ (w - 1) ≤ x → (2 ^ (w - c - 1) ≤ x / 2 ^ c) × (shifted_right true w x c ≡ x / 2 ^ c + (2 ^ w - 2 ^ (w - c)))
  part h s =
      let q = 2 ^ c in
      let p = 2 ^ (w - c) in
      let hi = x / q in
      let lo = x % q in
      let whole : p * q ≡ 2 ^ w = sym (pow-add 2 (w - c) c) ∙ ap (λ n. 2 ^ n) (let e : w - c + c ≡ w = omega arith in e) in
      let half : 2 ^ (w - c - 1) * q ≡ 2 ^ (w - 1) = sym (pow-add 2 (w - c - 1) c) ∙ ap (λ n. 2 ^ n) (let e : w - c - 1 + c ≡ w - 1 = omega arith in e) in
      let split : hi * q + lo ≡ x = shr_split x c in
      let low : lo < q = mod_below x q (pow_pos c) in
      let above : 2 ^ (w - c - 1) ≤ hi = at_least (2 ^ (w - c - 1)) hi q lo (2 ^ (w - 1)) x low half split s in
      let below : hi < p = at_most hi p q lo (2 ^ w) x whole split lx in
      let moved : (2 ^ w - 1 - x) / q ≡ p - 1 - hi = (λ j. (sym whole j - 1 - sym split j) / q) ∙ complement_shift p q hi lo below low in
      let wide : p ≤ 2 ^ w = pow-le-pow_right (omega arith) (omega arith) in
      let all : 2 ^ w - 1 - (p - 1 - hi) ≡ hi + (2 ^ w - p) = omega arith in
      (above, ap (λ n. 2 ^ w - 1 - n) moved ∙ all)

  pub right_signed-is : shifted_right (is_negative w x) w x c ≡ (if nat_lt c w then extended (w - c) w (x / 2 ^ c) else sign_bits w x)
  right_signed-is = by (is_positive w x) (nat_lt c w) refl refl
    where
      negative_is : (s : Bool) → is_positive w x ≡ s → is_negative w x ≡ (if s then false else true)
      negative_is true e = lt-leb (2 ^ (w - 1)) x (ltb-true x (2 ^ (w - 1)) e)
      negative_is false e = le-leb (2 ^ (w - 1)) x (ltb-false x (2 ^ (w - 1)) e)

      by : (s t : Bool) → is_positive w x ≡ s → nat_lt c w ≡ t → shifted_right (is_negative w x) w x c ≡ (if nat_lt c w then extended (w - c) w (x / 2 ^ c) else sign_bits w x)
      by true true e f =
          let l = ltb-true x (2 ^ (w - 1)) e in
          let h = ltb-true c w f in
          let q = 2 ^ c in
          let half : 2 ^ (w - c - 1) * q ≡ 2 ^ (w - 1) = sym (pow-add 2 (w - c - 1) c) ∙ ap (λ n. 2 ^ n) (let e : w - c - 1 + c ≡ w - 1 = omega arith in e) in
          let split : x / q * q + x % q ≡ x = shr_split x c in
          let small : x / q < 2 ^ (w - c - 1) = at_most (x / q) (2 ^ (w - c - 1)) q (x % q) (2 ^ (w - 1)) x half split l in
          ap (λ s. shifted_right s w x c) (negative_is true e) ∙ sym ((λ j. if f j then extended (w - c) w (x / q) else sign_bits w x) ∙ (λ j. if lt-ltb (x / q) (2 ^ (w - c - 1)) small j then x / q else x / q + (2 ^ w - 2 ^ (w - c))))
      by true false e f =
          let h = ltb-false c w f in
          ap (λ s. shifted_right s w x c) (negative_is true e) ∙ (gone w c x h lx ∙ sym ((λ j. if f j then extended (w - c) w (x / 2 ^ c) else sign_bits w x) ∙ (λ j. if e j then 0 else 2 ^ w - 1)))
      by false true e f =
          let l = ltb-false x (2 ^ (w - 1)) e in
          let h = ltb-true c w f in
          let r = part h l in
          ap (λ s. shifted_right s w x c) (negative_is false e) ∙ (r.1 ∙ sym ((λ j. if f j then extended (w - c) w (x / 2 ^ c) else sign_bits w x) ∙ (λ j. if le-ltb (x / 2 ^ c) (2 ^ (w - c - 1)) r.0 j then x / 2 ^ c else x / 2 ^ c + (2 ^ w - 2 ^ (w - c)))))
      by false false e f =
          let h = ltb-false c w f in
          let none : (2 ^ w - 1 - x) / 2 ^ c ≡ 0 = gone w c (2 ^ w - 1 - x) h (omega arith) in
          let whole : 2 ^ w - 1 - 0 ≡ 2 ^ w - 1 = omega arith in
          ap (λ s. shifted_right s w x c) (negative_is false e) ∙ (ap (λ n. 2 ^ w - 1 - n) none ∙ (whole ∙ sym ((λ j. if f j then extended (w - c) w (x / 2 ^ c) else sign_bits w x) ∙ (λ j. if e j then 0 else 2 ^ w - 1))))
