-- Shifts to the left by places.
use Rattle.std.proofs.Common.{◌≡◌, ℕ, ◌+◌, ◌-◌, ◌*◌, ◌%◌, ◌^◌, ◌<◌, ◌≤◌, Bool, true, false, if◌then◌else◌, nat_lt, List, ◌++◌, length, take, drop, get_or, replicate, refl, sym, ap, ◌∙◌, subst, arith, mul_assoc}
use Rattle.std.proofs.lemmas.List.{length-replicate, length-take-le}
use Rattle.std.proofs.lemmas.Nat.{pow-add, mul-mod}
use Rattle.std.proofs.lemmas.Bool.{ltb-false, ltb-true}
use Rattle.std.proofs.Math.ListN.{length-append}
use Rattle.std.proofs.Math.Nat.{mul-add, mul_comm, mul-zero, mul-le-mul_left, mul-mod_left, mod-mod, mod-eq_of_lt}
use Rattle.stk_gates.specs.declared.edge.Edge.{Edge}
use Rattle.stk_gates.specs.Edges.{edge_value}
use Rattle.stk_arith.specs.Rows.{bit, number}
use Rattle.stk_arith.specs.Shifts.{shifted_left}
use Rattle.stk_arith.proofs.Numbers.{number-below, number-append, number-split, number-take_more}
use Rattle.stk_arith.proofs.Adders.{wrapped}
use Rattle.stk_arith.proofs.Alike.{number-filled_false}

-- one shift behind another
pub shifted-shifted_left : (w x m n : ℕ) → shifted_left w (shifted_left w x m) n ≡ shifted_left w x (m + n)
shifted-shifted_left w x m n =
    let p = 2 ^ w in
    let y = x * 2 ^ m in
    let z = 2 ^ n in
    let once : y % p * z % p ≡ (y % p) * (z % p) % p = mul-mod (y % p) z p ∙ ap (λ k. k * (z % p) % p) (mod-mod y p) in
    let whole : y * z ≡ x * 2 ^ (m + n) = mul_assoc x (2 ^ m) (2 ^ n) ∙ ap (λ k. x * k) (sym (pow-add 2 m n)) in
    once ∙ (sym (mul-mod y z p) ∙ ap (λ k. k % p) whole)

-- a count that is at least the width
pub shifted_left-over : (w x c : ℕ) → w ≤ c → shifted_left w x c ≡ 0
shifted_left-over w x c l =
    let parts : x * 2 ^ c ≡ x * 2 ^ (c - w) * 2 ^ w =
    ap (λ n. x * 2 ^ n) (let e : c ≡ c - w + w = omega arith in e) ∙ (ap (λ n. x * n) (pow-add 2 (c - w) w) ∙ sym (mul_assoc x (2 ^ (c - w)) (2 ^ w))) in
    ap (λ n. n % 2 ^ w) parts ∙ mul-mod_left (x * 2 ^ (c - w)) (2 ^ w)

module _ (gates : ℕ → Bool) where
  -- a row that is moved by some places and filled up with 0
  pub moved_left : (row moved : List Edge) (by w : ℕ) (fill : Edge) → edge_value gates fill ≡ false → length row ≡ w → by ≤ w → moved ≡ replicate by fill ++ take (w - by) row
      → number gates moved ≡ shifted_left w (number gates row) by
  moved_left row moved by w fill f lw lb is =
      let low = number gates (take (w - by) row) in
      let high = number gates (drop (w - by) row) in
      let size : length moved ≡ w = ap length is ∙ (length-append (replicate by fill) (take (w - by) row) ∙ omega (arith, length-replicate by fill, length-take-le (w - by) row (omega arith))) in
      let below : number gates moved < 2 ^ w = subst (λ n. number gates moved < 2 ^ n) size (number-below gates moved) in
      let value : number gates moved ≡ 2 ^ by * low = ap (number gates) is ∙ (number-append gates (replicate by fill) (take (w - by) row) ∙ ((λ j. number-filled_false gates fill f by j + 2 ^ (length-replicate by fill j) * low) ∙ (let z : 0 + 2 ^ by * low ≡ 2 ^ by * low = omega arith in z))) in
      let whole : 2 ^ by * 2 ^ (w - by) ≡ 2 ^ w = sym (pow-add 2 by (w - by)) ∙ ap (λ n. 2 ^ n) (let e : by + (w - by) ≡ w = omega arith in e) in
      let beyond : 2 ^ by * (2 ^ (w - by) * high) ≡ 2 ^ w * high = sym (mul_assoc (2 ^ by) (2 ^ (w - by)) high) ∙ ap (λ n. n * high) whole in
      let split : number gates row * 2 ^ by ≡ 2 ^ by * low + 2 ^ w * high =
      mul_comm (number gates row) (2 ^ by) ∙ (ap (λ n. 2 ^ by * n) (number-split gates row (w - by) (omega arith)) ∙ (mul-add (2 ^ by) low (2 ^ (w - by) * high) ∙ ap (λ n. 2 ^ by * low + n) beyond)) in
      wrapped (number gates moved) (2 ^ w) high (number gates row * 2 ^ by) (ap (λ n. n + 2 ^ w * high) value ∙ sym split) below

  -- one more bit of the count
  pub left_step : (b : List Edge) (w x y k : ℕ) (d : Edge) → k < length b → x ≡ shifted_left w y (number gates (take k b))
      → (if edge_value gates (get_or b k d) then shifted_left w x (2 ^ k) else x) ≡ shifted_left w y (number gates (take (k + 1) b))
  left_step b w x y k d l e = by (edge_value gates (get_or b k d)) refl
    where
      by : (v : Bool) → edge_value gates (get_or b k d) ≡ v → (if v then shifted_left w x (2 ^ k) else x) ≡ shifted_left w y (number gates (take (k + 1) b))
      by true f = ap (λ n. shifted_left w n (2 ^ k)) e ∙ (shifted-shifted_left w y (number gates (take k b)) (2 ^ k) ∙ ap (shifted_left w y) (sym (number-take_more gates b k d l ∙ (ap (λ v. number gates (take k b) + 2 ^ k * bit v) f ∙ (let one : number gates (take k b) + 2 ^ k * 1 ≡ number gates (take k b) + 2 ^ k = omega arith in one)))))
      by false f = e ∙ ap (shifted_left w y) (sym (number-take_more gates b k d l ∙ (ap (λ v. number gates (take k b) + 2 ^ k * bit v) f ∙ (let none = mul-zero (2 ^ k) in let same : number gates (take k b) + 2 ^ k * 0 ≡ number gates (take k b) = omega arith in same))))

  -- nothing is shifted yet
  pub left_none : (a : List Edge) → number gates a ≡ shifted_left (length a) (number gates a) 0
  left_none a = let one : number gates a * 2 ^ 0 ≡ number gates a = omega arith in sym (ap (λ n. n % 2 ^ length a) one ∙ mod-eq_of_lt (number-below gates a))

  -- the last step
  pub left_end : (b row all : List Edge) (over : Bool) (fill : Edge) (w n a : ℕ) → edge_value gates fill ≡ false → w ≤ 2 ^ n → n ≤ length b
      → over ≡ nat_lt 0 (number gates (drop n b)) → number gates row ≡ shifted_left w a (number gates (take n b))
      → number gates all ≡ (if over then number gates (replicate w fill) else number gates row)
      → number gates all ≡ shifted_left w a (number gates b)
  left_end b row all true fill w n a f lw lb is value all_is =
      let some = ltb-true 0 (number gates (drop n b)) (sym is) in
      let more : 2 ^ n * 1 ≤ 2 ^ n * number gates (drop n b) = mul-le-mul_left (2 ^ n) (omega arith) in
      let split = number-split gates b n lb in
      let far : w ≤ number gates b = omega arith in
      all_is ∙ (number-filled_false gates fill f w ∙ sym (shifted_left-over w a (number gates b) far))
  left_end b row all false fill w n a f lw lb is value all_is =
      let none : number gates (drop n b) ≡ 0 = let le = ltb-false 0 (number gates (drop n b)) (sym is) in omega arith in
      let count : number gates b ≡ number gates (take n b) = number-split gates b n lb ∙ (ap (λ m. number gates (take n b) + 2 ^ n * m) none ∙ (let zero_is = mul-zero (2 ^ n) in omega arith)) in
      all_is ∙ (value ∙ ap (shifted_left w a) (sym count))
