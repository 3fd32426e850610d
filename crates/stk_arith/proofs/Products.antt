-- Products by places.
use Rattle.std.proofs.Common.{◌≡◌, ℕ, ◌+◌, ◌-◌, ◌*◌, ◌%◌, ◌^◌, ◌<◌, ◌≤◌, Bool, true, false, ◌&&◌, List, [], ◌∷◌, ◌++◌, length, take, drop, get_or, sym, ap, ◌∙◌, subst, arith, mul_assoc}
use Rattle.std.proofs.lemmas.List.{length-take-le}
use Rattle.std.proofs.lemmas.Nat.{pow-add}
use Rattle.std.proofs.Math.Nat.{mul-add, mul_comm, mul_left_comm, mod-add-mod, zero-mod, mul-zero}
use Rattle.stk_gates.specs.declared.edge.Edge.{Edge}
use Rattle.stk_gates.specs.Edges.{edge_value}
use Rattle.stk_arith.specs.Rows.{bit, number}
use Rattle.stk_arith.proofs.Numbers.{number-append, number-push, number-below, number-split, number-take_more}
use Rattle.stk_arith.proofs.Adders.{wrapped}

-- what a sum from the i-th place on means: p is 2 to i, q is 2 to the other places
pub shifted_sum : (p q low high sum k t a rest : ℕ) → sum + q * k ≡ high + t * (a) → (low + p * sum) + p * q * (k + t * rest) ≡ (low + p * high) + p * (t * (a + q * rest))
shifted_sum p q low high sum k t a rest e =
    let both : p * (sum + q * k) ≡ p * (high + t * a) = ap (λ n. p * n) e in
    let left = mul-add p sum (q * k) in
    let right = mul-add p high (t * a) in
    let outer = mul-add (p * q) k (t * rest) in
    let first : p * q * k ≡ p * (q * k) = mul_assoc p q k in
    let inner : p * (t * (a + q * rest)) ≡ p * (t * a) + p * (t * (q * rest)) = ap (λ n. p * n) (mul-add t a (q * rest)) ∙ mul-add p (t * a) (t * (q * rest)) in
    let same : p * q * (t * rest) ≡ p * (t * (q * rest)) = mul_assoc p q (t * rest) ∙ ap (λ n. p * n) (mul_left_comm q t rest) in
    omega arith

module _ (gates : ℕ → Bool) where
  pub sum_from : (row a all sum masked : List Edge) (w i k : ℕ) (t : Bool) → length row ≡ w → length a ≡ w → i ≤ w → length all ≡ w → all ≡ take i row ++ sum
      → number gates masked ≡ bit t * number gates (take (w - i) a) → number gates sum + 2 ^ (w - i) * k ≡ number gates (drop i row) + number gates masked
      → number gates all ≡ (number gates row + 2 ^ i * (bit t * number gates a)) % 2 ^ w
  sum_from row a all sum masked w i k t lr la within ll is mask value =
      let p = 2 ^ i in
      let q = 2 ^ (w - i) in
      let rest = number gates (drop (w - i) a) in
      let whole : p * q ≡ 2 ^ w = sym (pow-add 2 i (w - i)) ∙ ap (λ n. 2 ^ n) (omega arith) in
      let parts : number gates all ≡ number gates (take i row) + p * number gates sum = ap (number gates) is ∙ (number-append gates (take i row) sum ∙ ap (λ n. number gates (take i row) + 2 ^ n * number gates sum) (length-take-le i row (omega arith))) in
      let split_row = number-split gates row i (omega arith) in
      let split_a = number-split gates a (w - i) (omega arith) in
      let step = shifted_sum p q (number gates (take i row)) (number gates (drop i row)) (number gates sum) k (bit t) (number gates (take (w - i) a)) rest (value ∙ ap (λ n. number gates (drop i row) + n) mask) in
      let below : number gates all < 2 ^ w = subst (λ n. number gates all < 2 ^ n) ll (number-below gates all) in
      wrapped (number gates all) (2 ^ w) (k + bit t * rest) _
      ((λ j. parts j + sym whole j * (k + bit t * rest)) ∙ step ∙ sym (λ j. split_row j + p * (bit t * split_a j))) below

  pub product_step : (a b row : List Edge) (w i : ℕ) (d : Edge) (new : ℕ) → i < length b → number gates row ≡ (number gates a * number gates (take i b)) % 2 ^ w
      → new ≡ (number gates row + 2 ^ i * (bit (edge_value gates (get_or b i d)) * number gates a)) % 2 ^ w
      → new ≡ (number gates a * number gates (take (i + 1) b)) % 2 ^ w
  product_step a b row w i d new l before value =
      let x = number gates a in
      let t = bit (edge_value gates (get_or b i d)) in
      let sums : x * number gates (take i b) + 2 ^ i * (t * x) ≡ x * number gates (take (i + 1) b) =
      sym (ap (λ n. x * n) (number-take_more gates b i d l) ∙ mul-add x (number gates (take i b)) (2 ^ i * t) ∙ ap (λ n. x * number gates (take i b) + n) (mul_left_comm x (2 ^ i) t ∙ ap (λ n. 2 ^ i * n) (mul_comm x t))) in
      value ∙ (ap (λ n. (n + 2 ^ i * (t * x)) % 2 ^ w) before ∙ (mod-add-mod (x * number gates (take i b)) (2 ^ w) (2 ^ i * (t * x)) ∙ ap (λ n. n % 2 ^ w) sums))

  pub mask_step : (t : Bool) (a row items : List Edge) (i : ℕ) (d e : Edge) → items ≡ row ++ e ∷ [] → length row ≡ i → i < length a → edge_value gates e ≡ t && edge_value gates (get_or a i d)
      → number gates row ≡ bit t * number gates (take i a) → number gates items ≡ bit t * number gates (take (i + 1) a)
  mask_step t a row items i d e is long l value before =
      ap (number gates) is ∙ (number-push gates row e ∙ (ap (λ n. number gates row + 2 ^ n * bit (edge_value gates e)) long ∙ ((λ j. before j + 2 ^ i * bit (value j)) ∙ (by t (edge_value gates (get_or a i d)) ∙ sym (ap (λ n. bit t * n) (number-take_more gates a i d l))))))
    where
      by : (t x : Bool) → bit t * number gates (take i a) + 2 ^ i * bit (t && x) ≡ bit t * (number gates (take i a) + 2 ^ i * bit x)
      by true x = let y = bit x in omega arith
      by false x = let y = bit x in omega arith

-- the gates of the rows that are left
pub triangle : (n now old new m w all : ℕ) → n ≡ m + 1 → new ≤ now + 10 * (m + 1) → now + 5 * (n * (n + 1)) ≤ all → new + 5 * (m * (m + 1)) ≤ all
triangle n now old new m w all e grows before =
    let square : n * (n + 1) ≡ m * (m + 1) + 2 * (m + 1) = ap (λ k. k * (k + 1)) e ∙ (ap (λ k. (m + 1) * k) (next m) ∙ (mul-add (m + 1) m 2 ∙ (λ j. mul_comm (m + 1) m j + mul_comm (m + 1) 2 j))) in
    omega arith
  where
    next : (m : ℕ) → m + 1 + 1 ≡ m + 2
    next m = omega arith

pub six : (w n old : ℕ) → n ≤ old + 5 * (w * (w + 1)) → n ≤ old + (6 * w * w + 6 * w)
six w n old h =
    let square : w * (w + 1) ≡ w * w + w * 1 = mul-add w w 1 in
    let all : 6 * w * w ≡ 6 * (w * w) = mul_assoc 6 w w in
    omega arith

pub nothing : (x p : ℕ) → 0 ≡ (x * 0) % p
nothing x p = sym (ap (λ n. n % p) (mul-zero x) ∙ zero-mod p)
