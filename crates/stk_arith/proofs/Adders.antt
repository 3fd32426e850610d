-- One place of a sum, and a sum by places.
use Rattle.std.proofs.Common.{◌≡◌, ℕ, ◌+◌, ◌-◌, ◌*◌, ◌%◌, ◌^◌, ◌<◌, ◌≤◌, Bool, true, false, not, ◌&&◌, ◌||◌, if◌then◌else◌, List, [], ◌∷◌, ◌++◌, length, take, get_or, nat_lt, add-one, refl, sym, ap, ◌∙◌, arith}
use Rattle.std.proofs.lemmas.Bool.{le-ltb, lt-ltb}
use Rattle.std.proofs.Math.Nat.{add-mul-mod_self_left, mod-eq_of_lt, pow-succ', mul-add, mul_assoc, mul_left_comm}
use Rattle.stk_gates.specs.declared.edge.Edge.{Edge}
use Rattle.stk_gates.specs.Edges.{edge_value}
use Rattle.stk_arith.specs.Rows.{bit, number}
use Rattle.stk_arith.proofs.Numbers.{number-push, number-take_more}

-- the three bits of a place give its sum and the carry
pub place_sum : (x y c : Bool) → bit (if (if x then not y else y) then not c else c) + 2 * bit (x && y || c && (if x then not y else y)) ≡ bit x + bit y + bit c
place_sum true true true = refl
place_sum true true false = refl
place_sum true false true = refl
place_sum true false false = refl
place_sum false true true = refl
place_sum false true false = refl
place_sum false false true = refl
place_sum false false false = refl

-- one more place: p is 2 to the places so far, o and k the number and the carry so far
pub next_place : (p q o k s t x y a b c : ℕ) → q ≡ 2 * p → o + p * k ≡ a + b + c → s + 2 * t ≡ x + y + k → (o + p * s) + q * t ≡ (a + p * x) + (b + p * y) + c
next_place p q o k s t x y a b c e h g =
    let doubled : q * t ≡ 2 * (p * t) = ap (λ n. n * t) e ∙ mul_assoc 2 p t in
    let all : p * (s + 2 * t) ≡ p * (x + y + k) = ap (λ n. p * n) g in
    let left : p * (s + 2 * t) ≡ p * s + 2 * (p * t) = mul-add p s (2 * t) ∙ ap (λ n. p * s + n) (mul_left_comm p 2 t) in
    let right : p * (x + y + k) ≡ p * x + p * y + p * k = mul-add p (x + y) k ∙ ap (λ n. n + p * k) (mul-add p x y) in
    omega arith

pub place_of : (x y c odd sum both carried next : Bool) → odd ≡ (if x then not y else y) → sum ≡ (if odd then not c else c) → both ≡ x && y → carried ≡ c && odd → next ≡ both || carried
    → bit sum + 2 * bit next ≡ bit x + bit y + bit c
place_of x y c odd sum both carried next e f g h k =
    let s : sum ≡ (if (if x then not y else y) then not c else c) = f ∙ ap (λ z. if z then not c else c) e in
    let n : next ≡ x && y || c && (if x then not y else y) = k ∙ (λ i. g i || h i) ∙ ap (λ z. x && y || c && z) e in
    (λ i. bit (s i) + 2 * bit (n i)) ∙ place_sum x y c

-- one more place of a sum of rows
pub sum_step : (gates : ℕ → Bool) (a b row items : List Edge) (i : ℕ) (d e s k t : Edge) (c : ℕ) → items ≡ row ++ s ∷ [] → length row ≡ i → i < length a → i < length b
    → number gates row + 2 ^ i * bit (edge_value gates k) ≡ number gates (take i a) + number gates (take i b) + c
    → bit (edge_value gates s) + 2 * bit (edge_value gates t) ≡ bit (edge_value gates (get_or a i d)) + bit (edge_value gates (get_or b i e)) + bit (edge_value gates k)
    → number gates items + 2 ^ (i + 1) * bit (edge_value gates t) ≡ number gates (take (i + 1) a) + number gates (take (i + 1) b) + c
sum_step gates a b row items i d e s k t c is long la lb before place =
    let grown : number gates items ≡ number gates row + 2 ^ i * bit (edge_value gates s) = ap (number gates) is ∙ (number-push gates row s ∙ ap (λ n. number gates row + 2 ^ n * bit (edge_value gates s)) long) in
    let twice : 2 ^ (i + 1) ≡ 2 * 2 ^ i = ap (λ n. 2 ^ n) (add-one i) ∙ pow-succ' 2 i in
    let left = number-take_more gates a i d la in
    let right = number-take_more gates b i e lb in
    ap (λ n. n + 2 ^ (i + 1) * bit (edge_value gates t)) grown ∙ (next_place (2 ^ i) (2 ^ (i + 1)) _ _ _ _ _ _ _ _ c twice before place ∙ sym (λ j. left j + right j + c))

grown : (gates : ℕ → Bool) (row items : List Edge) (i : ℕ) (e : Edge) → items ≡ row ++ e ∷ [] → length row ≡ i → number gates items ≡ number gates row + 2 ^ i * bit (edge_value gates e)
grown gates row items i e is long = ap (number gates) is ∙ (number-push gates row e ∙ ap (λ n. number gates row + 2 ^ n * bit (edge_value gates e)) long)

twice : (i : ℕ) → 2 ^ (i + 1) ≡ 2 * 2 ^ i
twice i = ap (λ n. 2 ^ n) (add-one i) ∙ pow-succ' 2 i

not_bit : (x : Bool) → bit (not x) + bit x ≡ 1
not_bit true = refl
not_bit false = refl

-- one more inverted place
pub inverted_step : (gates : ℕ → Bool) (row inverted items : List Edge) (i : ℕ) (d e : Edge) → items ≡ inverted ++ e ∷ [] → length inverted ≡ i → i < length row
    → edge_value gates e ≡ not (edge_value gates (get_or row i d)) → number gates inverted + number gates (take i row) + 1 ≡ 2 ^ i
    → number gates items + number gates (take (i + 1) row) + 1 ≡ 2 ^ (i + 1)
inverted_step gates row inverted items i d e is long l value before =
    let more = grown gates inverted items i e is long in
    let from = number-take_more gates row i d l in
    let one : bit (edge_value gates e) + bit (edge_value gates (get_or row i d)) ≡ 1 = ap (λ b. bit b + bit (edge_value gates (get_or row i d))) value ∙ not_bit (edge_value gates (get_or row i d)) in
    let place : 2 ^ i * bit (edge_value gates e) + 2 ^ i * bit (edge_value gates (get_or row i d)) ≡ 2 ^ i * 1 = sym (mul-add (2 ^ i) (bit (edge_value gates e)) (bit (edge_value gates (get_or row i d)))) ∙ ap (λ n. 2 ^ i * n) one in
    let double = twice i in
    omega arith

-- one more place of one of two rows
pub select_step : (gates : ℕ → Bool) (v : Bool) (these those row items : List Edge) (i : ℕ) (d f e : Edge) → items ≡ row ++ e ∷ [] → length row ≡ i → i < length these → i < length those
    → edge_value gates e ≡ (if v then edge_value gates (get_or these i d) else edge_value gates (get_or those i f)) → number gates row ≡ (if v then number gates (take i these) else number gates (take i those))
    → number gates items ≡ (if v then number gates (take (i + 1) these) else number gates (take (i + 1) those))
select_step gates true these those row items i d f e is long ly ln value before =
    grown gates row items i e is long ∙ ((λ j. before j + 2 ^ i * bit (value j)) ∙ sym (number-take_more gates these i d ly))
select_step gates false these those row items i d f e is long ly ln value before =
    grown gates row items i e is long ∙ ((λ j. before j + 2 ^ i * bit (value j)) ∙ sym (number-take_more gates those i f ln))

-- a number without its carry
pub wrapped : (n p k m : ℕ) → n + p * k ≡ m → n < p → n ≡ m % p
wrapped n p k m e l = sym (ap (λ x. x % p) (sym e) ∙ (add-mul-mod_self_left n p k ∙ mod-eq_of_lt l))

-- a sum with what was inverted is a difference
pub from_inverted : (n a b i p c k : ℕ) → n + p * k ≡ a + i + c → c ≡ 1 → i + b + 1 ≡ p → n + b + p * k ≡ a + p
from_inverted n a b i p c k e one h = omega arith

pub without_borrow : (n a b p k : ℕ) → n + b + p * k ≡ a + p → b < p → n < p → n ≡ (a + p - b) % p
without_borrow n a b p k e lb ln = let left : n + p * k ≡ a + p - b = omega arith in wrapped n p k (a + p - b) left ln

-- nothing is borrowed exactly where the second number isn't larger
pub borrow_tells : (n a b p : ℕ) (k : Bool) → n + b + p * bit k ≡ a + p → n < p → not k ≡ nat_lt a b
borrow_tells n a b p true e ln = let ge : b ≤ a = omega arith in sym (le-ltb a b ge)
borrow_tells n a b p false e ln = let lt : a < b = omega arith in sym (lt-ltb a b lt)
