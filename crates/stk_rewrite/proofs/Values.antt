-- What the rules rest on, about numbers.
use Rattle.std.proofs.Common.{◌≡◌, ℕ, zero, suc, ◌+◌, ◌-◌, ◌*◌, ◌/◌, ◌%◌, ◌^◌, ◌<◌, ◌≤◌, Bool, true, false, ◌⊎◌, inl, inr, refl, sym, ap, ◌∙◌, arith, nat_eq, nat_lt, bit_and, bit_or, bit_xor, if◌then◌else◌, add_assoc}
use Rattle.std.proofs.Math.Nat.{mod-eq_of_lt, mod-eq-sub-mod, add-mod-mod, mod-add-mod, mod_self, div-one}
use Rattle.std.proofs.Math.Pow.{mod-mod-pow}
use Rattle.std.proofs.lemmas.Nat.{field_of, shr-shr, and_mask, and_block, pow-add, or_disjoint, or_lt, le_or_r, xor_block, pow_pos}
use Rattle.std.proofs.lemmas.Bool.{eqb-true, eq-eqb}
use Rattle.stk_terms.specs.Values.{bit}

-- sums of sums
pub sums : (x c d W : ℕ) → (x + (c + d) % W) % W ≡ ((x + c) % W + d) % W
sums x c d W = add-mod-mod x (c + d) W ∙ (ap (λ n. n % W) (sym (add_assoc x c d)) ∙ sym (mod-add-mod (x + c) W d))

-- sums whose second parts add up to 0
pub sums_meet : (x c y d W : ℕ) → (c + d) % W ≡ 0 → (x + y) % W ≡ ((x + c) % W + (y + d) % W) % W
sums_meet x c y d W h =
    let e : x + c + (y + d) ≡ x + y + (c + d) = omega arith in
    let f : x + y + 0 ≡ x + y = omega arith in
    sym (mod-add-mod (x + c) W ((y + d) % W) ∙ (add-mod-mod (x + c) (y + d) W ∙ (ap (λ n. n % W) e ∙ (sym (add-mod-mod (x + y) (c + d) W) ∙ (ap (λ n. (x + y + n) % W) h ∙ ap (λ n. n % W) f)))))

-- a difference as a sum
pub difference_sum : (x y W : ℕ) → (x + (W - y) % W) % W ≡ (x + (W - y)) % W
difference_sum x y W = add-mod-mod x (W - y) W

-- a sum with 0
pub sum_zero : (x W : ℕ) → x < W → (x + 0) % W ≡ x
sum_zero x W h = let e : x + 0 ≡ x = omega arith in ap (λ n. n % W) e ∙ mod-eq_of_lt h

pub swap_sum : (x y W : ℕ) → (x + y) % W ≡ (y + x) % W
swap_sum x y W = let e : x + y ≡ y + x = omega arith in ap (λ n. n % W) e

-- a sum of two numbers below W
wraps : (n W : ℕ) → n < W + W → ((n < W) × (n % W ≡ n)) ⊎ ((W ≤ n) × (n % W ≡ n - W))
wraps n W h = by (nat_lt n W) refl
  where
    by : (b : Bool) → nat_lt n W ≡ b → ((n < W) × (n % W ≡ n)) ⊎ ((W ≤ n) × (n % W ≡ n - W))
    by true e = let l : n < W = grind arith in inl (l, mod-eq_of_lt l)
    by false e = let l : W ≤ n = grind arith in let m : n - W < W = omega arith in inr (l, mod-eq-sub-mod l ∙ mod-eq_of_lt m)

pub iff_eq : (a b c d : ℕ) → (a ≡ b → c ≡ d) → (c ≡ d → a ≡ b) → nat_eq a b ≡ nat_eq c d
iff_eq a b c d f g = by (nat_eq a b) refl
  where
    apart : (a b : ℕ) → (a ≡ b → ⊥) → nat_eq a b ≡ false
    apart a b f = grind arith

    not_same : (a b : ℕ) → nat_eq a b ≡ false → a ≡ b → ⊥
    not_same a b e h = grind arith

    by : (t : Bool) → nat_eq a b ≡ t → nat_eq a b ≡ nat_eq c d
    by true e = e ∙ sym (eq-eqb c d (f (eqb-true a b e)))
    by false e = e ∙ sym (apart c d (λ h. not_same a b e (g h)))

-- what is added is taken off the other side
moved : (x c d W : ℕ) → x < W → c < W → d < W → (x + c) % W ≡ d → x ≡ (d + (W - c)) % W
moved x c d W hx hc hd e = by (wraps (x + c) W (omega arith)) (wraps (d + (W - c)) W (omega arith))
  where
    by : ((x + c < W) × ((x + c) % W ≡ x + c)) ⊎ ((W ≤ x + c) × ((x + c) % W ≡ x + c - W)) → ((d + (W - c) < W) × ((d + (W - c)) % W ≡ d + (W - c))) ⊎ ((W ≤ d + (W - c)) × ((d + (W - c)) % W ≡ d + (W - c) - W)) → x ≡ (d + (W - c)) % W
    by (inl p) (inl q) = omega (arith, p.0, p.1, q.0, q.1, e)
    by (inl p) (inr q) = omega (arith, p.0, p.1, q.0, q.1, e)
    by (inr p) (inl q) = omega (arith, p.0, p.1, q.0, q.1, e)
    by (inr p) (inr q) = omega (arith, p.0, p.1, q.0, q.1, e)

moved_back : (x c d W : ℕ) → x < W → c < W → d < W → x ≡ (d + (W - c)) % W → (x + c) % W ≡ d
moved_back x c d W hx hc hd e = by (wraps (x + c) W (omega arith)) (wraps (d + (W - c)) W (omega arith))
  where
    by : ((x + c < W) × ((x + c) % W ≡ x + c)) ⊎ ((W ≤ x + c) × ((x + c) % W ≡ x + c - W)) → ((d + (W - c) < W) × ((d + (W - c)) % W ≡ d + (W - c))) ⊎ ((W ≤ d + (W - c)) × ((d + (W - c)) % W ≡ d + (W - c) - W)) → (x + c) % W ≡ d
    by (inl p) (inl q) = omega (arith, p.0, p.1, q.0, q.1, e)
    by (inl p) (inr q) = omega (arith, p.0, p.1, q.0, q.1, e)
    by (inr p) (inl q) = omega (arith, p.0, p.1, q.0, q.1, e)
    by (inr p) (inr q) = omega (arith, p.0, p.1, q.0, q.1, e)

pub equal_moved : (x c d W : ℕ) → x < W → c < W → d < W → bit (nat_eq x ((d + (W - c)) % W)) ≡ bit (nat_eq ((x + c) % W) d)
equal_moved x c d W hx hc hd = ap bit (iff_eq x ((d + (W - c)) % W) ((x + c) % W) d (moved_back x c d W hx hc hd) (moved x c d W hx hc hd))

pub swap_equal : (x y : ℕ) → bit (nat_eq x y) ≡ bit (nat_eq y x)
swap_equal x y = ap bit (iff_eq x y y x sym sym)

pub same_equal : (x : ℕ) → bit (nat_eq x x) ≡ 1
same_equal x = ap bit (eq-eqb x x refl)

-- equality with a constant of width 1
pub equal_one : (x : ℕ) → x < 2 ^ 1 → bit (nat_eq x 1) ≡ x
equal_one zero h = refl
equal_one (suc zero) h = refl
equal_one (suc (suc x)) h = absurd (omega arith)

pub equal_zero : (x : ℕ) → x < 2 ^ 1 → bit (nat_eq x 0) ≡ 2 ^ 1 - 1 - x
equal_zero zero h = refl
equal_zero (suc zero) h = refl
equal_zero (suc (suc x)) h = absurd (omega arith)

-- twice Not
pub twice_not : (x W : ℕ) → x < W → W - 1 - (W - 1 - x) ≡ x
twice_not x W h = omega arith

-- bits of bits
pub cut_twice : (x n v m w : ℕ) → m + w ≤ v → x / 2 ^ (n + m) % 2 ^ w ≡ x / 2 ^ n % 2 ^ v / 2 ^ m % 2 ^ w
cut_twice x n v m w h =
    let j = v - (m + w) in
    let e : (j + w) + m ≡ v = omega arith in
    sym (ap (λ u. x / 2 ^ n % 2 ^ u / 2 ^ m % 2 ^ w) (sym e) ∙ (ap (λ y. y % 2 ^ w) (field_of (x / 2 ^ n) (j + w) m) ∙ (mod-mod-pow (x / 2 ^ n / 2 ^ m) j w ∙ ap (λ y. y % 2 ^ w) (shr-shr x n m))))

-- all bits
pub cut_whole : (x w : ℕ) → x < 2 ^ w → x / 2 ^ 0 % 2 ^ w ≡ x
cut_whole x w h = ap (λ y. y % 2 ^ w) (div-one x) ∙ mod-eq_of_lt h

-- with all bits
pub and_ones : (x w : ℕ) → x < 2 ^ w → bit_and x (2 ^ w - 1) ≡ x
and_ones x w h = and_mask x w ∙ mod-eq_of_lt h

-- a product by 1
pub product_one : (x W : ℕ) → x < W → (x * 1) % W ≡ x
product_one x W h = let e : x * 1 ≡ x = omega arith in ap (λ n. n % W) e ∙ mod-eq_of_lt h

-- the difference from itself
pub difference_same : (x W : ℕ) → x < W → (x + (W - x)) % W ≡ 0
difference_same x W h = let e : x + (W - x) ≡ W = omega arith in ap (λ n. n % W) e ∙ mod_self W

-- nothing is above all ones
pub none_above : (y W : ℕ) → y < W → bit (nat_lt (W - 1 - 0) y) ≡ 0
none_above y W h = by (nat_lt (W - 1 - 0) y) refl
  where
    by : (b : Bool) → nat_lt (W - 1 - 0) y ≡ b → bit (nat_lt (W - 1 - 0) y) ≡ 0
    by true e = absurd (let l : W - 1 - 0 < y = grind arith in omega arith)
    by false e = ap bit e

-- choices
pub yes_no : (x : ℕ) → x < 2 → (if nat_eq x 1 then 1 else 0) ≡ x
yes_no zero h = refl
yes_no (suc zero) h = refl
yes_no (suc (suc x)) h = absurd (omega arith)

pub no_yes : (x : ℕ) → x < 2 → (if nat_eq x 1 then 0 else 1) ≡ 2 ^ 1 - 1 - x
no_yes zero h = refl
no_yes (suc zero) h = refl
no_yes (suc (suc x)) h = absurd (omega arith)

pub turned_choice : (x y z : ℕ) → x < 2 → (if nat_eq x 1 then z else y) ≡ (if nat_eq (2 ^ 1 - 1 - x) 1 then y else z)
turned_choice zero y z h = refl
turned_choice (suc zero) y z h = refl
turned_choice (suc (suc x)) y z h = absurd (omega arith)

-- with Not
last_bits : (r : ℕ) → r < 2 → bit_and r (1 - r) ≡ 0
last_bits zero h = refl
last_bits (suc zero) h = refl
last_bits (suc (suc r)) h = absurd (omega arith)

pub and_not : (w x : ℕ) → x < 2 ^ w → bit_and x (2 ^ w - 1 - x) ≡ 0
and_not zero x h = let e : x ≡ 0 = omega arith in ap (λ n. bit_and n (2 ^ 0 - 1 - n)) e
and_not (suc w) x h =
    let W = 2 ^ w in
    let two : 2 ^ suc w ≡ W * 2 = (let e : suc w ≡ w + 1 = omega arith in ap (λ n. 2 ^ n) e ∙ pow-add 2 w 1) in
    let q = x / 2 in
    let r = x % 2 in
    let d : x ≡ q * 2 ^ 1 + r = omega arith in
    let l : r < 2 = omega arith in
    let k : q < W = omega (arith, two, h) in
    let e : 2 ^ suc w - 1 - x ≡ (W - 1 - q) * 2 ^ 1 + (1 - r) = omega (arith, two) in
    let m : 1 - r < 2 ^ 1 = omega arith in
    let f = and_not w q k in
    (λ j. bit_and (d j) (e j)) ∙ (and_block 1 q (W - 1 - q) r (1 - r) l m ∙ ((λ j. f j * 2 ^ 1 + last_bits r l j) ∙ refl))

-- twice the negative
pub negative_twice : (x W : ℕ) → x < W → (W - (W - x) % W) % W ≡ x
negative_twice zero W h =
    let e : W - 0 ≡ W = omega arith in
    let f : (W - 0) % W ≡ 0 = ap (λ n. n % W) e ∙ mod_self W in
    ap (λ n. (W - n) % W) f ∙ f
negative_twice (suc x) W h =
    let l : W - suc x < W = omega arith in
    let e : W - (W - suc x) ≡ suc x = omega arith in
    ap (λ n. (W - n) % W) (mod-eq_of_lt l) ∙ (ap (λ n. n % W) e ∙ mod-eq_of_lt h)

-- or with all bits, and with those that are not set
pub or_ones : (x w : ℕ) → x < 2 ^ w → bit_or x (2 ^ w - 1) ≡ 2 ^ w - 1
or_ones x w h =
    let p = pow_pos w in
    let l : 2 ^ w - 1 < 2 ^ w = omega arith in
    omega (arith, or_lt w x (2 ^ w - 1) h l, le_or_r x (2 ^ w - 1))

pub or_not : (w x : ℕ) → x < 2 ^ w → bit_or x (2 ^ w - 1 - x) ≡ 2 ^ w - 1
or_not w x h = or_disjoint x (2 ^ w - 1 - x) (and_not w x h) ∙ omega arith

-- exclusive or with all bits
turned_bits : (r : ℕ) → r < 2 → bit_xor r 1 ≡ 1 - r
turned_bits zero h = refl
turned_bits (suc zero) h = refl
turned_bits (suc (suc r)) h = absurd (omega arith)

pub xor_ones : (w x : ℕ) → x < 2 ^ w → bit_xor x (2 ^ w - 1) ≡ 2 ^ w - 1 - x
xor_ones zero x h = let e : x ≡ 0 = omega arith in ap (λ n. bit_xor n (2 ^ 0 - 1)) e ∙ sym (ap (λ n. 2 ^ 0 - 1 - n) e)
xor_ones (suc w) x h =
    let W = 2 ^ w in
    let two : 2 ^ suc w ≡ W * 2 = (let e : suc w ≡ w + 1 = omega arith in ap (λ n. 2 ^ n) e ∙ pow-add 2 w 1) in
    let q = x / 2 in
    let r = x % 2 in
    let d : x ≡ q * 2 ^ 1 + r = omega arith in
    let l : r < 2 = omega arith in
    let k : q < W = omega (arith, two, h) in
    let e : 2 ^ suc w - 1 ≡ (W - 1) * 2 ^ 1 + 1 = omega (arith, two, k) in
    let m : 1 < 2 ^ 1 = omega arith in
    let g : (W - 1 - q) * 2 ^ 1 + (1 - r) ≡ 2 ^ suc w - 1 - x = omega (arith, two) in
    (λ j. bit_xor (d j) (e j)) ∙ (xor_block 1 q (W - 1) r 1 l m ∙ ((λ j. xor_ones w q k j * 2 ^ 1 + turned_bits r l j) ∙ g))

-- 0 less a number
pub none_less : (x W : ℕ) → (W - x) % W ≡ (0 + (W - x)) % W
none_less x W = let e : W - x ≡ 0 + (W - x) = omega arith in ap (λ n. n % W) e

-- by 1
pub divided_one : (x : ℕ) → x / 1 ≡ x
divided_one x = div-one x

pub left_one : (x : ℕ) → x % 1 ≡ 0
left_one x = omega arith
