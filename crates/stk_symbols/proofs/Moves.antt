-- Addresses that are moved by a size, bit by bit.
use Rattle.std.proofs.Common.{◌≡◌, ℕ, zero, suc, ◌+◌, ◌-◌, ◌*◌, ◌/◌, ◌%◌, ◌^◌, ◌<◌, ◌≤◌, Bool, true, false, not, ◌&&◌, ℤ, pos, negsuc, neg_ℤ, ◌+ℤ◌, ◌-ℤ◌, ◌*ℤ◌, refl, sym, ap, subst, ◌∙◌, arith, nat_eq, nat_lt}
use Rattle.std.specs.Int.Count.{ones, ones_step}
use Rattle.std.specs.Int.RustNames.{int_le}
use Rattle.std.proofs.lemmas.Int.{ints}
use Rattle.std.proofs.lemmas.Nat.{pow_pos, pow-add, mod-mul-add, div-add-mod'}
use Rattle.std.proofs.Math.Nat.{mod-eq_of_lt, mod-lt, mul-lt-mul_of_pos_right, mul-le-mul, div-eq_of_lt, div-lt_iff_lt-mul, pow-suc}
use Rattle.std.proofs.Math.IntN.{negsuc-*ℤ-pos}
use Rattle.stk_ctype.specs.declared.kind.IntKind.{IntKind}
use Rattle.stk_ctype.specs.declared.kind.IntKind.TheVariants as kind
use Rattle.stk_numbers.specs.Kinds.{fits, residue}
use Rattle.stk_numbers.specs.Values.{exact_move}
use Rattle.stk_numbers.specs.Conditions.{leaves_memory}
use Rattle.stk_numbers.proofs.Bounds.{within_ends, kind_bounds}
use Rattle.stk_numbers.proofs.Residues.{residue_add, residue_sub, residue_mul, residue_below}
use Rattle.stk_terms.specs.Terms.{Stored}
use Rattle.stk_symbols.specs.Valued.{IsTerm, Obeys, Grown}
use Rattle.stk_symbols.proofs.Made.{obeys_before, grown_then, grown_same}

-- ---- what is congruent stays so
sum_alike : (w : ℕ) (a b c d : ℤ) → residue w a ≡ residue w c → residue w b ≡ residue w d → residue w (a +ℤ b) ≡ residue w (c +ℤ d)
sum_alike w a b c d e f = residue_add w a b ∙ ((λ i. (e i + f i) % 2 ^ w) ∙ sym (residue_add w c d))

difference_alike : (w : ℕ) (a b c d : ℤ) → residue w a ≡ residue w c → residue w b ≡ residue w d → residue w (a -ℤ b) ≡ residue w (c -ℤ d)
difference_alike w a b c d e f = residue_sub w a b ∙ ((λ i. (e i + (2 ^ w - f i)) % 2 ^ w) ∙ sym (residue_sub w c d))

product_alike : (w : ℕ) (a b n : ℤ) → residue w a ≡ residue w b → residue w (a *ℤ n) ≡ residue w (b *ℤ n)
product_alike w a b n e = residue_mul w a n ∙ ((λ i. (e i * residue w n) % 2 ^ w) ∙ sym (residue_mul w b n))

pub residue_again : (w : ℕ) (z : ℤ) → residue w (pos (residue w z)) ≡ residue w z
residue_again w z = mod-eq_of_lt (residue_below w z)

-- a move by what is congruent
pub move_alike : (w p q : ℕ) (x y : ℤ) (n : ℕ) (minus : Bool) → residue w (pos p) ≡ residue w (pos q) → residue w x ≡ residue w y → residue w (exact_move p x n minus) ≡ residue w (exact_move q y n minus)
move_alike w p q x y n true e f = difference_alike w (pos p) (x *ℤ pos n) (pos q) (y *ℤ pos n) e (product_alike w x y (pos n) f)
move_alike w p q x y n false e f = sum_alike w (pos p) (x *ℤ pos n) (pos q) (y *ℤ pos n) e (product_alike w x y (pos n) f)

-- ---- one bit
pub raised_bits : (n w p : ℕ) → p ≤ w → n % 2 ^ (w - p) * 2 ^ p + 0 ≡ (n * 2 ^ p) % 2 ^ w
raised_bits n w p l =
    let A = 2 ^ (w - p) in
    let B = 2 ^ p in
    let q = n / A in
    let r = n % A in
    let whole : A * B ≡ 2 ^ w = sym (pow-add 2 (w - p) p) ∙ (let e : w - p + p ≡ w = omega arith in ap (λ k. 2 ^ k) e) in
    let split : (q * A + r) * B ≡ q * (A * B) + r * B = omega arith in
    let times : n * B ≡ q * (A * B) + r * B = ap (λ k. k * B) (sym (div-add-mod' n A)) ∙ split in
    let less : r * B < A * B = mul-lt-mul_of_pos_right (mod-lt n (pow_pos (w - p))) (pow_pos p) in
    let end : r * B + 0 ≡ r * B = omega arith in
    end ∙ (sym (mod-mul-add q (A * B) (r * B) less) ∙ (ap (λ k. k % (A * B)) (sym times) ∙ ap (λ M. (n * B) % M) whole))

pub not_raised : (n w : ℕ) → n < 2 ^ w → n ≡ (n * 2 ^ 0) % 2 ^ w
not_raised n w h = let e : n ≡ n * 2 ^ 0 = omega arith in e ∙ sym (mod-eq_of_lt (subst (λ k. k < 2 ^ w) e h))

pub plus_once : (w b s u : ℕ) → b < 2 ^ w → u ≡ s % 2 ^ w → (b + u) % 2 ^ w ≡ residue w (exact_move b (pos s) 1 false)
plus_once w b s u h e =
    let one : s * 1 ≡ s = omega arith in
    (λ i. (sym (mod-eq_of_lt h) i + e i) % 2 ^ w) ∙ (sym (residue_add w (pos b) (pos s)) ∙ ap (λ k. residue w (pos b +ℤ pos k)) (sym one))

pub minus_once : (w b s u : ℕ) → b < 2 ^ w → u ≡ s % 2 ^ w → (b + (2 ^ w - u)) % 2 ^ w ≡ residue w (exact_move b (pos s) 1 true)
minus_once w b s u h e =
    let one : s * 1 ≡ s = omega arith in
    (λ i. (sym (mod-eq_of_lt h) i + (2 ^ w - e i)) % 2 ^ w) ∙ (sym (residue_sub w (pos b) (pos s)) ∙ ap (λ k. residue w (pos b -ℤ pos k)) (sym one))

-- no bit
pub moved_by_none : (w b : ℕ) (x : ℤ) (s n : ℕ) (minus : Bool) → n ≡ 0 → b < 2 ^ w → b ≡ residue w (exact_move b (pos s) n minus)
moved_by_none w b x s n true e h =
    let z : pos b -ℤ pos (s * 0) ≡ pos b = (let none : s * 0 ≡ 0 = omega arith in ap (λ k. pos b -ℤ pos k) none ∙ omega (arith, ints)) in
    sym (ap (λ k. residue w (pos b -ℤ pos (s * k))) e ∙ (ap (residue w) z ∙ mod-eq_of_lt h))
moved_by_none w b x s n false e h =
    let z : b + s * 0 ≡ b = omega arith in
    sym (ap (λ k. residue w (pos (b + s * k))) e ∙ (ap (λ k. k % 2 ^ w) z ∙ mod-eq_of_lt h))

-- the lowest bit, and then the others
taken_twice : (n a b c : ℕ) → c ≡ a + b → (pos n -ℤ pos a) -ℤ pos b ≡ pos n -ℤ pos c
taken_twice n a b c e = omega (arith, ints)

halved : (s rest : ℕ) → s * rest ≡ s * (rest % 2) + (s * 2) * (rest / 2)
halved s rest =
    let q = rest / 2 in
    let t = rest % 2 in
    let e : s * (q * 2 + t) ≡ s * t + (s * 2) * q = omega arith in
    ap (λ k. s * k) (sym (div-add-mod' rest 2)) ∙ e

bit_and_rest : (w n s rest v : ℕ) (minus : Bool) → v ≡ residue w (exact_move n (pos s) (rest % 2) minus) → residue w (exact_move v (pos (s * 2)) (rest / 2) minus) ≡ residue w (exact_move n (pos s) rest minus)
bit_and_rest w n s rest v true e =
    let a = s * (rest % 2) in
    let b = (s * 2) * (rest / 2) in
    difference_alike w (pos v) (pos b) (pos n -ℤ pos a) (pos b) (ap (λ k. residue w (pos k)) e ∙ residue_again w (pos n -ℤ pos a)) refl
    ∙ ap (residue w) (taken_twice n a b (s * rest) (halved s rest))
bit_and_rest w n s rest v false e =
    let a = s * (rest % 2) in
    let b = (s * 2) * (rest / 2) in
    let f : n + a + b ≡ n + s * rest = omega (arith, halved s rest) in
    sum_alike w (pos v) (pos b) (pos (n + a)) (pos b) (ap (λ k. residue w (pos k)) e ∙ residue_again w (pos (n + a))) refl
    ∙ ap (λ k. residue w (pos k)) f

raised_more : (s place : ℕ) → s * 2 ^ (place + 1) ≡ s * 2 ^ place * 2
raised_more s place =
    let e : place + 1 ≡ suc place = omega arith in
    let f : 2 ^ (place + 1) ≡ 2 ^ place * 2 = ap (λ k. 2 ^ k) e ∙ pow-suc 2 place in
    let P = 2 ^ place in
    let g : s * (P * 2) ≡ s * P * 2 = omega arith in
    ap (λ k. s * k) f ∙ g

-- ---- the sums so far: what is left of the size, from here, gives what all of it gives
pub record SoFar (start now : Stored) (w base step size : ℕ) (minus : Bool) (sum rest place : ℕ) : Type 0 where
  pub spent : ℕ
  pub grown : Grown start now spent
  pub budget : spent + 10 * w * ones rest ≤ 10 * w * ones size
  pub term : IsTerm now w sum
  pub low : rest < 2 ^ (31 - place)
  pub value : (numbers : ℕ → ℕ) → Obeys now numbers → residue w (exact_move (numbers sum) (pos (numbers step * 2 ^ place)) rest minus) ≡ residue w (exact_move (numbers base) (pos (numbers step)) size minus)

module _ (w base step size : ℕ) (minus : Bool) where
  pub begins : (start : Stored) → IsTerm start w base → size < 2 ^ 31 → SoFar start start w base step size minus base size 0
  begins start t l = record {
    spent = 0;
    grown = grown_same start 0;
    budget = omega arith;
    term = t;
    low = l;
    value = λ numbers o. let e : numbers step * 2 ^ 0 ≡ numbers step = omega arith in ap (λ k. residue w (exact_move (numbers base) (pos k) size minus)) e;
  }

  half_below : (rest k : ℕ) → 1 ≤ k → rest < 2 ^ k → rest / 2 < 2 ^ (k - 1)
  half_below rest k o h =
      let e : 2 ^ k ≡ 2 ^ (k - 1) * 2 = (let f : k ≡ suc (k - 1) = omega arith in ap (λ j. 2 ^ j) f ∙ pow-suc 2 (k - 1)) in
      let l : 0 < 2 = omega arith in
      (div-lt_iff_lt-mul l).1 (subst (λ m. rest < m) e h)

  budget_on : (spent rest : ℕ) → spent + 10 * w * ones rest ≤ 10 * w * ones size → spent + 10 * w * (rest % 2) + 10 * w * ones (rest / 2) ≤ 10 * w * ones size
  budget_on spent rest l =
      let W = 10 * w in
      let e : W * ones rest ≡ W * (rest % 2) + W * ones (rest / 2) = ap (λ k. W * k) (ones_step rest) ∙ distributed W (rest % 2) (ones (rest / 2)) in
      omega (arith, l, e)
    where
      distributed : (W a b : ℕ) → W * (a + b) ≡ W * a + W * b
      distributed W a b = omega arith

  pub goes_on : (start now new : Stored) (sum v rest place : ℕ) → place < 31 → SoFar start now w base step size minus sum rest place → Grown now new (10 * w * (rest % 2)) → IsTerm new w v
      → ((numbers : ℕ → ℕ) → Obeys new numbers → numbers v ≡ residue w (exact_move (numbers sum) (pos (numbers step * 2 ^ place)) (rest % 2) minus))
      → SoFar start new w base step size minus v (rest / 2) (place + 1)
  goes_on start now new sum v rest place l f g t e = record {
    spent = f.spent + 10 * w * (rest % 2);
    grown = grown_then start now new f.spent (10 * w * (rest % 2)) (f.spent + 10 * w * (rest % 2)) f.grown g (omega arith);
    budget = budget_on f.spent rest f.budget;
    term = t;
    low = (let k : 31 - place - 1 ≡ 31 - (place + 1) = omega arith in subst (λ j. rest / 2 < 2 ^ j) k (half_below rest (31 - place) (omega arith) f.low));
    value = λ numbers o.
        ap (λ k. residue w (exact_move (numbers v) (pos k) (rest / 2) minus)) (raised_more (numbers step) place)
        ∙ (bit_and_rest w (numbers sum) (numbers step * 2 ^ place) rest (numbers v) minus (e numbers o)
        ∙ f.value numbers (obeys_before now new (10 * w * (rest % 2)) numbers g o));
  }

  pub ended_value : (start now : Stored) (sum rest place : ℕ) → 31 ≤ place → SoFar start now w base step size minus sum rest place → (numbers : ℕ → ℕ) → Obeys now numbers → numbers sum < 2 ^ w → numbers sum ≡ residue w (exact_move (numbers base) (pos (numbers step)) size minus)
  ended_value start now sum rest place l f numbers o h =
      let k : 31 - place ≡ 0 = omega arith in
      let low : rest < 2 ^ 0 = subst (λ j. rest < 2 ^ j) k f.low in
      let z : rest ≡ 0 = omega (arith, low) in
      moved_by_none w (numbers sum) (pos 0) (numbers step * 2 ^ place) rest minus z h ∙ f.value numbers o

  pub failed_grown : (start now new : Stored) (sum rest place : ℕ) → SoFar start now w base step size minus sum rest place → Grown now new (10 * w * (rest % 2)) → Grown start new (10 * w * ones size)
  failed_grown start now new sum rest place f g = grown_then start now new f.spent (10 * w * (rest % 2)) (10 * w * ones size) f.grown g (let b = budget_on f.spent rest f.budget in omega (arith, b))

  pub ended_grown : (start now : Stored) (sum rest place : ℕ) → SoFar start now w base step size minus sum rest place → Grown start now (10 * w * ones size)
  ended_grown start now sum rest place f = record { keeps = f.grown.keeps; costs = (let a = f.grown.costs in let b = f.budget in omega (arith, a, b)) }

-- ---- whether an exact address leaves the address space
data IsNear (z : ℤ) : Type 0 where
  Above : (m : ℕ) → z ≡ pos m → m < 2 ^ 96 → IsNear z
  Under : (m : ℕ) → z ≡ negsuc m → m < 2 ^ 95 → IsNear z

upper_bits : (m : ℕ) → m < 2 ^ 96 → m / 2 ^ 64 % 2 ^ 32 ≡ m / 2 ^ 64
upper_bits m h = mod-eq_of_lt ((div-lt_iff_lt-mul (pow_pos 64)).1 h)

none_upper : (m : ℕ) → m < 2 ^ 64 → nat_eq (m / 2 ^ 64) 0 ≡ true
none_upper m h = ap (λ k. nat_eq k 0) (div-eq_of_lt h)

some_upper : (m : ℕ) → 2 ^ 64 ≤ m → nat_eq (m / 2 ^ 64) 0 ≡ false
some_upper m h = apart (m / 2 ^ 64) (λ e. let l : m < 1 * 2 ^ 64 = (div-lt_iff_lt-mul {x = m} {y = 1} (pow_pos 64)).0 (omega (arith, e)) in omega (arith, l, h))
  where
    apart : (q : ℕ) → (q ≡ 0 → ⊥) → nat_eq q 0 ≡ false
    apart zero f = absurd (f refl)
    apart (suc q) f = grind arith

fits_low : (m : ℕ) → m < 2 ^ 64 → fits kind.ULong (pos m) ≡ true
fits_low m h = within_ends (pos 0) (pos (2 ^ 64) -ℤ pos 1) (pos m) (omega (arith, ints)) (omega (arith, ints))

above_false : (m : ℕ) → 2 ^ 64 ≤ m → int_le (pos m) (pos (2 ^ 64) -ℤ pos 1) ≡ false
above_false m h = grind (arith, ints)

fits_high : (m : ℕ) → 2 ^ 64 ≤ m → fits kind.ULong (pos m) ≡ false
fits_high m h = and_no (int_le (pos 0) (pos m)) (int_le (pos m) (pos (2 ^ 64) -ℤ pos 1)) (above_false m h)
  where
    and_no : (a b : Bool) → b ≡ false → (a && b) ≡ false
    and_no true b e = e
    and_no false b e = refl

is_below : (m n : ℕ) → nat_lt m n ≡ true → m < n
is_below m n e = grind arith

is_above : (m n : ℕ) → nat_lt m n ≡ false → n ≤ m
is_above m n e = grind arith

upper_fits : (m : ℕ) → m < 2 ^ 96 → nat_eq (m / 2 ^ 64 % 2 ^ 32) 0 ≡ fits kind.ULong (pos m)
upper_fits m h = ap (λ k. nat_eq k 0) (upper_bits m h) ∙ by (nat_lt m (2 ^ 64)) refl
  where
    by : (b : Bool) → nat_lt m (2 ^ 64) ≡ b → nat_eq (m / 2 ^ 64) 0 ≡ fits kind.ULong (pos m)
    by true e = let l = is_below m (2 ^ 64) e in none_upper m l ∙ sym (fits_low m l)
    by false e = let l = is_above m (2 ^ 64) e in some_upper m l ∙ sym (fits_high m l)

near_fits : (z : ℤ) → IsNear z → nat_eq (residue 96 z / 2 ^ 64 % 2 ^ 32) 0 ≡ fits kind.ULong z
near_fits z (Above m e h) = ap (λ u. nat_eq (residue 96 u / 2 ^ 64 % 2 ^ 32) 0) e ∙ (ap (λ k. nat_eq (k / 2 ^ 64 % 2 ^ 32) 0) (mod-eq_of_lt h) ∙ (upper_fits m h ∙ ap (fits kind.ULong) (sym e)))
near_fits z (Under m e h) =
    let r : residue 96 z ≡ 2 ^ 96 - 1 - m = ap (residue 96) e ∙ ap (λ k. 2 ^ 96 - 1 - k) (mod-eq_of_lt (omega (arith, h))) in
    let k = 2 ^ 96 - 1 - m in
    let least : 2 ^ 64 ≤ k = omega (arith, h) in
    let most : k < 2 ^ 96 = omega (arith, h) in
    ap (λ u. nat_eq (u / 2 ^ 64 % 2 ^ 32) 0) r ∙ (ap (λ u. nat_eq u 0) (upper_bits k most) ∙ (some_upper k least ∙ ap (fits kind.ULong) (sym e)))

near_up : (p t : ℕ) → p < 2 ^ 64 → t < 2 ^ 95 + 1 → IsNear (pos (p + t))
near_up p t h l = Above (p + t) refl (omega (arith, h, l))

near_down : (p t : ℕ) → p < 2 ^ 64 → t < 2 ^ 95 + 1 → (z : ℤ) → z ≡ pos p -ℤ pos t → IsNear z
near_down p t h l z e = by (nat_lt p t) refl
  where
    by : (b : Bool) → nat_lt p t ≡ b → IsNear z
    by true f = let m = is_below p t f in Under (t - p - 1) (e ∙ omega (arith, ints)) (omega (arith, m, l))
    by false f = let m = is_above p t f in Above (p - t) (e ∙ omega (arith, ints)) (omega (arith, h))

product_below : (a size : ℕ) → a ≤ 2 ^ 64 → size < 2 ^ 31 → a * size < 2 ^ 95 + 1
product_below a size h l =
    let m : a * size ≤ 2 ^ 64 * 2 ^ 31 = mul-le-mul h (let s : size ≤ 2 ^ 31 = omega (arith, l) in s) in
    omega (arith, m)

move_near : (p : ℕ) (x : ℤ) (size : ℕ) (minus : Bool) (k : IntKind) → p < 2 ^ 64 → fits k x ≡ true → size < 2 ^ 31 → IsNear (exact_move p x size minus)
move_near p (pos a) size true k h f l =
    let b = (kind_bounds k (pos a) f).1 in
    near_down p (a * size) h (product_below a size (omega (arith, ints)) l) _ refl
move_near p (pos a) size false k h f l =
    let b = (kind_bounds k (pos a) f).1 in
    near_up p (a * size) h (product_below a size (omega (arith, ints)) l)
move_near p (negsuc a) size true k h f l =
    let b = (kind_bounds k (negsuc a) f).0 in
    let t = suc a * size in
    let e : pos p -ℤ neg_ℤ (pos t) ≡ pos (p + t) = omega (arith, ints) in
    subst IsNear (sym (ap (λ u. pos p -ℤ u) (negsuc-*ℤ-pos a size) ∙ e)) (near_up p t h (product_below (suc a) size (omega (arith, ints)) l))
move_near p (negsuc a) size false k h f l =
    let b = (kind_bounds k (negsuc a) f).0 in
    let t = suc a * size in
    let e : pos p +ℤ neg_ℤ (pos t) ≡ pos p -ℤ pos t = omega (arith, ints) in
    near_down p t h (product_below (suc a) size (omega (arith, ints)) l) (exact_move p (negsuc a) size false) (ap (λ u. pos p +ℤ u) (negsuc-*ℤ-pos a size) ∙ e)

-- the upper bits of the exact address tell whether it leaves
pub leaving_bits : (p : ℕ) (x : ℤ) (size : ℕ) (minus : Bool) (k : IntKind) (r : ℕ) → p < 2 ^ 64 → fits k x ≡ true → size < 2 ^ 31 → r ≡ residue 96 (exact_move p x size minus) → not (nat_eq (r / 2 ^ 64 % 2 ^ 32) 0) ≡ leaves_memory p x size minus
leaving_bits p x size minus k r h f l e = ap not (ap (λ u. nat_eq (u / 2 ^ 64 % 2 ^ 32) 0) e ∙ near_fits (exact_move p x size minus) (move_near p x size minus k h f l))
