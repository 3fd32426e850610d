-- Shifts by places.
use Rattle.std.proofs.Common.{◌≡◌, ℕ, zero, suc, ◌+◌, ◌-◌, ◌*◌, ◌/◌, ◌%◌, ◌^◌, ◌<◌, ◌≤◌, Bool, true, false, not, ◌||◌, ◌&&◌, if◌then◌else◌, nat_lt, nat_le, List, ◌++◌, length, take, drop, get_or, replicate, refl, sym, ap, ◌∙◌, subst, arith}
use Rattle.std.proofs.lemmas.List.{length-drop, take_all}
use Rattle.std.proofs.lemmas.Nat.{pow_pos, pow-add, div-mul-add, shr-shr, shr_split, mod_below, mul-le, one_shl}
use Rattle.std.proofs.lemmas.Bool.{ltb-false, ltb-true, le-leb, lt-leb}
use Rattle.std.proofs.Math.Nat.{mul-add, add-mul, mul-zero, div-eq_of_lt, mul-le-mul_left, pow-le-pow_right}
use Rattle.stk_gates.specs.declared.edge.Edge.{Edge}
use Rattle.stk_gates.specs.Edges.{edge_value}
use Rattle.stk_arith.specs.Rows.{bit, number}
use Rattle.stk_arith.proofs.Numbers.{number-below, number-append, number-drop, number-split, number-take_more, number-take_below}
use Rattle.stk_arith.proofs.Alike.{number-filled_false, number-filled_true}
use Rattle.stk_arith.specs.Shifts.{signed_bits, shifted_right, is_negative}

pub complement_shift : (p q h l : ℕ) → h < p → l < q → (p * q - 1 - (h * q + l)) / q ≡ p - 1 - h
complement_shift p q h l lh ll =
    let m = p - 1 - h in
    let parts : p ≡ m + 1 + h = omega arith in
    let all : p * q ≡ m * q + 1 * q + h * q = ap (λ n. n * q) parts ∙ (add-mul (m + 1) h q ∙ ap (λ n. n + h * q) (add-mul m 1 q)) in
    let left : p * q - 1 - (h * q + l) ≡ m * q + (q - 1 - l) = omega arith in
    ap (λ n. n / q) left ∙ div-mul-add m q (q - 1 - l) (omega arith)

module _ (gates : ℕ → Bool) where
  -- a row that is moved by some places and filled up
  pub moved_right : (row moved : List Edge) (by w : ℕ) (fill : Edge) (v : Bool) → length row ≡ w → by ≤ w → edge_value gates fill ≡ v → moved ≡ drop by row ++ replicate by fill
      → signed_bits v w (number gates moved) ≡ signed_bits v w (number gates row) / 2 ^ by
  moved_right row moved by w fill false lw lb f is =
      ap (number gates) is ∙ (number-append gates (drop by row) (replicate by fill) ∙ (ap (λ n. number gates (drop by row) + 2 ^ length (drop by row) * n) (number-filled_false gates fill f by) ∙ (let none = mul-zero (2 ^ length (drop by row)) in let same : number gates (drop by row) + 2 ^ length (drop by row) * 0 ≡ number gates (drop by row) = omega arith in same ∙ number-drop gates row by (omega arith))))
  moved_right row moved by w fill true lw lb f is =
      let q = 2 ^ by in
      let p = 2 ^ (w - by) in
      let h = number gates row / q in
      let l = number gates row % q in
      let whole : p * q ≡ 2 ^ w = sym (pow-add 2 (w - by) by) ∙ ap (λ n. 2 ^ n) (omega arith) in
      let size : length (drop by row) ≡ w - by = length-drop by row ∙ ap (λ n. n - by) lw in
      let high : number gates (drop by row) ≡ h = number-drop gates row by (omega arith) in
      let below : h < p = subst (λ n. n < p) high (subst (λ n. number gates (drop by row) < 2 ^ n) size (number-below gates (drop by row))) in
      let low : l < q = mod_below (number gates row) q (pow_pos by) in
      let ends = number-filled_true gates fill f by in
      let spread : p * (number gates (replicate by fill) + 1) ≡ p * number gates (replicate by fill) + p * 1 = mul-add p (number gates (replicate by fill)) 1 in
      let ones : p * (number gates (replicate by fill) + 1) ≡ p * q = ap (λ n. p * n) ends in
      let parts : number gates moved ≡ h + p * number gates (replicate by fill) = ap (number gates) is ∙ (number-append gates (drop by row) (replicate by fill) ∙ (λ j. high j + 2 ^ size j * number gates (replicate by fill))) in
      let split : h * q + l ≡ number gates row = shr_split (number gates row) by in
      let left : 2 ^ w - 1 - number gates moved ≡ p - 1 - h = omega arith in
      left ∙ sym ((λ j. (sym whole j - 1 - sym split j) / q) ∙ complement_shift p q h l below low)

  pub shift_step : (b : List Edge) (x y k : ℕ) (d : Edge) → k < length b → x ≡ y / 2 ^ number gates (take k b)
      → (if edge_value gates (get_or b k d) then x / 2 ^ (2 ^ k) else x) ≡ y / 2 ^ number gates (take (k + 1) b)
  shift_step b x y k d l e = by (edge_value gates (get_or b k d)) refl
    where
      by : (v : Bool) → edge_value gates (get_or b k d) ≡ v → (if v then x / 2 ^ (2 ^ k) else x) ≡ y / 2 ^ number gates (take (k + 1) b)
      by true f = ap (λ n. n / 2 ^ (2 ^ k)) e ∙ (shr-shr y (number gates (take k b)) (2 ^ k) ∙ ap (λ n. y / 2 ^ n) (sym (number-take_more gates b k d l ∙ (ap (λ v. number gates (take k b) + 2 ^ k * bit v) f ∙ (let one : number gates (take k b) + 2 ^ k * 1 ≡ number gates (take k b) + 2 ^ k = omega arith in one)))))
      by false f = e ∙ ap (λ n. y / 2 ^ n) (sym (number-take_more gates b k d l ∙ (ap (λ v. number gates (take k b) + 2 ^ k * bit v) f ∙ (let none = mul-zero (2 ^ k) in let same : number gates (take k b) + 2 ^ k * 0 ≡ number gates (take k b) = omega arith in same))))

-- the sign bits again
pub signed_back : (v : Bool) (w n x : ℕ) → n < 2 ^ w → signed_bits v w n ≡ x → n ≡ signed_bits v w x
signed_back true w n x l e = omega arith
signed_back false w n x l e = e

pub signed_below : (v : Bool) (w n : ℕ) → n < 2 ^ w → signed_bits v w n < 2 ^ w
signed_below true w n l = omega arith
signed_below false w n l = l

pub finished_bit : (over fill x f k e : Bool) → f ≡ over && fill → k ≡ not over && x → e ≡ f || k → e ≡ (if over then fill else x)
finished_bit true fill x f k e h i j = j ∙ ((λ n. h n || i n) ∙ or_false fill)
  where
    or_false : (b : Bool) → b || false ≡ b
    or_false true = refl
    or_false false = refl
finished_bit false fill x f k e h i j = j ∙ (λ n. h n || i n)

-- a count that is at least the width
pub shifted_out : (v : Bool) (w n y c d : ℕ) → w ≤ 2 ^ n → c ≡ d + 2 ^ n * y → 0 < y → (x : ℕ) → x < 2 ^ w → x / 2 ^ c ≡ 0
shifted_out v w n y c d lw is pos x lx =
    let more : 2 ^ n * 1 ≤ 2 ^ n * y = mul-le-mul_left (2 ^ n) (omega arith) in
    let far : w ≤ c = omega arith in
    let big : 2 ^ w ≤ 2 ^ c = pow-le-pow_right (omega arith) far in
    div-eq_of_lt (omega arith)

module _ (gates : ℕ → Bool) where
  pub all_filled : (v : Bool) (fill : Edge) (w : ℕ) → edge_value gates fill ≡ v → signed_bits v w (number gates (replicate w fill)) ≡ 0
  all_filled true fill w f = let ones = number-filled_true gates fill f w in omega arith
  all_filled false fill w f = number-filled_false gates fill f w

  -- the last step of a shift
  pub shift_end : (b row all : List Edge) (v over : Bool) (fill : Edge) (w n a : ℕ) → edge_value gates fill ≡ v → length all ≡ w → a < 2 ^ w → w ≤ 2 ^ n → n ≤ length b
      → over ≡ nat_lt 0 (number gates (drop n b)) → signed_bits v w (number gates row) ≡ signed_bits v w a / 2 ^ number gates (take n b)
      → number gates all ≡ (if over then number gates (replicate w fill) else number gates row)
      → number gates all ≡ shifted_right v w a (number gates b)
  shift_end b row all v true fill w n a f size la lw lb is value all_is =
      let below : number gates all < 2 ^ w = subst (λ m. number gates all < 2 ^ m) size (number-below gates all) in
      let some = ltb-true 0 (number gates (drop n b)) (sym is) in
      let out = shifted_out v w n (number gates (drop n b)) (number gates b) (number gates (take n b)) lw (number-split gates b n lb) some (signed_bits v w a) (signed_below v w a la) in
      signed_back v w (number gates all) _ below (ap (signed_bits v w) all_is ∙ (all_filled v fill w f ∙ sym out))
  shift_end b row all v false fill w n a f size la lw lb is value all_is =
      let below : number gates all < 2 ^ w = subst (λ m. number gates all < 2 ^ m) size (number-below gates all) in
      let none : number gates (drop n b) ≡ 0 = let le = ltb-false 0 (number gates (drop n b)) (sym is) in omega arith in
      let count : number gates b ≡ number gates (take n b) = number-split gates b n lb ∙ (ap (λ m. number gates (take n b) + 2 ^ n * m) none ∙ (let zero_is = mul-zero (2 ^ n) in omega arith)) in
      signed_back v w (number gates all) _ below (ap (signed_bits v w) all_is ∙ (value ∙ ap (λ m. signed_bits v w a / 2 ^ m) (sym count)))

pub stages_cost : (k n now new old each : ℕ) → n ≡ k + 1 → now ≤ old + k * each → new ≤ now + each → new ≤ old + n * each
stages_cost k n now new old each e before grows = let all : n * each ≡ k * each + 1 * each = ap (λ m. m * each) e ∙ add-mul k 1 each in omega arith

pub cost_all : (w n old now : ℕ) → n ≤ 7 → n ≤ w → 0 < w → now ≤ old + n * (3 * w) + (w - n) + (2 * w + 1) → now ≤ old + 24 * w
cost_all w zero old now few within some h = let none : 0 * (3 * w) ≡ 0 = omega arith in omega arith
cost_all w (suc n) old now few within some h = let most : suc n * (3 * w) ≤ 7 * (3 * w) = mul-le (suc n) (3 * w) 7 (3 * w) few (omega arith) in omega arith

pub signed_if : (t v : Bool) (w x y z : ℕ) → signed_bits v w x ≡ z → signed_bits v w (if t then x else y) ≡ (if t then z else signed_bits v w y)
signed_if true v w x y z e = e
signed_if false v w x y z e = refl

-- what a stage shifts by
pub stage_by : (k n w : ℕ) → k < n → n ≤ 7 → (0 < n → 2 ^ (n - 1) < w) → ((1 * 2 ^ k) % 2 ^ 64 ≡ 2 ^ k) × (2 ^ k ≤ w)
stage_by k n w l few below =
    let high = below (omega arith) in
    let up : 2 ^ k ≤ 2 ^ (n - 1) = pow-le-pow_right (omega arith) (omega arith) in
    (one_shl k 64 (omega arith), omega arith)

-- there is room for one more stage
pub stage_room : (k n w old now most : ℕ) → k < n → n ≤ 7 → now ≤ old + k * (3 * w) → old + 24 * w ≤ most → now + 3 * w ≤ most
stage_room k n w old now most l few h room = let part : k * (3 * w) ≤ 6 * (3 * w) = mul-le k (3 * w) 6 (3 * w) (omega arith) (omega arith) in omega arith

-- the gates of all stages, however many there are
pub stages_most : (w n old now : ℕ) → n ≤ 7 → n ≤ w → 0 < w → now ≤ old + n * (3 * w) → now + (w - n) + (2 * w + 1) ≤ old + 24 * w
stages_most w n old now few within some h = cost_all w n old (now + (w - n) + (2 * w + 1)) few within some (omega arith)

-- the highest bit of a row tells its sign
pub top_is_sign : (gates : ℕ → Bool) (row : List Edge) (d : Edge) → 0 < length row → edge_value gates (get_or row (length row - 1) d) ≡ is_negative (length row) (number gates row)
top_is_sign gates row d some =
    let m = length row - 1 in
    let v = edge_value gates (get_or row m d) in
    let more : m + 1 ≡ length row = omega arith in
    let all : number gates row ≡ number gates (take m row) + 2 ^ m * bit v = ap (number gates) (sym (take_all (m + 1) row (omega arith))) ∙ number-take_more gates row m d (omega arith) in
    by v (number gates (take m row)) (2 ^ m) (number-take_below gates row m (omega arith)) ∙ ap (nat_le (2 ^ m)) (sym all)
  where
    by : (v : Bool) (low p : ℕ) → low < p → v ≡ nat_le p (low + p * bit v)
    by true low p l = sym (le-leb p (low + p * 1) (omega arith))
    by false low p l = sym (lt-leb p (low + p * 0) (let none = mul-zero p in omega arith))
