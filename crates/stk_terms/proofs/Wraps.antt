-- Bits below a width of numbers that wrap at 128 bits.
use Rattle.std.proofs.Common.{◌≡◌, ℕ, zero, suc, ◌+◌, ◌-◌, ◌*◌, ◌/◌, ◌%◌, ◌^◌, ◌<◌, ◌≤◌, ap, subst, ◌∙◌, arith}
use Rattle.std.proofs.Math.Pow.{mod-mod-pow}
use Rattle.std.proofs.Math.Nat.{add-mul-mod_self_right, pow-le-pow_right, mul-le-mul_right}
use Rattle.std.proofs.lemmas.Nat.{pow-add, pow_pos, shl_whole, shr_below}

pub low_wrapped : (w n : ℕ) → w ≤ 128 → n % 2 ^ 128 % 2 ^ w ≡ n % 2 ^ w
low_wrapped w n h =
    let e : (128 - w) + w ≡ 128 = omega arith in
    subst (λ m. n % 2 ^ m % 2 ^ w ≡ n % 2 ^ w) e (mod-mod-pow n (128 - w) w)

split : (p W y : ℕ) → 0 < p → y < W → p * W - y ≡ (W - y) + (p - 1) * W
split zero W y h k = absurd (omega arith)
split (suc q) W y h k =
    let e : suc q - 1 ≡ q = omega arith in
    rw e (omega arith)

less : (j w x y : ℕ) → y < 2 ^ w → (x + (2 ^ (j + w) - y)) % 2 ^ w ≡ (x + (2 ^ w - y)) % 2 ^ w
less j w x y h =
    let e : x + (2 ^ (j + w) - y) ≡ (x + (2 ^ w - y)) + (2 ^ j - 1) * 2 ^ w = ap (λ n. x + (n - y)) (pow-add 2 j w) ∙ (ap (λ n. x + n) (split (2 ^ j) (2 ^ w) y (pow_pos j) h) ∙ omega arith) in
    ap (λ n. n % 2 ^ w) e ∙ add-mul-mod_self_right (x + (2 ^ w - y)) (2 ^ j - 1) (2 ^ w)

pub low_difference : (w x y : ℕ) → w ≤ 128 → y < 2 ^ w → (x + (2 ^ 128 - y)) % 2 ^ 128 % 2 ^ w ≡ (x + (2 ^ w - y)) % 2 ^ w
low_difference w x y h k =
    let e : (128 - w) + w ≡ 128 = omega arith in
    low_wrapped w (x + (2 ^ 128 - y)) h ∙ subst (λ m. (x + (2 ^ m - y)) % 2 ^ w ≡ (x + (2 ^ w - y)) % 2 ^ w) e (less (128 - w) w x y k)

pub powers : (m n : ℕ) → m ≤ n → 2 ^ m ≤ 2 ^ n
powers m n h = pow-le-pow_right (omega arith) h

pub masks : (m n : ℕ) → m ≤ n → 2 ^ m - 1 ≤ 2 ^ n - 1
masks m n h = omega (arith, powers m n h)

-- bits in front of others
pub joined_below : (w v x y : ℕ) → x < 2 ^ w → y < 2 ^ v → x * 2 ^ v + y < 2 ^ (w + v)
joined_below w v x y h k =
    let e : suc x * 2 ^ v ≤ 2 ^ w * 2 ^ v = mul-le-mul_right (2 ^ v) h in
    let f : suc x * 2 ^ v ≡ x * 2 ^ v + 2 ^ v = omega arith in
    rw pow-add (omega (arith, e, f))

pub joined_whole : (w v x : ℕ) → x < 2 ^ w → w + v ≤ 128 → (x * 2 ^ v) % 2 ^ 128 ≡ x * 2 ^ v
joined_whole w v x h k = shl_whole x w v 128 h k

pub joined_fits : (w v x y : ℕ) → x < 2 ^ w → y < 2 ^ v → w + v ≤ 128 → x * 2 ^ v + y < 2 ^ 128
joined_fits w v x y h k l = omega (arith, joined_below w v x y h k, powers (w + v) 128 l)

-- what a shift to the right leaves
pub shifted_within : (w x y : ℕ) → x < 2 ^ w → x / 2 ^ y < 2 ^ (w - y)
shifted_within w x y h =
    let n : w ≤ (w - y) + y = omega arith in
    shr_below x (w - y) y (omega (arith, powers w ((w - y) + y) n))
