-- What few digits make.
use Rattle.std.proofs.Common.{◌≡◌, ℕ, zero, suc, ◌+◌, ◌-◌, ◌*◌, ◌≤◌, ◌<◌, ◌^◌, Bool, true, false, List, [], ◌∷◌, length, take, refl, sym, ap, subst, ◌∙◌, arith}
use Rattle.std.proofs.Math.Nat.{pow-succ', le-mul_of_pos_right, pow-le-pow_right}
use Rattle.std.proofs.lemmas.Bool.{false≢true}
use Rattle.std.proofs.lemmas.Bool.Decides.{nat_tests}
use Rattle.std.specs.Prelude.{◌&&◌}
use Rattle.std.specs.List.{list_all}
use Rattle.std.specs.Char.{is_ascii_digit}
use Rattle.stk_base.specs.Text.{decimal, decimal_behind}
use Rattle.stk_lex.specs.MarkerReading.{run}

pub ten_positive : (n : ℕ) → 0 < 10 ^ n
ten_positive zero = omega arith
ten_positive (suc n) = let e = pow-succ' 10 n in let k = ten_positive n in omega (arith, e)

pub digit_bound : (bound n r most : ℕ) → n + 1 ≡ r → bound * 10 ^ r ≤ most → (bound * 10 * 10 ^ n ≤ most) × (bound * 10 ≤ most)
digit_bound bound n r most e h =
    let s : suc n ≡ r = omega arith in
    let p : 10 ^ r ≡ 10 * 10 ^ n = ap (λ x. 10 ^ x) (sym s) ∙ pow-succ' 10 n in
    let product = rw p at h in
    let whole : bound * 10 * 10 ^ n ≤ most = omega (arith, product) in
    let least : bound * 10 ≤ bound * 10 * 10 ^ n = le-mul_of_pos_right (bound * 10) (ten_positive n) in
    (whole, omega (arith, whole, least))

and_parts : (p q : Bool) → (p && q) ≡ true → (p ≡ true) × (q ≡ true)
and_parts true true e = (refl, refl)
and_parts true false e = absurd (false≢true e)
and_parts false q e = absurd (false≢true e)

digit_range : (b : ℕ) → is_ascii_digit b ≡ true → (48 ≤ b) × (b ≤ 57)
digit_range b h = grind (arith, nat_tests)

pub first_digit : (b : ℕ) (bs : List ℕ) → list_all is_ascii_digit (b ∷ bs) ≡ true → (48 ≤ b) × (b ≤ 57) × (list_all is_ascii_digit bs ≡ true)
first_digit b bs h = let p = and_parts (is_ascii_digit b) (list_all is_ascii_digit bs) h in let r = digit_range b p.0 in (r.0, r.1, p.1)

-- few digits make a number below 10 to their count
pub few_digits : (n : ℕ) → n ≤ 9 → 10 ^ n ≤ 1000000000
few_digits n h = pow-le-pow_right {n = 10} (omega arith) h

run_on : (p : ℕ → Bool) (b : ℕ) (bs : List ℕ) (q : Bool) → p b ≡ q → list_all p (take (run p bs) bs) ≡ true → list_all p (take (run p (b ∷ bs)) (b ∷ bs)) ≡ true
unfolding run
run_on p b bs true e h = rw e (rw e h)
run_on p b bs false e h = rw e refl

-- all that a run counts passes
pub run_passes : (p : ℕ → Bool) (bs : List ℕ) → list_all p (take (run p bs) bs) ≡ true
unfolding run
run_passes p [] = refl
run_passes p (b ∷ bs) = run_on p b bs (p b) refl (run_passes p bs)

-- behind a number below a bound, digits make one below the bound followed by so many zeros
decimal_below : (v bound : ℕ) (bs : List ℕ) → v < bound → list_all is_ascii_digit bs ≡ true → decimal_behind v bs < bound * 10 ^ length bs
decimal_below v bound [] h all = omega (arith, h)
decimal_below v bound (b ∷ bs) h all =
    let d = first_digit b bs all in
    let k : decimal_behind (v * 10 + (b - 48)) bs < bound * 10 * 10 ^ length bs = decimal_below (v * 10 + (b - 48)) (bound * 10) bs (omega (arith, h, d.1)) d.2 in
    let less : decimal_behind (v * 10 + (b - 48)) bs < bound * (10 * 10 ^ length bs) = omega (arith, k) in
    subst (λ x. decimal_behind (v * 10 + (b - 48)) bs < bound * x) (sym (pow-succ' 10 (length bs))) less

-- at most nine digits make a number below 1,000,000,000
pub few_decimal : (bs : List ℕ) → length bs ≤ 9 → list_all is_ascii_digit bs ≡ true → decimal bs < 1000000000
few_decimal bs few all = omega (arith, decimal_below 0 1 bs (omega arith) all, few_digits (length bs) few)
