-- Quotients, remainders, left shifts and absolute values of numbers of kinds in the code's `i128`.
use Rattle.std.proofs.Common.{◌≡◌, ℕ, zero, suc, ◌-◌, ◌/◌, ◌^◌, ◌<◌, ◌≤◌, true, false, ℤ, pos, negsuc, ◌-ℤ◌, ◌*ℤ◌, neg_ℤ, refl, sym, ap, subst, ◌∙◌, arith, if◌then◌else◌}
use Rattle.std.specs.Prelude.{int_lt, int_div, int_rem, unsigned_abs, FitsSigned}
use Rattle.std.specs.Ordering.{int_eq}
use Rattle.std.proofs.lemmas.Int.{ints, to_z-of_z, fits_signed_from_abs, fits_signed_mul, quot_is, rem_is}
use Rattle.std.proofs.Math.Nat.{div-le_self, pow-le-pow_right}
use mir.Val.{to_z, of_z}
use mir.Syntax.{w128}
use Rattle.stk_ctype.specs.declared.kind.IntKind.{IntKind}
use Rattle.stk_numbers.specs.declared.operators.ArithOp.TheVariants.{Div, Rem}
use Rattle.stk_numbers.specs.declared.operators.ShiftOp.TheVariants.{Left}
use Rattle.stk_numbers.specs.Kinds.{fits, wrap}
use Rattle.stk_numbers.specs.Values.{arith as arith_of, shifted_by, absolute}
use Rattle.stk_numbers.proofs.Machine.{again, same, shown, number_fits, number_abs}

pub abs_neg : (n : ℕ) → unsigned_abs (neg_ℤ (pos n)) ≡ n
abs_neg zero = refl
abs_neg (suc n) = refl

quotient_abs : (x y : ℤ) → unsigned_abs (int_div x y) ≤ unsigned_abs x
quotient_abs (pos a) (pos b) = div-le_self a b
quotient_abs (pos a) (negsuc b) = omega (arith, abs_neg (a / suc b), div-le_self a (suc b))
quotient_abs (negsuc a) (pos b) = omega (arith, abs_neg (suc a / b), div-le_self (suc a) b)
quotient_abs (negsuc a) (negsuc b) = div-le_self (suc a) (suc b)

quotient_fits : (k : IntKind) (x y : ℤ) → fits k x ≡ true → FitsSigned w128 (int_div x y)
quotient_fits k x y inx = fits_signed_from_abs w128 (int_div x y) (omega (arith, quotient_abs x y, number_abs k x inx))

pub apart_eq : (x y : ℤ) → (x ≡ y → ⊥) → int_eq x y ≡ false
apart_eq x y other = grind (arith, ints)

pub alike_eq : (x y : ℤ) → x ≡ y → int_eq x y ≡ true
alike_eq x y same_ = grind (arith, ints)

-- a number whose bits are 0 is 0
pub is_zero : (k : IntKind) (y : ℤ) → fits k y ≡ true → of_z w128 y ≡ 0 → y ≡ pos 0
is_zero k y iny none = sym (same k y iny) ∙ ap (to_z w128) none

-- a quotient by a number that isn't 0, and by 0
pub quotient_value : (k : IntKind) (x y r : ℤ) → fits k x ≡ true → fits k y ≡ true → (y ≡ pos 0 → ⊥) → r ≡ wrap k (again (int_div (again x) (again y))) → again r ≡ arith_of Div k x y
quotient_value k x y r inx iny other is =
    shown k (int_div x y) r (is ∙ ap (wrap k) (quot_is w128 x y (number_fits k x inx) (number_fits k y iny) (quotient_fits k x y inx)))
    ∙ sym (ap (λ b. wrap k (if b then pos 0 else int_div x y)) (apart_eq y (pos 0) other))

pub quotient_by_zero : (k : IntKind) (x y r : ℤ) → y ≡ pos 0 → r ≡ wrap k (pos 0) → again r ≡ arith_of Div k x y
quotient_by_zero k x y r zero_ is = shown k (pos 0) r is ∙ sym (ap (λ b. wrap k (if b then pos 0 else int_div x y)) (alike_eq y (pos 0) zero_))

-- a remainder by a number that isn't 0, and by 0
pub remainder_value : (k : IntKind) (x y r : ℤ) → fits k x ≡ true → fits k y ≡ true → (y ≡ pos 0 → ⊥) → r ≡ wrap k (again (int_rem (again x) (again y))) → again r ≡ arith_of Rem k x y
remainder_value k x y r inx iny other is =
    shown k (int_rem x y) r (is ∙ ap (wrap k) (rem_is w128 x y (number_fits k x inx) (number_fits k y iny)))
    ∙ sym (ap (λ b. wrap k (if b then x else int_rem x y)) (apart_eq y (pos 0) other))

pub remainder_by_zero : (k : IntKind) (x y r : ℤ) → fits k x ≡ true → y ≡ pos 0 → r ≡ wrap k (again x) → again r ≡ arith_of Rem k x y
remainder_by_zero k x y r inx zero_ is = shown k x r (is ∙ ap (wrap k) (same k x inx)) ∙ sym (ap (λ b. wrap k (if b then x else int_rem x y)) (alike_eq y (pos 0) zero_))

-- ---- left shifts
power_fits : (n : ℕ) → n < 64 → 2 ^ n ≤ 2 ^ 63
power_fits n below = pow-le-pow_right {n = 2} (omega arith) {i = n} {j = 63} (omega (arith, below))

shift_fits : (k : IntKind) (x : ℤ) (n : ℕ) → fits k x ≡ true → n < 64 → FitsSigned w128 (x *ℤ pos (2 ^ n))
shift_fits k x n inx below = fits_signed_mul w128 x (pos (2 ^ n)) (2 ^ 64 - 1) (2 ^ 63) (number_abs k x inx) (power_fits n below) (omega arith)

power_same : (n : ℕ) → n < 64 → again (pos (2 ^ n)) ≡ pos (2 ^ n)
power_same n below = to_z-of_z w128 (pos (2 ^ n)) (fits_signed_from_abs w128 (pos (2 ^ n)) (omega (arith, power_fits n below)))

shift_same : (k : IntKind) (x p : ℤ) (n : ℕ) → fits k x ≡ true → n < 64 → p ≡ pos (2 ^ n) → again x *ℤ again p ≡ x *ℤ pos (2 ^ n)
shift_same k x p n inx below is = ap (λ u. u *ℤ again p) (same k x inx) ∙ ap (λ u. x *ℤ u) (ap again is ∙ power_same n below)

pub shift_again : (k : IntKind) (x p : ℤ) (n : ℕ) → fits k x ≡ true → n < 64 → p ≡ pos (2 ^ n) → FitsSigned w128 (again x *ℤ again p)
shift_again k x p n inx below is = subst (FitsSigned w128) (sym (shift_same k x p n inx below is)) (shift_fits k x n inx below)

pub shift_value : (k : IntKind) (x p r : ℤ) (n : ℕ) → fits k x ≡ true → n < 64 → p ≡ pos (2 ^ n) → r ≡ wrap k (again (again x *ℤ again p)) → again r ≡ shifted_by Left k x n
shift_value k x p r n inx below power is = shown k (x *ℤ pos (2 ^ n)) r (is ∙ ap (wrap k) (ap again (shift_same k x p n inx below power) ∙ to_z-of_z w128 (x *ℤ pos (2 ^ n)) (shift_fits k x n inx below)))

-- ---- absolute values
minus_fits : (k : IntKind) (x : ℤ) → fits k x ≡ true → FitsSigned w128 (neg_ℤ x)
minus_fits k (pos n) inx = fits_signed_from_abs w128 (neg_ℤ (pos n)) (omega (arith, abs_neg n, number_abs k (pos n) inx))
minus_fits k (negsuc n) inx = fits_signed_from_abs w128 (pos (suc n)) (omega (arith, number_abs k (negsuc n) inx))

minus_is : (x : ℤ) → neg_ℤ x ≡ pos 0 -ℤ x
minus_is x = omega (arith, ints)

pub absolute_value : (k : IntKind) (x r : ℤ) → fits k x ≡ true → int_lt (again x) (pos 0) ≡ true → r ≡ wrap k (again (pos 0 -ℤ again x)) → again r ≡ absolute k x
absolute_value k x r inx low is =
    let below = ap (λ u. int_lt u (pos 0)) (sym (same k x inx)) ∙ low in
    shown k (pos 0 -ℤ x) r (is ∙ ap (wrap k) (ap (λ u. again (pos 0 -ℤ u)) (same k x inx) ∙ ap again (sym (minus_is x)) ∙ to_z-of_z w128 (neg_ℤ x) (minus_fits k x inx) ∙ minus_is x))
    ∙ sym (ap (λ b. if b then wrap k (pos 0 -ℤ x) else x) below)
