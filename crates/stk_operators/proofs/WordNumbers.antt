-- Numbers of runs in the code's `i128`: what is computed of them fits it.
use Rattle.std.proofs.Common.{◌≡◌, ℕ, ◌-◌, ◌^◌, ◌<◌, ◌≤◌, true, ℤ, pos, negsuc, ◌-ℤ◌, ◌*ℤ◌, sym, ap, subst, ◌∙◌, arith}
use Rattle.std.specs.Prelude.{unsigned_abs, FitsSigned}
use Rattle.std.proofs.lemmas.Int.{ints, to_z-of_z, fits_signed_from_abs, fits_signed_mul}
use Rattle.std.proofs.Math.Nat.{pow-le-pow_right}
use mir.Syntax.{w128}
use Rattle.stk_ctype.specs.declared.kind.IntKind.{IntKind}
use Rattle.stk_numbers.specs.declared.operators.ShiftOp.TheVariants.{Left}
use Rattle.stk_numbers.specs.Kinds.{fits, wrap}
use Rattle.stk_numbers.specs.Values.{shifted_by}
use Rattle.stk_numbers.proofs.Bounds.{kind_bounds}
use Rattle.stk_numbers.proofs.Machine.{again, shown}
use Rattle.stk_numbers.proofs.Wrapping.{wrap_in_range}
use Rattle.stk_operators.specs.Words.{IsWord}

-- a number that was converted to a kind is one of the kind, and one of a run
pub fits_again : (k : IntKind) (z r : ℤ) → r ≡ wrap k z → fits k (again r) ≡ true
fits_again k z r is = ap (fits k) (shown k z r is) ∙ wrap_in_range k z

pub word_again : (k : IntKind) (z r : ℤ) → r ≡ wrap k z → IsWord (again r)
word_again k z r is = kind_bounds k (again r) (fits_again k z r is)

word_abs : (z : ℤ) → IsWord z → unsigned_abs z ≤ 2 ^ 64 - 1
word_abs (pos n) within = let low = within.0 in let high = within.1 in omega (arith, ints)
word_abs (negsuc n) within = let low = within.0 in let high = within.1 in omega (arith, ints)

pub word_fits : (z : ℤ) → IsWord z → FitsSigned w128 z
word_fits z within = let small = word_abs z within in fits_signed_from_abs w128 z (omega (arith, small))

-- a number of a run is read as it is
pub word_same : (z : ℤ) → IsWord z → again z ≡ z
word_same z within = to_z-of_z w128 z (word_fits z within)

power_fits : (n : ℕ) → n < 64 → 2 ^ n ≤ 2 ^ 63
power_fits n below = pow-le-pow_right {n = 2} (omega arith) {i = n} {j = 63} (omega (arith, below))

power_same : (n : ℕ) → n < 64 → again (pos (2 ^ n)) ≡ pos (2 ^ n)
power_same n below = to_z-of_z w128 (pos (2 ^ n)) (fits_signed_from_abs w128 (pos (2 ^ n)) (omega (arith, power_fits n below)))

shift_fits : (x : ℤ) (n : ℕ) → IsWord x → n < 64 → FitsSigned w128 (x *ℤ pos (2 ^ n))
shift_fits x n within below = fits_signed_mul w128 x (pos (2 ^ n)) (2 ^ 64 - 1) (2 ^ 63) (word_abs x within) (power_fits n below) (omega arith)

-- what is read of a number x and of 2 to a count below 64
shift_same : (x y p : ℤ) (n : ℕ) → IsWord x → y ≡ x → n < 64 → p ≡ pos (2 ^ n) → again y *ℤ again p ≡ x *ℤ pos (2 ^ n)
shift_same x y p n within same below power =
    ap (λ u. again u *ℤ again p) same ∙ ap (λ u. u *ℤ again p) (word_same x within) ∙ ap (λ u. x *ℤ u) (ap again power ∙ power_same n below)

pub shift_again : (x y p : ℤ) (n : ℕ) → IsWord x → y ≡ x → n < 64 → p ≡ pos (2 ^ n) → FitsSigned w128 (again y *ℤ again p)
shift_again x y p n within same below power = subst (FitsSigned w128) (sym (shift_same x y p n within same below power)) (shift_fits x n within below)

pub shift_value : (k : IntKind) (x y p r : ℤ) (n : ℕ) → IsWord x → y ≡ x → n < 64 → p ≡ pos (2 ^ n) → r ≡ wrap k (again (again y *ℤ again p)) → r ≡ shifted_by Left k x n
shift_value k x y p r n within same below power is =
    is ∙ ap (wrap k) (ap again (shift_same x y p n within same below power) ∙ to_z-of_z w128 (x *ℤ pos (2 ^ n)) (shift_fits x n within below))

flip_fits : (x : ℤ) → IsWord x → FitsSigned w128 (negsuc 0 -ℤ x)
flip_fits (pos n) within = let high = word_abs (pos n) within in fits_signed_from_abs w128 (negsuc 0 -ℤ pos n) (omega (arith, ints))
flip_fits (negsuc n) within = let high = word_abs (negsuc n) within in fits_signed_from_abs w128 (negsuc 0 -ℤ negsuc n) (omega (arith, ints))

-- -1 less a number
pub flip_value : (k : IntKind) (x y r : ℤ) → IsWord x → y ≡ x → r ≡ wrap k (again (negsuc 0 -ℤ again y)) → r ≡ wrap k (negsuc 0 -ℤ x)
flip_value k x y r within same is =
    is ∙ ap (wrap k) (ap (λ u. again (negsuc 0 -ℤ again u)) same ∙ ap (λ u. again (negsuc 0 -ℤ u)) (word_same x within) ∙ to_z-of_z w128 (negsuc 0 -ℤ x) (flip_fits x within))
