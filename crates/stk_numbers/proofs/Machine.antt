-- Numbers of kinds in the code's `i128`: what is computed fits it, so nothing is lost.
use Rattle.std.proofs.Common.{◌≡◌, ℕ, ◌-◌, ◌^◌, ◌≤◌, Bool, true, ℤ, pos, negsuc, ◌+ℤ◌, ◌-ℤ◌, ◌*ℤ◌, neg_ℤ, ◌≤ℤ◌, sym, ap, subst, ◌∙◌, arith}
use Rattle.std.specs.Prelude.{unsigned_abs, FitsSigned}
use Rattle.std.proofs.lemmas.Int.{ints, to_z-of_z, fits_signed_from_abs, fits_signed_mul}
use mir.Val.{to_z, of_z}
use mir.Syntax.{w128}
use Rattle.stk_ctype.specs.declared.kind.IntKind.{IntKind}
use Rattle.stk_numbers.specs.declared.operators.ArithOp.TheVariants.{Add, Sub, Mul}
use Rattle.stk_numbers.specs.Kinds.{is_signed, fits, wrap}
use Rattle.stk_numbers.specs.Values.{arith as arith_of}
use Rattle.stk_numbers.proofs.Bounds.{kind_bounds, signed_bounds}
use Rattle.stk_numbers.proofs.Wrapping.{wrap_in_range}

-- a number as the code reads it again
abbrev pub again : ℤ → ℤ
again z = to_z w128 (of_z w128 z)

abs_below : (z : ℤ) (m : ℕ) → neg_ℤ (pos m) ≤ℤ z → z ≤ℤ pos m → unsigned_abs z ≤ m
abs_below (pos n) m low high = omega (arith, ints)
abs_below (negsuc n) m low high = omega (arith, ints)

wide_fits : (z : ℤ) → neg_ℤ (pos (2 ^ 66)) ≤ℤ z → z ≤ℤ pos (2 ^ 66) → FitsSigned w128 z
wide_fits z low high = let small = abs_below z (2 ^ 66) low high in fits_signed_from_abs w128 z (omega (arith, small))

pub number_fits : (k : IntKind) (z : ℤ) → fits k z ≡ true → FitsSigned w128 z
number_fits k z within =
    let ends = kind_bounds k z within in
    let low = ends.0 in
    let high = ends.1 in
    wide_fits z (omega (arith, ints)) (omega (arith, ints))

pub number_abs : (k : IntKind) (z : ℤ) → fits k z ≡ true → unsigned_abs z ≤ 2 ^ 64 - 1
number_abs k z within =
    let ends = kind_bounds k z within in
    let low = ends.0 in
    let high = ends.1 in
    abs_below z (2 ^ 64 - 1) (omega (arith, ints)) (omega (arith, ints))

-- a number of a kind is read as it is
pub same : (k : IntKind) (z : ℤ) → fits k z ≡ true → again z ≡ z
same k z within = to_z-of_z w128 z (number_fits k z within)

-- what a conversion gave is read as it is
pub shown : (k : IntKind) (z r : ℤ) → r ≡ wrap k z → again r ≡ wrap k z
shown k z r is = ap again is ∙ same k (wrap k z) (wrap_in_range k z)

sum_same : (k : IntKind) (x y : ℤ) → fits k x ≡ true → fits k y ≡ true → again (again x +ℤ again y) ≡ x +ℤ y
sum_same k x y inx iny =
    let ex = kind_bounds k x inx in
    let ey = kind_bounds k y iny in
    let a = ex.0 in
    let b = ex.1 in
    let c = ey.0 in
    let d = ey.1 in
    ap (λ u. again (u +ℤ again y)) (same k x inx) ∙ ap (λ u. again (x +ℤ u)) (same k y iny) ∙ to_z-of_z w128 (x +ℤ y) (wide_fits (x +ℤ y) (omega (arith, ints)) (omega (arith, ints)))

difference_same : (k : IntKind) (x y : ℤ) → fits k x ≡ true → fits k y ≡ true → again (again x -ℤ again y) ≡ x -ℤ y
difference_same k x y inx iny =
    let ex = kind_bounds k x inx in
    let ey = kind_bounds k y iny in
    let a = ex.0 in
    let b = ex.1 in
    let c = ey.0 in
    let d = ey.1 in
    ap (λ u. again (u -ℤ again y)) (same k x inx) ∙ ap (λ u. again (x -ℤ u)) (same k y iny) ∙ to_z-of_z w128 (x -ℤ y) (wide_fits (x -ℤ y) (omega (arith, ints)) (omega (arith, ints)))

signed_abs : (k : IntKind) (z : ℤ) → is_signed k ≡ true → fits k z ≡ true → unsigned_abs z ≤ 2 ^ 63
signed_abs k z sign within =
    let ends = signed_bounds k z sign within in
    let low = ends.0 in
    let high = ends.1 in
    abs_below z (2 ^ 63) (omega (arith, ints)) (omega (arith, ints))

product_fits : (k : IntKind) (x y : ℤ) → is_signed k ≡ true → fits k x ≡ true → fits k y ≡ true → FitsSigned w128 (x *ℤ y)
product_fits k x y sign inx iny = fits_signed_mul w128 x y (2 ^ 63) (2 ^ 63) (signed_abs k x sign inx) (signed_abs k y sign iny) (omega arith)

-- the product of two numbers of a signed kind fits
pub product_again : (k : IntKind) (x y : ℤ) → is_signed k ≡ true → fits k x ≡ true → fits k y ≡ true → FitsSigned w128 (again x *ℤ again y)
product_again k x y sign inx iny = subst (FitsSigned w128) (sym (ap (λ u. u *ℤ again y) (same k x inx) ∙ ap (λ u. x *ℤ u) (same k y iny))) (product_fits k x y sign inx iny)

product_same : (k : IntKind) (x y : ℤ) → is_signed k ≡ true → fits k x ≡ true → fits k y ≡ true → again (again x *ℤ again y) ≡ x *ℤ y
product_same k x y sign inx iny =
    ap (λ u. again (u *ℤ again y)) (same k x inx) ∙ ap (λ u. again (x *ℤ u)) (same k y iny) ∙ to_z-of_z w128 (x *ℤ y) (product_fits k x y sign inx iny)

-- ---- the values of the operators
pub sum_value : (k : IntKind) (x y r : ℤ) → fits k x ≡ true → fits k y ≡ true → r ≡ wrap k (again (again x +ℤ again y)) → again r ≡ arith_of Add k x y
sum_value k x y r inx iny is = shown k (x +ℤ y) r (is ∙ ap (wrap k) (sum_same k x y inx iny))

pub difference_value : (k : IntKind) (x y r : ℤ) → fits k x ≡ true → fits k y ≡ true → r ≡ wrap k (again (again x -ℤ again y)) → again r ≡ arith_of Sub k x y
difference_value k x y r inx iny is = shown k (x -ℤ y) r (is ∙ ap (wrap k) (difference_same k x y inx iny))

pub product_value : (k : IntKind) (x y r : ℤ) → is_signed k ≡ true → fits k x ≡ true → fits k y ≡ true → r ≡ wrap k (again (again x *ℤ again y)) → again r ≡ arith_of Mul k x y
product_value k x y r sign inx iny is = shown k (x *ℤ y) r (is ∙ ap (wrap k) (product_same k x y sign inx iny))

-- ---- the same of what a test of the range is given
pub sum_tested : (k : IntKind) (x y : ℤ) (r : Bool) → fits k x ≡ true → fits k y ≡ true → r ≡ fits k (again (again x +ℤ again y)) → r ≡ fits k (x +ℤ y)
sum_tested k x y r inx iny is = is ∙ ap (fits k) (sum_same k x y inx iny)

pub difference_tested : (k : IntKind) (x y : ℤ) (r : Bool) → fits k x ≡ true → fits k y ≡ true → r ≡ fits k (again (again x -ℤ again y)) → r ≡ fits k (x -ℤ y)
difference_tested k x y r inx iny is = is ∙ ap (fits k) (difference_same k x y inx iny)

pub product_tested : (k : IntKind) (x y : ℤ) (r : Bool) → is_signed k ≡ true → fits k x ≡ true → fits k y ≡ true → r ≡ fits k (again (again x *ℤ again y)) → r ≡ fits k (x *ℤ y)
product_tested k x y r sign inx iny is = is ∙ ap (fits k) (product_same k x y sign inx iny)
