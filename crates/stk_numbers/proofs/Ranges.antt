-- The values of remainders, right shifts and absolute values are in the range of their kind; a quotient that overflows
-- is not.
use Rattle.std.proofs.Common.{◌≡◌, ℕ, zero, suc, ◌/◌, ◌%◌, ◌^◌, ◌≤◌, Bool, true, false, ◌&&◌, ℤ, pos, negsuc, ◌-ℤ◌, ◌*ℤ◌, ◌+ℤ◌, neg_ℤ, ◌≤ℤ◌, refl, ap, ◌∙◌, arith, if◌then◌else◌}
use Rattle.std.specs.Prelude.{int_lt, int_div, int_rem, unsigned_abs}
use Rattle.std.specs.Int.{int_div_euclid}
use Rattle.std.specs.Ordering.{int_eq}
use Rattle.std.proofs.lemmas.Int.{ints}
use Rattle.std.proofs.Math.Nat.{div-le_self, mod-le}
use Rattle.stk_ctype.specs.declared.kind.IntKind.{IntKind}
use Rattle.stk_ctype.specs.declared.kind.IntKind.TheVariants as kind
use Rattle.stk_numbers.specs.declared.operators.ArithOp.TheVariants.{Div, Rem}
use Rattle.stk_numbers.specs.declared.operators.ShiftOp.{ShiftOp}
use Rattle.stk_numbers.specs.declared.operators.ShiftOp.TheVariants.{Left, Right}
use Rattle.stk_numbers.specs.declared.conditions.UbKind.TheVariants as ub
use Rattle.stk_numbers.specs.Kinds.{is_signed, least, greatest, fits, wrap}
use Rattle.stk_numbers.specs.Values.{arith as arith_of, shifted, shifted_by, shifted_out, is_oversized, absolute}
use Rattle.stk_numbers.specs.Conditions.{violates}
use Rattle.stk_numbers.proofs.Bounds.{both_true, both_ends, within_ends}
use Rattle.stk_numbers.proofs.Dividing.{apart_eq}
use Rattle.stk_numbers.proofs.Wrapping.{wrap_in_range, wrap_stays}
use Rattle.stk_numbers.proofs.Division.{neg_below, quotient_exact, quotient_remainder}

least_low : (k : IntKind) → least k ≤ℤ pos 0
least_low kind.Bool = omega (arith, ints)
least_low kind.Char = omega (arith, ints)
least_low kind.SChar = omega (arith, ints)
least_low kind.UChar = omega (arith, ints)
least_low kind.Short = omega (arith, ints)
least_low kind.UShort = omega (arith, ints)
least_low kind.Int = omega (arith, ints)
least_low kind.UInt = omega (arith, ints)
least_low kind.Long = omega (arith, ints)
least_low kind.ULong = omega (arith, ints)
least_low kind.LLong = omega (arith, ints)
least_low kind.ULLong = omega (arith, ints)

greatest_high : (k : IntKind) → pos 0 ≤ℤ greatest k
greatest_high kind.Bool = omega (arith, ints)
greatest_high kind.Char = omega (arith, ints)
greatest_high kind.SChar = omega (arith, ints)
greatest_high kind.UChar = omega (arith, ints)
greatest_high kind.Short = omega (arith, ints)
greatest_high kind.UShort = omega (arith, ints)
greatest_high kind.Int = omega (arith, ints)
greatest_high kind.UInt = omega (arith, ints)
greatest_high kind.Long = omega (arith, ints)
greatest_high kind.ULong = omega (arith, ints)
greatest_high kind.LLong = omega (arith, ints)
greatest_high kind.ULLong = omega (arith, ints)

-- a number between 0 and one of the range is in the range
plus_between : (k : IntKind) (x z : ℤ) → fits k x ≡ true → pos 0 ≤ℤ z → z ≤ℤ x → fits k z ≡ true
plus_between k x z inx low high =
    let above = (both_ends (least k) (greatest k) x inx).1 in
    let first = least_low k in
    within_ends (least k) (greatest k) z (omega (arith, ints)) (omega (arith, ints))

minus_between : (k : IntKind) (x z : ℤ) → fits k x ≡ true → x ≤ℤ z → z ≤ℤ pos 0 → fits k z ≡ true
minus_between k x z inx low high =
    let below = (both_ends (least k) (greatest k) x inx).0 in
    let last = greatest_high k in
    within_ends (least k) (greatest k) z (omega (arith, ints)) (omega (arith, ints))

neg_above : (n a : ℕ) → n ≤ suc a → negsuc a ≤ℤ neg_ℤ (pos n)
neg_above zero a most = omega (arith, ints)
neg_above (suc n) a most = omega (arith, ints)

-- a remainder is in the range of its number
pub remainder_in_range : (k : IntKind) (x y : ℤ) → fits k x ≡ true → fits k (int_rem x y) ≡ true
remainder_in_range k (pos a) y inx =
    let most : a % unsigned_abs y ≤ a = mod-le a (unsigned_abs y) in
    plus_between k (pos a) (pos (a % unsigned_abs y)) inx (omega (arith, ints)) (omega (arith, ints))
remainder_in_range k (negsuc a) y inx =
    let most : suc a % unsigned_abs y ≤ suc a = mod-le (suc a) (unsigned_abs y) in
    minus_between k (negsuc a) (neg_ℤ (pos (suc a % unsigned_abs y))) inx (neg_above (suc a % unsigned_abs y) a most) (neg_below (suc a % unsigned_abs y))

-- the value of a remainder is the remainder, where the divisor isn't 0
pub remainder_exact : (k : IntKind) (x y : ℤ) → fits k x ≡ true → (y ≡ pos 0 → ⊥) → arith_of Rem k x y ≡ int_rem x y
remainder_exact k x y inx other = ap (λ b. wrap k (if b then x else int_rem x y)) (apart_eq y (pos 0) other) ∙ wrap_stays k (int_rem x y) (remainder_in_range k x y inx)

-- where no condition is violated, the values of a quotient and its remainder give the number back
pub values_give_back : (k : IntKind) (x y : ℤ) → fits k x ≡ true → fits k y ≡ true → (y ≡ pos 0 → ⊥) → violates ub.Overflow Div k x y ≡ false → arith_of Div k x y *ℤ y +ℤ arith_of Rem k x y ≡ x
values_give_back k x y inx iny other none =
    ap (λ q. q *ℤ y +ℤ arith_of Rem k x y) (quotient_exact k x y inx iny other none)
    ∙ ap (λ r. int_div x y *ℤ y +ℤ r) (remainder_exact k x y inx other)
    ∙ quotient_remainder x y

least_by_minus_one : (k : IntKind) → is_signed k ≡ true → fits k (int_div (least k) (negsuc 0)) ≡ false
least_by_minus_one kind.Bool signed = cc
least_by_minus_one kind.Char signed = refl
least_by_minus_one kind.SChar signed = refl
least_by_minus_one kind.UChar signed = cc
least_by_minus_one kind.Short signed = refl
least_by_minus_one kind.UShort signed = cc
least_by_minus_one kind.Int signed = refl
least_by_minus_one kind.UInt signed = cc
least_by_minus_one kind.Long signed = refl
least_by_minus_one kind.ULong signed = cc
least_by_minus_one kind.LLong signed = refl
least_by_minus_one kind.ULLong signed = cc

alike : (x y : ℤ) → int_eq x y ≡ true → x ≡ y
alike x y same = grind (arith, ints)

-- a quotient that overflows is outside of the range of its kind
pub overflow_leaves : (k : IntKind) (x y : ℤ) → violates ub.Overflow Div k x y ≡ true → fits k (int_div x y) ≡ false
overflow_leaves k x y broken =
    let parts = both_true (is_signed k) (int_eq x (least k) && int_eq y (negsuc 0)) broken in
    let ends = both_true (int_eq x (least k)) (int_eq y (negsuc 0)) parts.1 in
    ap (λ u. fits k (int_div u y)) (alike x (least k) ends.0)
    ∙ ap (λ u. fits k (int_div (least k) u)) (alike y (negsuc 0) ends.1)
    ∙ least_by_minus_one k parts.0

halved_in_range : (k : IntKind) (x : ℤ) (d : ℕ) → fits k x ≡ true → fits k (int_div_euclid x (pos d)) ≡ true
halved_in_range k (pos a) d inx =
    let most : a / d ≤ a = div-le_self a d in
    plus_between k (pos a) (pos (a / d)) inx (omega (arith, ints)) (omega (arith, ints))
halved_in_range k (negsuc a) d inx =
    let most : a / d ≤ a = div-le_self a d in
    minus_between k (negsuc a) (negsuc (a / d)) inx (omega (arith, ints)) (omega (arith, ints))

zero_in_range : (k : IntKind) → fits k (pos 0) ≡ true
zero_in_range k = let first = least_low k in let last = greatest_high k in within_ends (least k) (greatest k) (pos 0) first last

below_zero : (x : ℤ) → int_lt x (pos 0) ≡ true → x ≤ℤ negsuc 0
below_zero x low = grind (arith, ints)

out_in_range : (k : IntKind) (x : ℤ) → fits k x ≡ true → (b : Bool) → int_lt x (pos 0) ≡ b → fits k (if b then negsuc 0 else pos 0) ≡ true
out_in_range k x inx true low = minus_between k x (negsuc 0) inx (below_zero x low) (omega (arith, ints))
out_in_range k x inx false low = zero_in_range k

in_range_of : (op : ShiftOp) (k : IntKind) (x count : ℤ) → fits k x ≡ true → (b : Bool) → fits k (if b then shifted_out op x else shifted_by op k x (unsigned_abs count)) ≡ true
in_range_of Left k x count inx true = zero_in_range k
in_range_of Right k x count inx true = out_in_range k x inx (int_lt x (pos 0)) refl
in_range_of Left k x count inx false = wrap_in_range k (x *ℤ pos (2 ^ unsigned_abs count))
in_range_of Right k x count inx false = halved_in_range k x (2 ^ unsigned_abs count) inx

-- the value of a shift is in the range of its kind
pub shift_in_range : (op : ShiftOp) (k : IntKind) (x count : ℤ) → fits k x ≡ true → fits k (shifted op k x count) ≡ true
shift_in_range op k x count inx = in_range_of op k x count inx (is_oversized k count)

absolute_of : (k : IntKind) (x : ℤ) → fits k x ≡ true → (b : Bool) → fits k (if b then wrap k (pos 0 -ℤ x) else x) ≡ true
absolute_of k x inx true = wrap_in_range k (pos 0 -ℤ x)
absolute_of k x inx false = inx

-- an absolute value is in the range of its kind
pub absolute_in_range : (k : IntKind) (x : ℤ) → fits k x ≡ true → fits k (absolute k x) ≡ true
absolute_in_range k x inx = absolute_of k x inx (int_lt x (pos 0))
