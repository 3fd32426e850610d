-- Laws of quotients and remainders: a quotient is truncated towards zero, a remainder fits it, and both are exact where
-- no condition is violated.
use Rattle.std.proofs.Common.{◌≡◌, ℕ, zero, suc, ◌/◌, ◌%◌, ◌<◌, ◌≤◌, true, false, ◌&&◌, ℤ, pos, negsuc, ◌+ℤ◌, ◌-ℤ◌, ◌*ℤ◌, neg_ℤ, ◌≤ℤ◌, refl, sym, ap, ◌∙◌, arith, if◌then◌else◌}
use Rattle.std.specs.Prelude.{int_le, int_div, int_rem, unsigned_abs}
use Rattle.std.specs.Ordering.{int_eq}
use Rattle.std.proofs.lemmas.Int.{ints, quot-rem, rem_below}
use Rattle.std.proofs.Math.Nat.{div-le_self, div-lt_self}
use Rattle.stk_ctype.specs.declared.kind.IntKind.{IntKind}
use Rattle.stk_ctype.specs.declared.kind.IntKind.TheVariants as kind
use Rattle.stk_numbers.specs.declared.operators.ArithOp.TheVariants.{Div}
use Rattle.stk_numbers.specs.declared.conditions.UbKind.TheVariants as ub
use Rattle.stk_numbers.specs.Kinds.{fits, wrap}
use Rattle.stk_numbers.specs.Values.{arith as arith_of}
use Rattle.stk_numbers.specs.Conditions.{violates}
use Rattle.stk_numbers.proofs.Bounds.{both_ends, within_ends}
use Rattle.stk_numbers.proofs.Dividing.{apart_eq, alike_eq, abs_neg}
use Rattle.stk_numbers.proofs.Wrapping.{wrap_stays}

-- a quotient and its remainder give the number back
pub quotient_remainder : (x y : ℤ) → int_div x y *ℤ y +ℤ int_rem x y ≡ x
quotient_remainder x y = quot-rem x y

-- a quotient is truncated towards zero: its size is the quotient of the sizes, rounded down
pub quotient_truncates : (x y : ℤ) → unsigned_abs (int_div x y) ≡ unsigned_abs x / unsigned_abs y
quotient_truncates (pos a) (pos b) = refl
quotient_truncates (pos a) (negsuc b) = abs_neg (a / suc b)
quotient_truncates (negsuc a) (pos b) = abs_neg (suc a / b)
quotient_truncates (negsuc a) (negsuc b) = refl

-- a remainder is smaller than the divisor
pub remainder_smaller : (x y : ℤ) → 0 < unsigned_abs y → unsigned_abs (int_rem x y) < unsigned_abs y
remainder_smaller x y some = rem_below x y some

pub neg_below : (n : ℕ) → neg_ℤ (pos n) ≤ℤ pos 0
neg_below zero = omega (arith, ints)
neg_below (suc n) = omega (arith, ints)

-- a remainder has the sign of the number, or is 0
pub remainder_sign : (x y : ℤ) → (pos 0 ≤ℤ x → pos 0 ≤ℤ int_rem x y) × (x ≤ℤ pos 0 → int_rem x y ≤ℤ pos 0)
remainder_sign (pos zero) y = (λ _. omega (arith, ints), λ _. omega (arith, ints))
remainder_sign (pos (suc a)) y = (λ _. omega (arith, ints), λ above. absurd (omega (arith, ints)))
remainder_sign (negsuc a) y = (λ above. absurd (omega (arith, ints)), λ _. neg_below (suc a % unsigned_abs y))

neg_within : (H n : ℕ) → 1 ≤ H → n ≤ H → (int_le (pos 0 -ℤ pos H) (neg_ℤ (pos n)) && int_le (neg_ℤ (pos n)) (pos H -ℤ pos 1)) ≡ true
neg_within H zero some most = within_ends (pos 0 -ℤ pos H) (pos H -ℤ pos 1) (pos 0) (omega (arith, ints)) (omega (arith, ints))
neg_within H (suc n) some most = within_ends (pos 0 -ℤ pos H) (pos H -ℤ pos 1) (negsuc n) (omega (arith, ints)) (omega (arith, ints))

pos_within : (H n : ℕ) → n < H → (int_le (pos 0 -ℤ pos H) (pos n) && int_le (pos n) (pos H -ℤ pos 1)) ≡ true
pos_within H n most = within_ends (pos 0 -ℤ pos H) (pos H -ℤ pos 1) (pos n) (omega (arith, ints)) (omega (arith, ints))

halved : (a b H : ℕ) → suc a ≤ H → suc a / suc (suc b) < H
halved a b H most = let less : suc a / suc (suc b) < suc a = div-lt_self (omega arith) (omega arith) in omega arith

not_least : (a H : ℕ) → suc a ≤ H → (int_eq (negsuc a) (pos 0 -ℤ pos H) && int_eq (negsuc 0) (negsuc 0)) ≡ false → (suc a ≡ H → ⊥)
not_least a H most other is = cc (sym other ∙ ap (λ b. b && true) (alike_eq (negsuc a) (pos 0 -ℤ pos H) (omega (arith, ints))))

-- the quotient of two numbers from -H to H - 1, but for -H by -1
signed_quotient : (H : ℕ) (x y : ℤ) → (int_le (pos 0 -ℤ pos H) x && int_le x (pos H -ℤ pos 1)) ≡ true → (int_eq x (pos 0 -ℤ pos H) && int_eq y (negsuc 0)) ≡ false → 1 ≤ H → (int_le (pos 0 -ℤ pos H) (int_div x y) && int_le (int_div x y) (pos H -ℤ pos 1)) ≡ true
signed_quotient H (pos a) (pos b) within other some =
    let high = (both_ends (pos 0 -ℤ pos H) (pos H -ℤ pos 1) (pos a) within).1 in
    let below : a < H = omega (arith, ints) in
    pos_within H (a / b) (omega (arith, below, div-le_self a b))
signed_quotient H (pos a) (negsuc b) within other some =
    let high = (both_ends (pos 0 -ℤ pos H) (pos H -ℤ pos 1) (pos a) within).1 in
    let below : a < H = omega (arith, ints) in
    neg_within H (a / suc b) some (omega (arith, below, div-le_self a (suc b)))
signed_quotient H (negsuc a) (pos b) within other some =
    let low = (both_ends (pos 0 -ℤ pos H) (pos H -ℤ pos 1) (negsuc a) within).0 in
    let below : suc a ≤ H = omega (arith, ints) in
    neg_within H (suc a / b) some (omega (arith, below, div-le_self (suc a) b))
signed_quotient H (negsuc a) (negsuc zero) within other some =
    let low = (both_ends (pos 0 -ℤ pos H) (pos H -ℤ pos 1) (negsuc a) within).0 in
    let below : suc a ≤ H = omega (arith, ints) in
    let apart : (suc a ≡ H → ⊥) = not_least a H below other in
    pos_within H (suc a / suc zero) (omega (arith, below, apart, div-le_self (suc a) (suc zero)))
signed_quotient H (negsuc a) (negsuc (suc b)) within other some =
    let low = (both_ends (pos 0 -ℤ pos H) (pos H -ℤ pos 1) (negsuc a) within).0 in
    let below : suc a ≤ H = omega (arith, ints) in
    pos_within H (suc a / suc (suc b)) (halved a b H below)

-- the quotient of two numbers from 0 to M - 1
plain_quotient : (M : ℕ) (x y : ℤ) → (int_le (pos 0) x && int_le x (pos M -ℤ pos 1)) ≡ true → (int_le (pos 0) y && int_le y (pos M -ℤ pos 1)) ≡ true → (int_le (pos 0) (int_div x y) && int_le (int_div x y) (pos M -ℤ pos 1)) ≡ true
plain_quotient M (pos a) (pos b) inx iny =
    let high = (both_ends (pos 0) (pos M -ℤ pos 1) (pos a) inx).1 in
    let below : a < M = omega (arith, ints) in
    let less : a / b < M = omega (arith, below, div-le_self a b) in
    within_ends (pos 0) (pos M -ℤ pos 1) (pos (a / b)) (omega (arith, ints)) (omega (arith, ints))
plain_quotient M (negsuc a) y inx iny = cc
plain_quotient M (pos a) (negsuc b) inx iny = cc

-- a quotient is in the range of its kind, unless it overflows
pub quotient_in_range : (k : IntKind) (x y : ℤ) → fits k x ≡ true → fits k y ≡ true → violates ub.Overflow Div k x y ≡ false → fits k (int_div x y) ≡ true
quotient_in_range kind.Bool x y inx iny none = plain_quotient 2 x y inx iny
quotient_in_range kind.Char x y inx iny none = signed_quotient 128 x y inx none (omega arith)
quotient_in_range kind.SChar x y inx iny none = signed_quotient 128 x y inx none (omega arith)
quotient_in_range kind.UChar x y inx iny none = plain_quotient 256 x y inx iny
quotient_in_range kind.Short x y inx iny none = signed_quotient 32768 x y inx none (omega arith)
quotient_in_range kind.UShort x y inx iny none = plain_quotient 65536 x y inx iny
quotient_in_range kind.Int x y inx iny none = signed_quotient 2147483648 x y inx none (omega arith)
quotient_in_range kind.UInt x y inx iny none = plain_quotient 4294967296 x y inx iny
quotient_in_range kind.Long x y inx iny none = signed_quotient 9223372036854775808 x y inx none (omega arith)
quotient_in_range kind.ULong x y inx iny none = plain_quotient 18446744073709551616 x y inx iny
quotient_in_range kind.LLong x y inx iny none = signed_quotient 9223372036854775808 x y inx none (omega arith)
quotient_in_range kind.ULLong x y inx iny none = plain_quotient 18446744073709551616 x y inx iny

-- where no condition is violated, the value of a quotient is the quotient
pub quotient_exact : (k : IntKind) (x y : ℤ) → fits k x ≡ true → fits k y ≡ true → (y ≡ pos 0 → ⊥) → violates ub.Overflow Div k x y ≡ false → arith_of Div k x y ≡ int_div x y
quotient_exact k x y inx iny other none = ap (λ b. wrap k (if b then pos 0 else int_div x y)) (apart_eq y (pos 0) other) ∙ wrap_stays k (int_div x y) (quotient_in_range k x y inx iny none)
