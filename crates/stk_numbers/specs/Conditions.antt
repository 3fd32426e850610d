-- Where an operation has undefined behaviour: a table from its operator and the whole numbers of its operands.
use Rattle.std.specs.Prelude.{ℕ, ◌+◌, ◌-◌, Bool, true, false, not, ◌&&◌, ◌||◌, ℤ, pos, negsuc, int_lt, nat_lt}
use Rattle.std.specs.Int.RustNames.{int_le}
use Rattle.std.specs.Ordering.{int_eq}
use Rattle.stk_ctype.specs.declared.kind.IntKind.{IntKind}
use Rattle.stk_ctype.specs.declared.kind.IntKind.TheVariants as kind
use Rattle.stk_numbers.specs.declared.operators.ArithOp.{ArithOp}
use Rattle.stk_numbers.specs.declared.operators.ArithOp.TheVariants.{Add, Sub, Mul, Div, Rem, And, Xor, Or}
use Rattle.stk_numbers.specs.declared.conditions.UbKind.{UbKind}
use Rattle.stk_numbers.specs.declared.conditions.UbKind.TheVariants as ub
use Rattle.stk_numbers.specs.Kinds.{is_signed, least, fits}
use Rattle.stk_numbers.specs.Values.{exact, exact_move}

-- whether a signed result leaves the range (C11 6.5p5): the exact sum, difference or product, or the least number
-- divided by -1
abbrev pub overflows : ArithOp → IntKind → ℤ → ℤ → Bool
overflows Add k x y = not (fits k (exact Add k x y))
overflows Sub k x y = not (fits k (exact Sub k x y))
overflows Mul k x y = not (fits k (exact Mul k x y))
overflows Div k x y = int_eq x (least k) && int_eq y (negsuc 0)
overflows Rem k x y = int_eq x (least k) && int_eq y (negsuc 0)
overflows And k x y = false
overflows Xor k x y = false
overflows Or k x y = false

-- whether an operator divides (C11 6.5.5)
abbrev pub divides : ArithOp → Bool
divides Add = false
divides Sub = false
divides Mul = false
divides Div = true
divides Rem = true
divides And = false
divides Xor = false
divides Or = false

-- whether an operator in a kind violates a condition: overflow of signed kinds, division by 0 (C11 6.5.5p5, p6); an
-- operator has no other
abbrev pub violates : UbKind → ArithOp → IntKind → ℤ → ℤ → Bool
violates ub.Overflow op k x y = is_signed k && overflows op k x y
violates ub.Zero op k x y = divides op && int_eq y (pos 0)
violates ub.Shift op k x y = false
violates ub.Null op k x y = false
violates ub.Pointer op k x y = false
violates ub.Bounds op k x y = false
violates ub.AbsValue op k x y = false
violates ub.Overlap op k x y = false

-- whether a moved pointer leaves the address space (C11 6.5.6p8): the exact sum is below 0 or above 2^64 - 1
abbrev pub leaves_memory : ℕ → ℤ → ℕ → Bool → Bool
leaves_memory base step size minus = not (fits kind.ULong (exact_move base step size minus))

-- whether an index is out of the bounds of an array of so many elements (C11 6.5.2.1, 6.5.6p8)
abbrev pub is_outside : ℤ → ℕ → Bool
is_outside index count = int_lt index (pos 0) || int_le (pos count) index

-- the distance of two addresses
abbrev pub apart : ℕ → ℕ → ℕ
apart a b = (a - b) + (b - a)

-- whether so many bytes at two addresses overlap (C11 7.24.2.1): the addresses are less than the count apart
abbrev pub overlaps : ℕ → ℕ → ℕ → Bool
overlaps to from count = nat_lt (apart to from) count
