-- The value of each operation of C on whole numbers, also where its behaviour is undefined: the run goes on with the
-- wrapped number.
use Rattle.std.specs.Prelude.{ℕ, ◌^◌, Bool, true, false, not, ℤ, pos, negsuc, ◌+ℤ◌, ◌-ℤ◌, ◌*ℤ◌, int_lt, if◌then◌else◌, ◌||◌, bit_and, bit_or, bit_xor}
use Rattle.std.specs.Int.{int_div_euclid}
use Rattle.std.specs.Int.RustNames.{int_le, int_div, int_rem, unsigned_abs}
use Rattle.std.specs.Ordering.{int_eq}
use Rattle.stk_ctype.specs.declared.kind.IntKind.{IntKind}
use Rattle.stk_ctype.specs.declared.kind.IntKind.TheVariants as kind
use Rattle.stk_numbers.specs.declared.operators.ArithOp.{ArithOp}
use Rattle.stk_numbers.specs.declared.operators.ArithOp.TheVariants.{Add, Sub, Mul, Div, Rem, And, Xor, Or}
use Rattle.stk_numbers.specs.declared.operators.ShiftOp.{ShiftOp}
use Rattle.stk_numbers.specs.declared.operators.ShiftOp.TheVariants.{Left, Right}
use Rattle.stk_numbers.specs.declared.operators.CompareOp.{CompareOp}
use Rattle.stk_numbers.specs.declared.operators.CompareOp.TheVariants.{Lt, Gt, Le, Ge, Eq, Ne}
use Rattle.stk_numbers.specs.Kinds.{width_of, residue, wrap}

-- the bits of a number of a kind
abbrev pub bits_of : IntKind → ℤ → ℕ
bits_of k z = residue (width_of k) z

-- the exact result of an operator (C11 6.5.5, 6.5.6, 6.5.10 to 6.5.12): a quotient is truncated towards zero, and a
-- remainder fits it; `x / 0` is 0 and `x % 0` is x
abbrev pub exact : ArithOp → IntKind → ℤ → ℤ → ℤ
exact Add k x y = x +ℤ y
exact Sub k x y = x -ℤ y
exact Mul k x y = x *ℤ y
exact Div k x y = if int_eq y (pos 0) then pos 0 else int_div x y
exact Rem k x y = if int_eq y (pos 0) then x else int_rem x y
exact And k x y = pos (bit_and (bits_of k x) (bits_of k y))
exact Xor k x y = pos (bit_xor (bits_of k x) (bits_of k y))
exact Or k x y = pos (bit_or (bits_of k x) (bits_of k y))

-- the value of an operator in a kind
abbrev pub arith : ArithOp → IntKind → ℤ → ℤ → ℤ
arith op k x y = wrap k (exact op k x y)

-- whether a count is below 0 or at least the width (C11 6.5.7p3)
abbrev pub is_oversized : IntKind → ℤ → Bool
is_oversized k count = int_lt count (pos 0) || int_le (pos (width_of k)) count

-- the value of a shift by a count that isn't oversized: times 2 to the count, or divided by it and rounded down (C11
-- 6.5.7)
abbrev pub shifted_by : ShiftOp → IntKind → ℤ → ℕ → ℤ
shifted_by Left k x n = wrap k (x *ℤ pos (2 ^ n))
shifted_by Right k x n = int_div_euclid x (pos (2 ^ n))

-- the value of a shift by an oversized count: no bit is left
abbrev pub shifted_out : ShiftOp → ℤ → ℤ
shifted_out Left x = pos 0
shifted_out Right x = if int_lt x (pos 0) then negsuc 0 else pos 0

-- the value of a shift
abbrev pub shifted : ShiftOp → IntKind → ℤ → ℤ → ℤ
shifted op k x count = if is_oversized k count then shifted_out op x else shifted_by op k x (unsigned_abs count)

-- whether a comparison holds (C11 6.5.8, 6.5.9)
abbrev pub compared : CompareOp → ℤ → ℤ → Bool
compared Lt x y = int_lt x y
compared Gt x y = int_lt y x
compared Le x y = int_le x y
compared Ge x y = int_le y x
compared Eq x y = int_eq x y
compared Ne x y = not (int_eq x y)

-- the absolute value in a kind (C11 7.22.6.1)
abbrev pub absolute : IntKind → ℤ → ℤ
absolute k x = if int_lt x (pos 0) then wrap k (pos 0 -ℤ x) else x

-- the exact address so many elements of a size before or behind a base (C11 6.5.6p8)
abbrev pub exact_move : ℕ → ℤ → ℕ → Bool → ℤ
exact_move base step size true = pos base -ℤ step *ℤ pos size
exact_move base step size false = pos base +ℤ step *ℤ pos size

-- the address, modulo 2^64
abbrev pub moved : ℕ → ℤ → ℕ → Bool → ℕ
moved base step size minus = residue 64 (exact_move base step size minus)

-- how many elements of a size one address is behind another, as a `long` (C11 6.5.6p9)
abbrev pub distance : ℕ → ℕ → ℕ → ℤ
distance left right size = int_div (wrap kind.Long (pos left -ℤ pos right)) (pos size)
