-- What the operators of scripts are on numbers: the theory of fixed-size bit vectors and the logic QF_BV in their own
-- words (SMT-LIB 2.6).
use Rattle.std.specs.Prelude.{ℕ, ◌+◌, ◌-◌, ◌*◌, ◌/◌, ◌%◌, ◌^◌, Bool, true, false, ◌&&◌, ◌||◌, not, nat_eq, nat_lt, nat_le, bit_and, bit_or, bit_xor, if◌then◌else◌}
use Rattle.stk_scripts.specs.declared.operators.UnaryOp.{UnaryOp}
use Rattle.stk_scripts.specs.declared.operators.UnaryOp.TheVariants as unary
use Rattle.stk_scripts.specs.declared.operators.BinaryOp.{BinaryOp}
use Rattle.stk_scripts.specs.declared.operators.BinaryOp.TheVariants as binary
use Rattle.stk_scripts.specs.declared.operators.ExtendOp.{ExtendOp}
use Rattle.stk_scripts.specs.declared.operators.ExtendOp.TheVariants as extend
use Rattle.stk_scripts.specs.declared.operators.TestOp.{TestOp}
use Rattle.stk_scripts.specs.declared.operators.TestOp.TheVariants as test

-- the greatest number of a width: all ones
abbrev pub ones : ℕ → ℕ
ones w = 2 ^ w - 1

-- whether the top one of w bits is 1
abbrev pub has_sign : ℕ → ℕ → Bool
has_sign w x = nat_le (2 ^ (w - 1)) x

-- each bit turned
abbrev pub turned : ℕ → ℕ → ℕ
turned w x = ones w - x

abbrev pub unary_number : UnaryOp → ℕ → ℕ → ℕ
unary_number unary.Not w x = turned w x
unary_number unary.Neg w x = (2 ^ w - x) % 2 ^ w

-- division by 0 gives all ones, and its remainder the left number; shifts are by powers of 2, whatever the count
abbrev pub binary_number : BinaryOp → ℕ → ℕ → ℕ → ℕ
binary_number binary.And w x y = bit_and x y
binary_number binary.Or w x y = bit_or x y
binary_number binary.Xor w x y = bit_xor x y
binary_number binary.Add w x y = (x + y) % 2 ^ w
binary_number binary.Sub w x y = (x + (2 ^ w - y)) % 2 ^ w
binary_number binary.Mul w x y = (x * y) % 2 ^ w
binary_number binary.UDiv w x y = if nat_eq y 0 then ones w else x / y
binary_number binary.URem w x y = if nat_eq y 0 then x else x % y
binary_number binary.Shl w x y = (x * 2 ^ y) % 2 ^ w
binary_number binary.LShr w x y = x / 2 ^ y
binary_number binary.AShr w x y = if has_sign w x then turned w (turned w x / 2 ^ y) else x / 2 ^ y

-- k more bits in front: zeros, or copies of the top bit
abbrev pub extended_number : ExtendOp → ℕ → ℕ → ℕ → ℕ
extended_number extend.Zero w k x = x
extended_number extend.Sign w k x = if has_sign w x then ones k * 2 ^ w + x else x

-- the bits from the high one down to the low one
abbrev pub cut_number : ℕ → ℕ → ℕ → ℕ
cut_number high low x = x / 2 ^ low % 2 ^ (high + 1 - low)

-- the first bits in front of the others, which are w
abbrev pub joined_number : ℕ → ℕ → ℕ → ℕ
joined_number w x y = x * 2 ^ w + y

-- `bvslt`: the signs differ and the first is negative, or they are alike and the first is below
abbrev pub signed_below : Bool → Bool → ℕ → ℕ → Bool
signed_below true true x y = nat_lt x y
signed_below true false x y = true
signed_below false true x y = false
signed_below false false x y = nat_lt x y

abbrev pub test_truth : TestOp → ℕ → ℕ → ℕ → Bool
test_truth test.Equal w x y = nat_eq x y
test_truth test.Below w x y = nat_lt x y
test_truth test.SignedBelow w x y = signed_below (has_sign w x) (has_sign w y) x y
