-- What a call of a store may cost at most, by the widths of its kinds; addresses have 64 bits.
use Rattle.std.specs.Prelude.{ℕ, ◌+◌, ◌*◌, nat_lt, nat_eq, if◌then◌else◌}
use Rattle.std.specs.Int.Count.{ones}
use Rattle.stk_ctype.specs.declared.kind.IntKind.{IntKind}
use Rattle.stk_numbers.specs.declared.operators.ArithOp.{ArithOp}
use Rattle.stk_numbers.specs.declared.operators.ArithOp.TheVariants.{Add, Sub, Mul, Div, Rem, And, Xor, Or}
use Rattle.stk_numbers.specs.Kinds.{width_of, is_bool}

-- the greater width of two kinds
abbrev pub wider : IntKind → IntKind → ℕ
wider a b = if nat_lt (width_of a) (width_of b) then width_of b else width_of a

-- a conversion: only that to `_Bool` tests a number
abbrev pub convert_charge : IntKind → IntKind → ℕ
convert_charge from to = if is_bool to then 4 * wider from to else 0

-- an operator at a width
abbrev pub arith_charge : ArithOp → ℕ → ℕ
arith_charge Add w = 10 * w
arith_charge Sub w = 10 * w
arith_charge Mul w = 6 * w * w + 6 * w
arith_charge Div w = 14 * w * w + 60 * w
arith_charge Rem w = 14 * w * w + 60 * w
arith_charge And w = 10 * w
arith_charge Xor w = 10 * w
arith_charge Or w = 10 * w

-- a condition of an operator at a width
abbrev pub breaks_charge : ArithOp → ℕ → ℕ
breaks_charge Add w = 10 * w + 16
breaks_charge Sub w = 10 * w + 16
breaks_charge Mul w = 24 * w * w + 20 * w
breaks_charge Div w = 10 * w + 16
breaks_charge Rem w = 10 * w + 16
breaks_charge And w = 10 * w + 16
breaks_charge Xor w = 10 * w + 16
breaks_charge Or w = 10 * w + 16

-- a move by elements of a size: an address for each bit of the size that is 1
abbrev pub move_charge : ℕ → ℕ
move_charge size = 1024 * ones size

-- a distance in elements of a size
abbrev pub distance_charge : ℕ → ℕ
distance_charge size = if nat_eq size 1 then 704 else 64000
