-- What is asked of the kinds of an operation's operands.
use Rattle.std.specs.Prelude.{◌≡◌}
use Rattle.stk_ctype.specs.declared.kind.IntKind.{IntKind}
use Rattle.stk_numbers.specs.Kinds.{promote}
use Rattle.stk_meaning.specs.Operations.{Operation, in_kind, shift_in, compare_in, move, move_behind, measure}

-- a shift is one in the promoted kind of its left operand; every other operation converts its operands
abbrev pub IsShiftOf : IntKind → Operation → Type 0
IsShiftOf k (in_kind op j) = Unit {0}
IsShiftOf k (shift_in op j) = j ≡ promote k
IsShiftOf k (compare_in op j) = Unit {0}
IsShiftOf k (move minus size) = Unit {0}
IsShiftOf k (move_behind size) = Unit {0}
IsShiftOf k (measure size) = Unit {0}
