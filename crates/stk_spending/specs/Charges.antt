-- What the steps of a walk over all branches may cost at most: sums of the charges of a store's calls, by the kinds of
-- the operands.
use Rattle.std.specs.Prelude.{ℕ, ◌+◌, ◌*◌, Option, Some, None, if◌then◌else◌}
use Rattle.stk_ctype.specs.declared.kind.IntKind.{IntKind}
use Rattle.stk_numbers.specs.declared.operators.ArithOp.{ArithOp}
use Rattle.stk_numbers.specs.declared.operators.ArithOp.TheVariants as arith_op
use Rattle.stk_numbers.specs.Kinds.{width_of, is_bool}
use Rattle.stk_meaning.specs.Operations.{Operation, in_kind, shift_in, compare_in, move, move_behind, measure}
use Rattle.stk_meaning.specs.Libraries.{Library, absolute_in, copy_bytes}
use Rattle.stk_meaning.specs.Places.{Target, in_register, in_kept, in_object, unnamed}
use Rattle.stk_values.specs.Charges.{wider, convert_charge, arith_charge, breaks_charge, move_charge, distance_charge}

-- the value of an operation on operands of two kinds
abbrev pub operated_charge : Operation → IntKind → IntKind → ℕ
operated_charge (in_kind op k) a b = convert_charge a k + convert_charge b k + arith_charge op (width_of k)
operated_charge (shift_in op k) a b = convert_charge a k + 26 * wider k b
operated_charge (compare_in op k) a b = convert_charge a k + convert_charge b k + 10 * width_of k
operated_charge (move minus size) a b = move_charge size
operated_charge (move_behind size) a b = move_charge size
operated_charge (measure size) a b = distance_charge size

-- how many conditions an operator may have in a kind at most
abbrev pub most_tests : ArithOp → ℕ
most_tests arith_op.Add = 1
most_tests arith_op.Sub = 1
most_tests arith_op.Mul = 1
most_tests arith_op.Div = 2
most_tests arith_op.Rem = 2
most_tests arith_op.And = 0
most_tests arith_op.Xor = 0
most_tests arith_op.Or = 0

-- the step of a condition of an operator in a kind; each step has a guard beside its test, which is 3
abbrev pub arithmetic_test_charge : ArithOp → IntKind → IntKind → IntKind → ℕ
arithmetic_test_charge op k a b = convert_charge a k + convert_charge b k + breaks_charge op (width_of k) + 3

-- the steps of the conditions of an operation
abbrev pub tests_charge : Operation → IntKind → IntKind → ℕ
tests_charge (in_kind op k) a b = most_tests op * arithmetic_test_charge op k a b
tests_charge (shift_in op k) a b = 10 * wider k b + 3
tests_charge (compare_in op k) a b = 0
tests_charge (move minus size) a b = move_charge size + 515
tests_charge (move_behind size) a b = move_charge size + 515
tests_charge (measure size) a b = 0

-- the step that an address is null
abbrev pub null_charge : IntKind → ℕ
null_charge k = 10 * width_of k + 3

-- the steps of the conditions of `e[e]`: null and a move, or the bounds
abbrev pub index_charge : IntKind → ℕ → ℕ
index_charge k size = null_charge k + (move_charge size + 515) + 707

-- whether a number of a kind is true, and the two steps of what is seen of that
abbrev pub tested_charge : IntKind → ℕ
tested_charge k = 10 * width_of k + 6

-- what is seen of a comparison: two steps, and a third one where the comparison has a replacement, whose truth is found
-- in at most 64 bits
abbrev pub seen_charge : {A : Type 0} → Option A → ℕ
seen_charge None = 6
seen_charge (Some other) = 18

abbrev pub replaced_charge : {A : Type 0} → Option A → ℕ
replaced_charge None = 0
replaced_charge (Some found) = 640

-- a read of a place by name, in a kind
abbrev pub read_charge : Target → IntKind → ℕ
read_charge (in_register i) k = 0
read_charge (in_kept q) k = 3 * width_of k + 3
read_charge (in_object o) k = 0
read_charge unnamed k = 0

-- a store to a place by name, in a kind, beside so many kept objects: one that isn't by name forgets them
abbrev pub store_charge : ℕ → Target → IntKind → ℕ
store_charge kept (in_register i) k = 3 * width_of k
store_charge kept (in_kept q) k = 3 * width_of k + 3
store_charge kept (in_object o) k = 0
store_charge kept unnamed k = 3 * kept

-- an argument of a call, which is converted where the library has a parameter for it
abbrev pub argument_charge : Option Library → ℕ
argument_charge None = 0
argument_charge (Some (absolute_in k)) = if is_bool k then 256 else 0
argument_charge (Some copy_bytes) = 0

-- a call behind its arguments, beside so many kept objects: a test and a choice of an absolute value, that bytes don't
-- overlap; another call, and a copy, forget what is kept
abbrev pub call_charge : ℕ → Option Library → ℕ
call_charge kept None = 3 * kept
call_charge kept (Some (absolute_in k)) = 33 * width_of k + 3
call_charge kept (Some copy_bytes) = 2755 + 3 * kept
