-- What an operator does to two numbers in the types of its operands: its value, also where a condition is violated, and
-- the conditions that it may violate (C11 6.5.5 to 6.5.12).
use Rattle.std.specs.Prelude.{ℕ, Bool, true, false, ◌&&◌, not, if◌then◌else◌, List, [], ◌∷◌, ◌++◌, Option, Some, None, ℤ, pos}
use Rattle.std.specs.Ordering.{int_eq}
use Rattle.stk_ctype.specs.declared.kind.IntKind.{IntKind}
use Rattle.stk_ctype.specs.declared.kind.IntKind.TheVariants as kind
use Rattle.stk_ctype.specs.Types.{TypeTree, integer_type}
use Rattle.stk_tree.specs.declared.expression.BinaryOp.{BinaryOp}
use Rattle.stk_tree.specs.declared.expression.BinaryOp.TheVariants as binary
use Rattle.stk_tree.specs.declared.expression.AssignOp.{AssignOp}
use Rattle.stk_tree.specs.declared.expression.AssignOp.TheVariants as assign
use Rattle.stk_tree.specs.declared.expression.StepOp.{StepOp}
use Rattle.stk_tree.specs.declared.expression.StepOp.TheVariants as step
use Rattle.stk_numbers.specs.declared.operators.ArithOp.{ArithOp}
use Rattle.stk_numbers.specs.declared.operators.ArithOp.TheVariants as arith_op
use Rattle.stk_numbers.specs.declared.operators.ShiftOp.{ShiftOp}
use Rattle.stk_numbers.specs.declared.operators.ShiftOp.TheVariants as shift_op
use Rattle.stk_numbers.specs.declared.operators.CompareOp.{CompareOp}
use Rattle.stk_numbers.specs.declared.operators.CompareOp.TheVariants as compare_op
use Rattle.stk_numbers.specs.declared.conditions.UbKind.{UbKind}
use Rattle.stk_numbers.specs.declared.conditions.UbKind.TheVariants as ub
use Rattle.stk_numbers.specs.Kinds.{wrap, residue, promote, common, is_signed}
use Rattle.stk_numbers.specs.Values.{arith, shifted, is_oversized, compared, moved, distance}
use Rattle.stk_numbers.specs.Conditions.{violates, divides, leaves_memory}
use Rattle.stk_type_rules.specs.Types.{kind_of}
use Rattle.stk_meaning.specs.Typings.{Typing, stride_in, number_kind}

-- the operators that have two numbers as operands
pub data Operator : Type 0 where
  arithmetic : ArithOp → Operator
  shifting : ShiftOp → Operator
  comparing : CompareOp → Operator

-- what an operator does to operands of some types: integers in a kind; a shift in the promoted kind of the left
-- operand; a comparison in a kind; a pointer moved, backwards or not, by a number of elements of a size; an integer and
-- a pointer behind it; the distance of two pointers in elements of a size
pub data Operation : Type 0 where
  in_kind : ArithOp → IntKind → Operation
  shift_in : ShiftOp → IntKind → Operation
  compare_in : CompareOp → IntKind → Operation
  move : Bool → ℕ → Operation
  move_behind : ℕ → Operation
  measure : ℕ → Operation

-- what a binary operator is: one on two numbers, or `,`, `||` or `&&`
pub data BinarySort : Type 0 where
  operates : Operator → BinarySort
  joins : BinarySort
  or_else : BinarySort
  and_also : BinarySort

abbrev pub sort_of : BinaryOp → BinarySort
sort_of binary.Comma = joins
sort_of binary.OrElse = or_else
sort_of binary.AndAlso = and_also
sort_of binary.Or = operates (arithmetic arith_op.Or)
sort_of binary.Xor = operates (arithmetic arith_op.Xor)
sort_of binary.And = operates (arithmetic arith_op.And)
sort_of binary.Eq = operates (comparing compare_op.Eq)
sort_of binary.Ne = operates (comparing compare_op.Ne)
sort_of binary.Lt = operates (comparing compare_op.Lt)
sort_of binary.Gt = operates (comparing compare_op.Gt)
sort_of binary.Le = operates (comparing compare_op.Le)
sort_of binary.Ge = operates (comparing compare_op.Ge)
sort_of binary.Left = operates (shifting shift_op.Left)
sort_of binary.Right = operates (shifting shift_op.Right)
sort_of binary.Add = operates (arithmetic arith_op.Add)
sort_of binary.Sub = operates (arithmetic arith_op.Sub)
sort_of binary.Mul = operates (arithmetic arith_op.Mul)
sort_of binary.Div = operates (arithmetic arith_op.Div)
sort_of binary.Rem = operates (arithmetic arith_op.Rem)

-- the operator of a compound assignment (C11 6.5.16.2); `=` has none
abbrev pub assigned_operator : AssignOp → Option Operator
assigned_operator assign.Plain = None
assigned_operator assign.Mul = Some (arithmetic arith_op.Mul)
assigned_operator assign.Div = Some (arithmetic arith_op.Div)
assigned_operator assign.Rem = Some (arithmetic arith_op.Rem)
assigned_operator assign.Add = Some (arithmetic arith_op.Add)
assigned_operator assign.Sub = Some (arithmetic arith_op.Sub)
assigned_operator assign.Left = Some (shifting shift_op.Left)
assigned_operator assign.Right = Some (shifting shift_op.Right)
assigned_operator assign.And = Some (arithmetic arith_op.And)
assigned_operator assign.Xor = Some (arithmetic arith_op.Xor)
assigned_operator assign.Or = Some (arithmetic arith_op.Or)

-- the operator of `++` and `--`, whose right operand is 1 (C11 6.5.2.4, 6.5.3.1)
abbrev pub step_operator : StepOp → Operator
step_operator step.IncBefore = arithmetic arith_op.Add
step_operator step.DecBefore = arithmetic arith_op.Sub
step_operator step.IncAfter = arithmetic arith_op.Add
step_operator step.DecAfter = arithmetic arith_op.Sub

-- whether its value is the number from before (C11 6.5.2.4p2)
abbrev pub gives_old : StepOp → Bool
gives_old step.IncBefore = false
gives_old step.DecBefore = false
gives_old step.IncAfter = true
gives_old step.DecAfter = true

-- whether an operator is `-`
abbrev pub subtracts : ArithOp → Bool
subtracts arith_op.Add = false
subtracts arith_op.Sub = true
subtracts arith_op.Mul = false
subtracts arith_op.Div = false
subtracts arith_op.Rem = false
subtracts arith_op.And = false
subtracts arith_op.Xor = false
subtracts arith_op.Or = false

-- an operator on operands of these kinds, where they are integers, and of these strides, where they are pointers (C11
-- 6.3.1.8, 6.5.6)
abbrev pub arithmetic_of : ArithOp → Option IntKind → Option IntKind → ℕ → ℕ → Operation
arithmetic_of op (Some a) (Some b) left right = in_kind op (common a b)
arithmetic_of op (Some a) None left right = move_behind right
arithmetic_of op None (Some b) left right = move (subtracts op) left
arithmetic_of op None None left right = measure left

-- the kind in which two operands are compared: integers in their common kind, and else addresses (C11 6.5.8, 6.5.9)
abbrev pub comparison_kind : Option IntKind → Option IntKind → IntKind
comparison_kind (Some a) (Some b) = common a b
comparison_kind (Some a) None = kind.ULong
comparison_kind None (Some b) = kind.ULong
comparison_kind None None = kind.ULong

-- what an operator does to operands of these types
abbrev pub operation_of : Typing → Operator → TypeTree → TypeTree → Operation
operation_of ty (arithmetic op) t u = arithmetic_of op (kind_of t) (kind_of u) (stride_in ty t) (stride_in ty u)
operation_of ty (shifting op) t u = shift_in op (promote (number_kind t))
operation_of ty (comparing op) t u = compare_in op (comparison_kind (kind_of t) (kind_of u))

-- what `++` and `--` do to an operand of a type: they add or subtract an `int`
abbrev pub step_operation : Typing → StepOp → TypeTree → Operation
step_operation ty op t = operation_of ty (step_operator op) t (integer_type kind.Int)

-- whether a number counts as true (C11 6.5.13, 6.8.4.1)
abbrev pub truth : ℤ → Bool
truth x = not (int_eq x (pos 0))

-- 1 for true and 0 for false (C11 6.5.8p6)
abbrev pub bit : Bool → ℤ
bit b = if b then pos 1 else pos 0

-- the address that a number is
abbrev pub to_address : ℤ → ℕ
to_address x = residue 64 x

-- the value of an operation
abbrev pub operated : Operation → ℤ → ℤ → ℤ
operated (in_kind op k) x y = arith op k (wrap k x) (wrap k y)
operated (shift_in op k) x y = shifted op k x y
operated (compare_in op k) x y = bit (compared op (wrap k x) (wrap k y))
operated (move minus size) x y = pos (moved (to_address x) y size minus)
operated (move_behind size) x y = pos (moved (to_address y) x size false)
operated (measure size) x y = distance (to_address x) (to_address y) size

-- a kind of undefined behaviour that a node may have, and whether the numbers of its operands, in order, violate it
pub record Test : Type 0 where
  pub kind : UbKind
  pub broken : ℤ → ℤ → ℤ → Bool

-- a test of two operands
abbrev pub tested : UbKind → (ℤ → ℤ → Bool) → Test
tested k broken = record { kind = k; broken = λ x y z. broken x y }

-- one test, where it is asked
abbrev pub one_if : Bool → Test → List Test
one_if asked t = if asked then t ∷ [] else []

-- whether the exact result of an operator may leave a kind
abbrev pub may_overflow : ArithOp → Bool
may_overflow arith_op.Add = true
may_overflow arith_op.Sub = true
may_overflow arith_op.Mul = true
may_overflow arith_op.Div = true
may_overflow arith_op.Rem = true
may_overflow arith_op.And = false
may_overflow arith_op.Xor = false
may_overflow arith_op.Or = false

-- the tests of an operation: overflow of signed kinds, division by 0, oversized counts, pointers that leave the address
-- space (C11 6.5p5, 6.5.5p5, 6.5.6p8, 6.5.7p3)
abbrev pub operation_tests : Operation → List Test
operation_tests (in_kind op k) =
    one_if (may_overflow op && is_signed k) (tested ub.Overflow (λ x y. violates ub.Overflow op k (wrap k x) (wrap k y)))
    ++ one_if (divides op) (tested ub.Zero (λ x y. violates ub.Zero op k (wrap k x) (wrap k y)))
operation_tests (shift_in op k) = tested ub.Shift (λ x y. is_oversized k y) ∷ []
operation_tests (compare_in op k) = []
operation_tests (move minus size) = tested ub.Pointer (λ x y. leaves_memory (to_address x) y size minus) ∷ []
operation_tests (move_behind size) = tested ub.Pointer (λ x y. leaves_memory (to_address y) x size false) ∷ []
operation_tests (measure size) = []
