-- What the code's operators and operations are among those of runs.
use Rattle.stk_operators.specs.declared.operators.Operator.{Operator}
use Rattle.stk_operators.specs.declared.operators.Operator.TheVariants as operator
use Rattle.stk_operators.specs.declared.operators.BinarySort.{BinarySort}
use Rattle.stk_operators.specs.declared.operators.BinarySort.TheVariants as sort
use Rattle.stk_operators.specs.declared.operators.Operation.{Operation}
use Rattle.stk_operators.specs.declared.operators.Operation.TheVariants as operation
use Rattle.stk_operators.specs.declared.libraries.Library.{Library}
use Rattle.stk_operators.specs.declared.libraries.Library.TheVariants as library
use Rattle.stk_meaning.specs.Operations as runs
use Rattle.stk_meaning.specs.Libraries as libraries

-- an operator
abbrev pub operator_shown : Operator → runs.Operator
operator_shown (operator.Arithmetic op) = runs.arithmetic op
operator_shown (operator.Shifting op) = runs.shifting op
operator_shown (operator.Comparing op) = runs.comparing op

-- what a binary operator is
abbrev pub sort_shown : BinarySort → runs.BinarySort
sort_shown (sort.Operates op) = runs.operates (operator_shown op)
sort_shown sort.Joins = runs.joins
sort_shown sort.OrElse = runs.or_else
sort_shown sort.AndAlso = runs.and_also

-- an operation
abbrev pub operation_shown : Operation → runs.Operation
operation_shown (operation.InKind op k) = runs.in_kind op k
operation_shown (operation.ShiftIn op k) = runs.shift_in op k
operation_shown (operation.CompareIn op k) = runs.compare_in op k
operation_shown (operation.Move minus size) = runs.move minus size
operation_shown (operation.MoveBehind size) = runs.move_behind size
operation_shown (operation.Measure size) = runs.measure size

-- a function of the library
abbrev pub library_shown : Library → libraries.Library
library_shown (library.AbsoluteIn k) = libraries.absolute_in k
library_shown library.CopyBytes = libraries.copy_bytes
