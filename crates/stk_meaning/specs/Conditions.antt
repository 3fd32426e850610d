-- The table of conditions: which kinds of undefined behaviour a node may have, by its form and the types of its
-- operands, and where the numbers of the operands violate them (C11 6.5). Runs and the list of a function's conditions
-- both use it.
use Rattle.std.specs.Prelude.{ℕ, Bool, true, false, not, if◌then◌else◌, List, [], ◌∷◌, ◌++◌, map, Option, Some, None, ℤ, pos, filter}
use Rattle.std.specs.Ordering.{int_eq}
use Rattle.stk_ctype.specs.declared.kind.IntKind.{IntKind}
use Rattle.stk_ctype.specs.Types.{TypeTree}
use Rattle.stk_tree.specs.declared.expression.UnaryOp.{UnaryOp}
use Rattle.stk_tree.specs.declared.expression.UnaryOp.TheVariants as unary
use Rattle.stk_tree.specs.Syntax.{ExprTree, ExprFormTree}
use Rattle.stk_tree.specs.Syntax as s
use Rattle.stk_numbers.specs.declared.operators.ArithOp.TheVariants as arith_op
use Rattle.stk_numbers.specs.declared.conditions.UbKind.TheVariants as ub
use Rattle.stk_numbers.specs.declared.conditions.Condition.{Condition}
use Rattle.stk_numbers.specs.declared.conditions.Kinds.{Kinds}
use Rattle.stk_numbers.specs.Taken.{is_taken}
use Rattle.stk_numbers.specs.Kinds.{promote, least}
use Rattle.stk_numbers.specs.Conditions.{leaves_memory, is_outside, overlaps}
use Rattle.stk_meaning.specs.declared.entry.Entry.{Entry}
use Rattle.stk_meaning.specs.declared.entry.Entry.TheVariants.{Ub}
use Rattle.stk_meaning.specs.Typings.{Typing, type_in, is_array, element_count, stride_in, number_kind}
use Rattle.stk_meaning.specs.Operations.{Operator, in_kind, operation_of, step_operation, BinarySort, operates, joins, or_else, and_also, sort_of, assigned_operator, Test, tested, operation_tests, to_address}
use Rattle.stk_meaning.specs.Libraries.{Library, absolute_in, copy_bytes, called_library}

-- an address that is 0 (C11 6.5.3.2p4)
abbrev pub null_test : Test
null_test = tested ub.Null (λ x y. int_eq x (pos 0))

-- an index that moves a pointer out of the address space
abbrev pub moved_test : ℕ → Test
moved_test size = tested ub.Pointer (λ x y. leaves_memory (to_address x) y size false)

-- `e[e]`: of an array of known size that is accessed the bounds; of a pointer that it is null, where it is accessed,
-- and the address space (C11 6.5.2.1, 6.5.6p8)
abbrev pub array_tests : Bool → Option ℕ → ℕ → List Test
array_tests true (Some n) size = tested ub.Bounds (λ x y. is_outside y n) ∷ []
array_tests true None size = moved_test size ∷ []
array_tests false count size = moved_test size ∷ []

abbrev pub pointer_tests : Bool → ℕ → List Test
pointer_tests true size = null_test ∷ moved_test size ∷ []
pointer_tests false size = moved_test size ∷ []

abbrev pub index_tests : Bool → TypeTree → ℕ → List Test
index_tests accessed t size = if is_array t then array_tests accessed (element_count t) size else pointer_tests accessed size

-- `*e` and `e->m` that are accessed
abbrev pub target_tests : Bool → List Test
target_tests true = null_test ∷ []
target_tests false = []

-- unary operators: `-` works as 0 less its operand
abbrev pub unary_tests : Bool → IntKind → UnaryOp → List Test
unary_tests accessed k unary.Address = []
unary_tests accessed k unary.Deref = target_tests accessed
unary_tests accessed k unary.Plus = []
unary_tests accessed k unary.Minus = map (λ t. tested t.kind (λ x y. t.broken (pos 0) x (pos 0))) (operation_tests (in_kind arith_op.Sub k))
unary_tests accessed k unary.Flip = []
unary_tests accessed k unary.Not = []

-- a binary operator: `,`, `||` and `&&` have none
abbrev pub binary_tests : Typing → BinarySort → TypeTree → TypeTree → List Test
binary_tests ty (operates op) t u = operation_tests (operation_of ty op t u)
binary_tests ty joins t u = []
binary_tests ty or_else t u = []
binary_tests ty and_also t u = []

-- an assignment: that of its operator, where it has one
abbrev pub assigned_tests : Typing → Option Operator → TypeTree → TypeTree → List Test
assigned_tests ty None t u = []
assigned_tests ty (Some op) t u = operation_tests (operation_of ty op t u)

-- calls of the library: the least number has no absolute value; bytes that overlap aren't copied
abbrev pub library_tests : Option Library → List Test
library_tests None = []
library_tests (Some (absolute_in k)) = tested ub.AbsValue (λ x y. int_eq x (least k)) ∷ []
library_tests (Some copy_bytes) = record { kind = ub.Overlap; broken = λ x y z. overlaps (to_address x) (to_address y) (to_address z) } ∷ []

-- the tests at a node of each form, where it is accessed or not, in the order of the kinds
abbrev pub form_tests : Typing → Bool → ExprFormTree → List Test
form_tests ty accessed (s.name at) = []
form_tests ty accessed (s.number at) = []
form_tests ty accessed (s.character at) = []
form_tests ty accessed (s.text parts) = []
form_tests ty accessed (s.paren e) = []
form_tests ty accessed (s.index a b) = index_tests accessed (type_in ty a) (stride_in ty (type_in ty a))
form_tests ty accessed (s.call e es) = library_tests (called_library ty e)
form_tests ty accessed (s.dot e at) = []
form_tests ty accessed (s.arrow e at) = target_tests accessed
form_tests ty accessed (s.step op e) = operation_tests (step_operation ty op (type_in ty e))
form_tests ty accessed (s.unary op e) = unary_tests accessed (promote (number_kind (type_in ty e))) op
form_tests ty accessed (s.size_expression e) = []
form_tests ty accessed (s.size_name t) = []
form_tests ty accessed (s.cast t e) = []
form_tests ty accessed (s.binary op a b) = binary_tests ty (sort_of op) (type_in ty a) (type_in ty b)
form_tests ty accessed (s.choice a b c) = []
form_tests ty accessed (s.assign op a b) = assigned_tests ty (assigned_operator op) (type_in ty a) (type_in ty b)

-- those of the kinds that aren't taken out
abbrev pub tests_at : Typing → Kinds → Bool → ExprFormTree → List Test
tests_at ty without accessed f = filter (λ t. not (is_taken without t.kind)) (form_tests ty accessed f)

-- the conditions of a node
abbrev pub conditions_of : ℕ → List Test → List Condition
conditions_of k tests = map (λ t. record { node = k; kind = t.kind }) tests

-- the entries of those that the numbers of the operands violate
abbrev pub violated : ℕ → List Test → ℤ → ℤ → ℤ → List Entry
violated k [] x y z = []
violated k (t ∷ ts) x y z = (if t.broken x y z then Ub (record { node = k; kind = t.kind }) ∷ [] else []) ++ violated k ts x y z
