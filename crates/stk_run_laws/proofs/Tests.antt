-- The tests at a node are in the order of their kinds, so each kind is there once.
use Rattle.std.proofs.Common.{ℕ, ◌<◌, Bool, true, false, List, [], ◌∷◌, ◌++◌, Option, Some, None, arith}
use Rattle.std.specs.Prelude.{◌&&◌, if◌then◌else◌, map, not, filter, ℤ, pos}
use Rattle.stk_ctype.specs.declared.kind.IntKind.{IntKind}
use Rattle.stk_tree.specs.declared.expression.UnaryOp.{UnaryOp}
use Rattle.stk_tree.specs.declared.expression.UnaryOp.TheVariants as unary
use Rattle.stk_tree.specs.Syntax.{ExprFormTree}
use Rattle.stk_tree.specs.Syntax as s
use Rattle.stk_numbers.specs.declared.operators.ArithOp.TheVariants as arith_op
use Rattle.stk_numbers.specs.declared.conditions.UbKind.TheVariants as ub
use Rattle.stk_numbers.specs.declared.conditions.Kinds.{Kinds}
use Rattle.stk_numbers.specs.Conditions.{divides, violates}
use Rattle.stk_numbers.specs.Kinds.{is_signed, wrap}
use Rattle.stk_numbers.specs.Taken.{number_of, is_taken}
use Rattle.stk_meaning.specs.Typings.{Typing, type_in, is_array, element_count, stride_in}
use Rattle.stk_meaning.specs.Operations.{Operator, Operation, in_kind, shift_in, compare_in, move, move_behind, measure, BinarySort, operates, joins, or_else, and_also, sort_of, assigned_operator, step_operation, operation_of, Test, one_if, may_overflow, operation_tests}
use Rattle.stk_meaning.specs.Libraries.{Library, absolute_in, copy_bytes, called_library}
use Rattle.stk_meaning.specs.Conditions.{array_tests, pointer_tests, target_tests, unary_tests, binary_tests, assigned_tests, library_tests, form_tests, tests_at}

-- kinds with greater numbers
abbrev pub AreAbove : ℕ → List Test → Type 0
AreAbove n [] = Unit {0}
AreAbove n (t ∷ ts) = (n < number_of t.kind) × AreAbove n ts

-- kinds in the order of their numbers
abbrev pub Ascend : List Test → Type 0
Ascend [] = Unit {0}
Ascend (t ∷ ts) = AreAbove (number_of t.kind) ts × Ascend ts

arithmetic_ascend : (a b : Bool) (f g : ℤ → ℤ → ℤ → Bool) → Ascend (one_if a (record { kind = ub.Overflow; broken = f }) ++ one_if b (record { kind = ub.Zero; broken = g }))
arithmetic_ascend true true f g = ((omega arith, tt), (tt, tt))
arithmetic_ascend true false f g = (tt, tt)
arithmetic_ascend false true f g = (tt, tt)
arithmetic_ascend false false f g = tt

operation_ascend : (op : Operation) → Ascend (operation_tests op)
operation_ascend (in_kind op k) = arithmetic_ascend (may_overflow op && is_signed k) (divides op) (λ x y z. violates ub.Overflow op k (wrap k x) (wrap k y)) (λ x y z. violates ub.Zero op k (wrap k x) (wrap k y))
operation_ascend (shift_in op k) = (tt, tt)
operation_ascend (compare_in op k) = tt
operation_ascend (move minus size) = (tt, tt)
operation_ascend (move_behind size) = (tt, tt)
operation_ascend (measure size) = tt

array_ascend : (accessed : Bool) (count : Option ℕ) (size : ℕ) → Ascend (array_tests accessed count size)
array_ascend true (Some n) size = (tt, tt)
array_ascend true None size = (tt, tt)
array_ascend false count size = (tt, tt)

pointer_ascend : (accessed : Bool) (size : ℕ) → Ascend (pointer_tests accessed size)
pointer_ascend true size = ((omega arith, tt), (tt, tt))
pointer_ascend false size = (tt, tt)

if_ascend : (b : Bool) (ts us : List Test) → Ascend ts → Ascend us → Ascend (if b then ts else us)
if_ascend true ts us p q = p
if_ascend false ts us p q = q

target_ascend : (accessed : Bool) → Ascend (target_tests accessed)
target_ascend true = (tt, tt)
target_ascend false = tt

mapped_above : (n : ℕ) (f : Test → ℤ → ℤ → ℤ → Bool) (ts : List Test) → AreAbove n ts → AreAbove n (map (λ t. record { kind = t.kind; broken = f t }) ts)
mapped_above n f [] h = tt
mapped_above n f (t ∷ ts) h = (h.0, mapped_above n f ts h.1)

mapped_ascend : (f : Test → ℤ → ℤ → ℤ → Bool) (ts : List Test) → Ascend ts → Ascend (map (λ t. record { kind = t.kind; broken = f t }) ts)
mapped_ascend f [] h = tt
mapped_ascend f (t ∷ ts) h = (mapped_above (number_of t.kind) f ts h.0, mapped_ascend f ts h.1)

unary_ascend : (accessed : Bool) (k : IntKind) (op : UnaryOp) → Ascend (unary_tests accessed k op)
unary_ascend accessed k unary.Address = tt
unary_ascend accessed k unary.Deref = target_ascend accessed
unary_ascend accessed k unary.Plus = tt
unary_ascend accessed k unary.Minus = mapped_ascend (λ t x y z. t.broken (pos 0) x (pos 0)) (operation_tests (in_kind arith_op.Sub k)) (operation_ascend (in_kind arith_op.Sub k))
unary_ascend accessed k unary.Flip = tt
unary_ascend accessed k unary.Not = tt

binary_ascend : (ty : Typing) (sort : BinarySort) (t u : _) → Ascend (binary_tests ty sort t u)
binary_ascend ty (operates op) t u = operation_ascend (operation_of ty op t u)
binary_ascend ty joins t u = tt
binary_ascend ty or_else t u = tt
binary_ascend ty and_also t u = tt

assigned_ascend : (ty : Typing) (op : Option Operator) (t u : _) → Ascend (assigned_tests ty op t u)
assigned_ascend ty None t u = tt
assigned_ascend ty (Some op) t u = operation_ascend (operation_of ty op t u)

library_ascend : (library : Option Library) → Ascend (library_tests library)
library_ascend None = tt
library_ascend (Some (absolute_in k)) = (tt, tt)
library_ascend (Some copy_bytes) = (tt, tt)

form_ascend : (ty : Typing) (accessed : Bool) (f : ExprFormTree) → Ascend (form_tests ty accessed f)
form_ascend ty accessed (s.name at) = tt
form_ascend ty accessed (s.number at) = tt
form_ascend ty accessed (s.character at) = tt
form_ascend ty accessed (s.text parts) = tt
form_ascend ty accessed (s.paren e) = tt
form_ascend ty accessed (s.index a b) = if_ascend (is_array (type_in ty a)) _ _ (array_ascend accessed (element_count (type_in ty a)) (stride_in ty (type_in ty a))) (pointer_ascend accessed (stride_in ty (type_in ty a)))
form_ascend ty accessed (s.call e es) = library_ascend (called_library ty e)
form_ascend ty accessed (s.dot e at) = tt
form_ascend ty accessed (s.arrow e at) = target_ascend accessed
form_ascend ty accessed (s.step op e) = operation_ascend (step_operation ty op (type_in ty e))
form_ascend ty accessed (s.unary op e) = unary_ascend accessed _ op
form_ascend ty accessed (s.size_expression e) = tt
form_ascend ty accessed (s.size_name t) = tt
form_ascend ty accessed (s.cast t e) = tt
form_ascend ty accessed (s.binary op a b) = binary_ascend ty (sort_of op) (type_in ty a) (type_in ty b)
form_ascend ty accessed (s.choice a b c) = tt
form_ascend ty accessed (s.assign op a b) = assigned_ascend ty (assigned_operator op) (type_in ty a) (type_in ty b)

filter_above : (n : ℕ) (p : Test → Bool) (ts : List Test) → AreAbove n ts → AreAbove n (filter p ts)
filter_above n p [] h = tt
filter_above n p (t ∷ ts) h = elim (p t) as (λ b. AreAbove n (if b then t ∷ filter p ts else filter p ts)) [ true ↦ (h.0, filter_above n p ts h.1) | false ↦ filter_above n p ts h.1 ]

filter_ascend : (p : Test → Bool) (ts : List Test) → Ascend ts → Ascend (filter p ts)
filter_ascend p [] h = tt
filter_ascend p (t ∷ ts) h = elim (p t) as (λ b. Ascend (if b then t ∷ filter p ts else filter p ts)) [ true ↦ (filter_above (number_of t.kind) p ts h.0, filter_ascend p ts h.1) | false ↦ filter_ascend p ts h.1 ]

pub tests_ascend : (ty : Typing) (without : Kinds) (accessed : Bool) (f : ExprFormTree) → Ascend (tests_at ty without accessed f)
tests_ascend ty without accessed f = filter_ascend (λ t. not (is_taken without t.kind)) (form_tests ty accessed f) (form_ascend ty accessed f)
