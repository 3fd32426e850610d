-- What the walk of an expression may cost at most: what its operands cost, and the charges of its own steps, form by
-- form. Both branches of each test count.
use Rattle.std.specs.Prelude.{ℕ, ◌+◌, ◌*◌, length, Option, Some, None, ℤ, if◌then◌else◌}
use Rattle.stk_ctype.specs.declared.kind.IntKind.{IntKind}
use Rattle.stk_ctype.specs.declared.kind.IntKind.TheVariants.{Int}
use Rattle.stk_ctype.specs.Types.{TypeTree}
use Rattle.stk_tree.specs.declared.expression.UnaryOp.{UnaryOp}
use Rattle.stk_tree.specs.declared.expression.UnaryOp.TheVariants as unary
use Rattle.stk_tree.specs.Syntax.{ExprTree, ExprTrees, MaybeExprTree, ExprFormTree}
use Rattle.stk_tree.specs.Syntax as s
use Rattle.stk_tree.specs.Parts.{bare}
use Rattle.stk_numbers.specs.declared.operators.ArithOp.TheVariants as arith_op
use Rattle.stk_numbers.specs.Kinds.{width_of, promote}
use Rattle.stk_meaning.specs.Typings.{Typing, type_in, number_kind, is_array, stride_in}
use Rattle.stk_meaning.specs.Operations.{Operator, arithmetic, shifting, comparing, Operation, in_kind, operation_of, step_operation, BinarySort, operates, joins, or_else, and_also, sort_of, assigned_operator}
use Rattle.stk_meaning.specs.Libraries.{Library, called_library}
use Rattle.stk_meaning.specs.Replacements.{Replaced, replacement}
use Rattle.stk_meaning.specs.Places.{Setting, Target, target_of, form_target}
use Rattle.stk_values.specs.Charges.{convert_charge, move_charge}
use Rattle.stk_kinded.specs.Kinds.{operation_kind}
use Rattle.stk_spending.specs.Charges.{operated_charge, tests_charge, null_charge, index_charge, tested_charge, seen_charge, replaced_charge, read_charge, store_charge, argument_charge, call_charge}

-- what an expression costs as a value, and as the address of a place
pub record Spent : Type 0 where
  pub value : ℕ
  pub place : ℕ

-- a value that is no place
abbrev pub value_spent : ℕ → Spent
value_spent n = record { value = n; place = 0 }

-- the kind of an expression's values
abbrev pub kind_in : Typing → ExprTree → IntKind
kind_in ty e = number_kind (type_in ty e)

abbrev pub kind_at : Typing → ℕ → IntKind
kind_at ty k = number_kind (ty.type_at k)

-- a place, which is read as a value
abbrev pub placed_spent : Setting → ℕ → Target → ℕ → Spent
placed_spent g k target n = record { value = n + read_charge target (kind_at g.typing k); place = n }

-- a name: that of an enumerator is a constant
abbrev pub name_spent : Setting → ℕ → Target → Option ℤ → Spent
name_spent g k target None = placed_spent g k target 0
name_spent g k target (Some z) = value_spent 0

-- what an operator costs on the values of two expressions, with the steps of its conditions
abbrev pub operator_spent : Operation → IntKind → IntKind → ℕ
operator_spent how a b = operated_charge how a b + tests_charge how a b

-- a comparison of two values, and what is seen of it
abbrev pub compared_spent : Operation → IntKind → IntKind → Option Replaced → ℕ
compared_spent how a b found = operated_charge how a b + replaced_charge found + seen_charge found

-- `&&` and `||`, both of whose operands are tested: two guards, one behind both, and a choice of two tests
abbrev pub joined_spent : IntKind → IntKind → ℕ
joined_spent a b = tested_charge a + 6 + 10 * width_of b + 3 + 96

abbrev pub binary_spent : Typing → ExprTree → ExprTree → BinarySort → ℕ
binary_spent ty a b (operates (arithmetic op)) = operator_spent (operation_of ty (arithmetic op) (type_in ty a) (type_in ty b)) (kind_in ty a) (kind_in ty b)
binary_spent ty a b (operates (shifting op)) = operator_spent (operation_of ty (shifting op) (type_in ty a) (type_in ty b)) (kind_in ty a) (kind_in ty b)
binary_spent ty a b (operates (comparing op)) = compared_spent (operation_of ty (comparing op) (type_in ty a) (type_in ty b)) (kind_in ty a) (kind_in ty b) (replacement ty a b)
binary_spent ty a b joins = 0
binary_spent ty a b or_else = joined_spent (kind_in ty a) (kind_in ty b)
binary_spent ty a b and_also = joined_spent (kind_in ty a) (kind_in ty b)

-- `&`, `*`, `+`, `-`, `~` and `!`
abbrev pub unary_spent : Setting → ℕ → UnaryOp → IntKind → Spent → Spent
unary_spent g k unary.Address a e = value_spent e.place
unary_spent g k unary.Deref a e = record { value = e.value + null_charge a; place = e.value + null_charge a }
unary_spent g k unary.Plus a e = value_spent (e.value + convert_charge a (kind_at g.typing k))
unary_spent g k unary.Minus a e = value_spent (e.value + operator_spent (in_kind arith_op.Sub (promote a)) (promote a) a)
unary_spent g k unary.Flip a e = value_spent (e.value + convert_charge a (promote a) + 10 * width_of (promote a))
unary_spent g k unary.Not a e = value_spent (e.value + 10 * width_of a)

-- what stands before `[e]`: the address of an array, or a pointer
abbrev pub indexed_spent : TypeTree → Spent → ℕ
indexed_spent t e = if is_array t then e.place else e.value

-- what stores the result of an operation in the kind of a place, whose number is read first
abbrev pub stored_spent : Setting → ExprTree → Operation → IntKind → ℕ
stored_spent g e how b =
    read_charge (target_of g e) (kind_in g.typing e) + operated_charge how (kind_in g.typing e) b + convert_charge (operation_kind how) (kind_in g.typing e)
    + tests_charge how (kind_in g.typing e) b + store_charge (length g.kept) (target_of g e) (kind_in g.typing e)

-- an assignment behind its right side and the place of its left side
abbrev pub assigned_spent : Setting → ExprTree → ExprTree → Option Operator → ℕ
assigned_spent g a b None = convert_charge (kind_in g.typing b) (kind_in g.typing a) + store_charge (length g.kept) (target_of g a) (kind_in g.typing a)
assigned_spent g a b (Some op) = stored_spent g a (operation_of g.typing op (type_in g.typing a) (type_in g.typing b)) (kind_in g.typing b)

-- `?:`: the test, its two guards, the conversions of both branches, one guard behind them, and a choice
abbrev pub choice_spent : IntKind → IntKind → IntKind → IntKind → ℕ
choice_spent k a b c = tested_charge a + 6 + convert_charge b k + convert_charge c k + 3 + 3 * width_of k

abbrev mutual
  -- an expression
  pub expression_spent : Setting → ExprTree → Spent
  expression_spent g (s.expression n f) = form_spent g n.number f

  -- an expression of a form, at a node
  pub form_spent : Setting → ℕ → ExprFormTree → Spent
  form_spent g k (s.name at) = name_spent g k (form_target g k (s.name at)) (g.typing.number_at k)
  form_spent g k (s.number at) = value_spent 0
  form_spent g k (s.character at) = value_spent 0
  form_spent g k (s.text parts) = value_spent 0
  form_spent g k (s.paren e) = expression_spent g e
  form_spent g k (s.index a b) =
      let n = indexed_spent (type_in g.typing a) (expression_spent g a) + (expression_spent g b).value + move_charge (stride_in g.typing (type_in g.typing a)) + index_charge (kind_in g.typing a) (stride_in g.typing (type_in g.typing a)) in
      record { value = n; place = n }
  form_spent g k (s.call e es) = value_spent (arguments_spent g (called_library g.typing e) es + call_charge (length g.kept) (called_library g.typing e))
  form_spent g k (s.dot e at) = placed_spent g k (form_target g k (s.dot e at)) ((expression_spent g e).place + 1024)
  form_spent g k (s.arrow e at) =
      let n = (expression_spent g e).value + 1024 + null_charge (kind_in g.typing e) in
      record { value = n; place = n }
  form_spent g k (s.step op e) = value_spent ((expression_spent g e).place + stored_spent g e (step_operation g.typing op (type_in g.typing e)) Int)
  form_spent g k (s.unary op e) = unary_spent g k op (kind_in g.typing e) (expression_spent g e)
  form_spent g k (s.size_expression e) = value_spent 0
  form_spent g k (s.size_name t) = value_spent 0
  form_spent g k (s.cast t e) = value_spent ((expression_spent g e).value + convert_charge (kind_in g.typing e) (kind_at g.typing k))
  form_spent g k (s.binary op a b) = value_spent ((expression_spent g a).value + (expression_spent g b).value + binary_spent g.typing a b (sort_of op))
  form_spent g k (s.choice a b c) = value_spent ((expression_spent g a).value + (expression_spent g b).value + (expression_spent g c).value + choice_spent (kind_at g.typing k) (kind_in g.typing a) (kind_in g.typing b) (kind_in g.typing c))
  form_spent g k (s.assign op a b) = value_spent ((expression_spent g b).value + (expression_spent g a).place + assigned_spent g a b (assigned_operator op))

  -- the arguments of a call
  pub arguments_spent : Setting → Option Library → ExprTrees → ℕ
  arguments_spent g library s.no_expressions = 0
  arguments_spent g library (s.then_expression e es) = (expression_spent g e).value + argument_charge library + arguments_spent g library es

-- an expression as a value, as a place, and as a controlling expression
abbrev pub spent_value : Setting → ExprTree → ℕ
spent_value g e = (expression_spent g e).value

abbrev pub spent_place : Setting → ExprTree → ℕ
spent_place g e = (expression_spent g e).place

abbrev pub spent_test : Setting → ExprTree → ℕ
spent_test g e = spent_value g e + tested_charge (kind_in g.typing e)

-- one that may be missing
abbrev pub maybe_spent : Setting → MaybeExprTree → ℕ
maybe_spent g s.no_expression = 0
maybe_spent g (s.some_expression e) = spent_value g e
