-- The events of the steps of an expression, whatever their tests are, in the order of evaluation: both branches of each
-- test have theirs, one after the other.
use Rattle.std.specs.Prelude.{ℕ, Bool, true, false, not, List, [], ◌∷◌, ◌++◌, Option, Some, None, if◌then◌else◌}
use Rattle.stk_ctype.specs.Types.{TypeTree}
use Rattle.stk_tree.specs.declared.expression.UnaryOp.{UnaryOp}
use Rattle.stk_tree.specs.declared.expression.UnaryOp.TheVariants as unary
use Rattle.stk_tree.specs.declared.expression.BinaryOp.{BinaryOp}
use Rattle.stk_tree.specs.Syntax.{ExprTree, ExprTrees, ExprFormTree}
use Rattle.stk_tree.specs.Syntax as s
use Rattle.stk_tree.specs.Parts.{bare}
use Rattle.stk_numbers.specs.declared.conditions.CandKind.TheVariants.{Arm}
use Rattle.stk_meaning.specs.Typings.{node_of, type_in, is_array}
use Rattle.stk_meaning.specs.Operations.{Operator, arithmetic, shifting, comparing, BinarySort, operates, joins, or_else, and_also, sort_of, assigned_operator}
use Rattle.stk_meaning.specs.Conditions.{tests_at}
use Rattle.stk_meaning.specs.Replacements.{replacement}
use Rattle.stk_meaning.specs.Places.{Setting}
use Rattle.stk_meaning.specs.Expressions.{is_comparison}
use Rattle.stk_walking.specs.declared.state.Event.{Event}
use Rattle.stk_walking.specs.Events.{hit, truth_events, seen_events}
use Rattle.stk_walking.specs.NodeTests.{test_events}

-- those of an expression as a value, and as the address of a place that is accessed or not
pub record ExpressionEvents : Type 0 where
  pub value : List Event
  pub place : Bool → List Event

-- a value that is no place
abbrev pub value_alone : List Event → ExpressionEvents
value_alone es = record { value = es; place = λ b. [] }

-- a place: an array is not accessed where its address is its value
abbrev pub placed_events : TypeTree → (Bool → List Event) → ExpressionEvents
placed_events t place = record { value = place (not (is_array t)); place = place }

-- the conditions of a node
abbrev pub condition_events : Setting → ℕ → Bool → ExprFormTree → List Event
condition_events g k accessed f = test_events k (tests_at g.typing g.without accessed f)

-- a branch that is entered
abbrev pub entered_events : ExprTree → List Event → List Event
entered_events e es = hit (node_of e) Arm ∷ es

-- a controlling expression is seen without its parentheses; a comparison has been seen already
abbrev pub control_events : ExprTree → List Event
control_events e = if is_comparison e then [] else truth_events (node_of e)

abbrev pub controlled_events : ExprTree → List Event → List Event
controlled_events e es = es ++ control_events (bare e)

-- a binary operator
abbrev pub binary_events : Setting → ℕ → BinaryOp → ExprTree → ExprTree → BinarySort → ExpressionEvents → ExpressionEvents → List Event
binary_events g k op left right (operates (arithmetic how)) a b = a.value ++ (b.value ++ condition_events g k true (s.binary op left right))
binary_events g k op left right (operates (shifting how)) a b = a.value ++ (b.value ++ condition_events g k true (s.binary op left right))
binary_events g k op left right (operates (comparing how)) a b = a.value ++ (b.value ++ seen_events k (replacement g.typing left right))
binary_events g k op left right joins a b = a.value ++ b.value
binary_events g k op left right or_else a b = controlled_events left a.value ++ entered_events right b.value
binary_events g k op left right and_also a b = controlled_events left a.value ++ entered_events right b.value

-- `&`, `*`, `+`, `-`, `~` and `!`
abbrev pub unary_events : Setting → ℕ → UnaryOp → ExprTree → ExpressionEvents → ExpressionEvents
unary_events g k unary.Address e a = value_alone (a.place false)
unary_events g k unary.Deref e a = placed_events (g.typing.type_at k) (λ b. a.value ++ condition_events g k b (s.unary unary.Deref e))
unary_events g k unary.Plus e a = value_alone a.value
unary_events g k unary.Minus e a = value_alone (a.value ++ condition_events g k true (s.unary unary.Minus e))
unary_events g k unary.Flip e a = value_alone a.value
unary_events g k unary.Not e a = value_alone a.value

-- what stands before `[e]`: the address of an array, or a pointer
abbrev pub indexed_events : TypeTree → Bool → ExpressionEvents → List Event
indexed_events t accessed a = if is_array t then a.place accessed else a.value

-- an assignment: the right side, the place of the left side, and what is asked of the numbers of a compound one
abbrev pub assigned_events : Setting → ℕ → ExprFormTree → Option Operator → ExpressionEvents → ExpressionEvents → List Event
assigned_events g k f None a b = b.value ++ a.place true
assigned_events g k f (Some how) a b = b.value ++ (a.place true ++ condition_events g k true f)

abbrev mutual
  -- an expression
  pub expression_events : Setting → ExprTree → ExpressionEvents
  expression_events g (s.expression n f) = form_events g n.number f

  -- an expression of a form, at a node
  pub form_events : Setting → ℕ → ExprFormTree → ExpressionEvents
  form_events g k (s.name at) = value_alone []
  form_events g k (s.number at) = value_alone []
  form_events g k (s.character at) = value_alone []
  form_events g k (s.text parts) = value_alone []
  form_events g k (s.paren e) = expression_events g e
  form_events g k (s.index a b) =
      placed_events (g.typing.type_at k) (λ acc. indexed_events (type_in g.typing a) acc (expression_events g a) ++ ((expression_events g b).value ++ condition_events g k acc (s.index a b)))
  form_events g k (s.call e es) = value_alone (argument_events g es ++ condition_events g k true (s.call e es))
  form_events g k (s.dot e at) = placed_events (g.typing.type_at k) (expression_events g e).place
  form_events g k (s.arrow e at) = placed_events (g.typing.type_at k) (λ b. (expression_events g e).value ++ condition_events g k b (s.arrow e at))
  form_events g k (s.step op e) = value_alone ((expression_events g e).place true ++ condition_events g k true (s.step op e))
  form_events g k (s.unary op e) = unary_events g k op e (expression_events g e)
  form_events g k (s.size_expression e) = value_alone []
  form_events g k (s.size_name t) = value_alone []
  form_events g k (s.cast t e) = value_alone (expression_events g e).value
  form_events g k (s.binary op a b) = value_alone (binary_events g k op a b (sort_of op) (expression_events g a) (expression_events g b))
  form_events g k (s.choice a b c) =
      value_alone (controlled_events a (expression_events g a).value ++ (entered_events b (expression_events g b).value ++ entered_events c (expression_events g c).value))
  form_events g k (s.assign op a b) = value_alone (assigned_events g k (s.assign op a b) (assigned_operator op) (expression_events g a) (expression_events g b))

  -- arguments in order
  pub argument_events : Setting → ExprTrees → List Event
  argument_events g s.no_expressions = []
  argument_events g (s.then_expression e es) = (expression_events g e).value ++ argument_events g es

-- an expression as a value, and as a controlling expression
abbrev pub value_events : Setting → ExprTree → List Event
value_events g e = (expression_events g e).value

abbrev pub tested_events : Setting → ExprTree → List Event
tested_events g e = controlled_events e (value_events g e)
