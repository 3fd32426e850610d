-- The declarators whose names are operands of `&` in an expression, parentheses aside, in the order in which they
-- stand, also where nothing is evaluated (C11 6.5.3.2). Only such an object has an address that a program can know.
use Rattle.std.specs.Prelude.{ℕ, List, [], ◌∷◌, ◌++◌, Option, Some, None}
use Rattle.stk_base.specs.Text.{text_of}
use Rattle.stk_tree.specs.declared.expression.UnaryOp.{UnaryOp}
use Rattle.stk_tree.specs.declared.expression.UnaryOp.TheVariants as unary
use Rattle.stk_tree.specs.Syntax.{ExprTree, ExprTrees, MaybeExprTree, ExprFormTree, TypeNameTree, DimensionTree, DimensionTrees, InitTree, MaybeInitTree, ItemTree, ItemTrees, DesigTree, DesigTrees, TailTree}
use Rattle.stk_tree.specs.Syntax as s
use Rattle.stk_address_taken.specs.declared.bindings.Binding.{Binding}
use Rattle.stk_address_taken.specs.Bindings.{find_binding}

abbrev pub listed : Option ℕ → List ℕ
listed None = []
listed (Some k) = k ∷ []

-- what a name means, parentheses aside
abbrev pub name_taken : List ℕ → List Binding → ExprTree → List ℕ
name_taken bytes ms (s.expression n (s.name at)) = listed (find_binding bytes (text_of bytes at) ms)
name_taken bytes ms (s.expression n (s.paren e)) = name_taken bytes ms e
name_taken bytes ms e = []

-- an operand of `&`; no other operator takes an address
abbrev pub unary_taken : UnaryOp → List ℕ → List ℕ
unary_taken unary.Address under = under
unary_taken unary.Deref under = []
unary_taken unary.Plus under = []
unary_taken unary.Minus under = []
unary_taken unary.Flip under = []
unary_taken unary.Not under = []

abbrev mutual
  pub expression_taken : List ℕ → List Binding → ExprTree → List ℕ
  expression_taken bytes ms (s.expression n f) = form_taken bytes ms f

  pub form_taken : List ℕ → List Binding → ExprFormTree → List ℕ
  form_taken bytes ms (s.name at) = []
  form_taken bytes ms (s.number at) = []
  form_taken bytes ms (s.character at) = []
  form_taken bytes ms (s.text parts) = []
  form_taken bytes ms (s.paren e) = expression_taken bytes ms e
  form_taken bytes ms (s.index a b) = expression_taken bytes ms a ++ expression_taken bytes ms b
  form_taken bytes ms (s.call f args) = expression_taken bytes ms f ++ expressions_taken bytes ms args
  form_taken bytes ms (s.dot e at) = expression_taken bytes ms e
  form_taken bytes ms (s.arrow e at) = expression_taken bytes ms e
  form_taken bytes ms (s.step op e) = expression_taken bytes ms e
  form_taken bytes ms (s.unary op e) = unary_taken op (name_taken bytes ms e) ++ expression_taken bytes ms e
  form_taken bytes ms (s.size_expression e) = expression_taken bytes ms e
  form_taken bytes ms (s.size_name t) = type_name_taken bytes ms t
  form_taken bytes ms (s.cast t e) = type_name_taken bytes ms t ++ expression_taken bytes ms e
  form_taken bytes ms (s.binary op a b) = expression_taken bytes ms a ++ expression_taken bytes ms b
  form_taken bytes ms (s.choice a b c) = expression_taken bytes ms a ++ (expression_taken bytes ms b ++ expression_taken bytes ms c)
  form_taken bytes ms (s.assign op a b) = expression_taken bytes ms a ++ expression_taken bytes ms b

  pub expressions_taken : List ℕ → List Binding → ExprTrees → List ℕ
  expressions_taken bytes ms s.no_expressions = []
  expressions_taken bytes ms (s.then_expression e es) = expression_taken bytes ms e ++ expressions_taken bytes ms es

  pub type_name_taken : List ℕ → List Binding → TypeNameTree → List ℕ
  type_name_taken bytes ms (s.type_name n b count ds) = dimensions_taken bytes ms ds

  pub dimension_taken : List ℕ → List Binding → DimensionTree → List ℕ
  dimension_taken bytes ms s.open_dimension = []
  dimension_taken bytes ms (s.sized e) = expression_taken bytes ms e

  pub dimensions_taken : List ℕ → List Binding → DimensionTrees → List ℕ
  dimensions_taken bytes ms s.no_dimensions = []
  dimensions_taken bytes ms (s.then_dimension d ds) = dimension_taken bytes ms d ++ dimensions_taken bytes ms ds

-- an expression that may be missing
abbrev pub maybe_taken : List ℕ → List Binding → MaybeExprTree → List ℕ
maybe_taken bytes ms s.no_expression = []
maybe_taken bytes ms (s.some_expression e) = expression_taken bytes ms e

-- designators
abbrev pub designator_taken : List ℕ → List Binding → DesigTree → List ℕ
designator_taken bytes ms (s.dot_designator at) = []
designator_taken bytes ms (s.at_designator e) = expression_taken bytes ms e

abbrev pub designators_taken : List ℕ → List Binding → DesigTrees → List ℕ
designators_taken bytes ms s.no_designators = []
designators_taken bytes ms (s.then_designator d ds) = designator_taken bytes ms d ++ designators_taken bytes ms ds

-- initialisers
abbrev mutual
  pub initialiser_taken : List ℕ → List Binding → InitTree → List ℕ
  initialiser_taken bytes ms (s.plain e) = expression_taken bytes ms e
  initialiser_taken bytes ms (s.braces is comma) = items_taken bytes ms is

  pub item_taken : List ℕ → List Binding → ItemTree → List ℕ
  item_taken bytes ms (s.item ds i) = designators_taken bytes ms ds ++ initialiser_taken bytes ms i

  pub items_taken : List ℕ → List Binding → ItemTrees → List ℕ
  items_taken bytes ms s.no_items = []
  items_taken bytes ms (s.then_item i is) = item_taken bytes ms i ++ items_taken bytes ms is

abbrev pub maybe_initialiser_taken : List ℕ → List Binding → MaybeInitTree → List ℕ
maybe_initialiser_taken bytes ms s.no_initialiser = []
maybe_initialiser_taken bytes ms (s.some_initialiser i) = initialiser_taken bytes ms i

-- what follows the name of an object's declarator: array parts
abbrev pub tail_taken : List ℕ → List Binding → TailTree → List ℕ
tail_taken bytes ms (s.arrays ds) = dimensions_taken bytes ms ds
tail_taken bytes ms s.unspecified = []
tail_taken bytes ms s.void_parameters = []
tail_taken bytes ms (s.with_parameters ps more) = []
