-- The types of an expression's nodes, in the order of their numbers, up to the first node that a rule refuses (C11 6.5,
-- 6.7.7).
use Rattle.std.specs.Prelude.{ℕ, List, [], ◌∷◌}
use Rattle.stk_base.specs.Text.{text_of}
use Rattle.stk_tree.specs.Syntax.{BaseTree, base, DimensionTree, DimensionTrees, TypeNameTree, ExprTree, ExprTrees, ExprFormTree}
use Rattle.stk_tree.specs.Syntax as s
use Rattle.stk_tree.specs.Parts.{name_in}
use Rattle.stk_type_rules.specs.Facts.{Fact}
use Rattle.stk_type_rules.specs.Outcome.{Outcome, Good, and_then, finish}
use Rattle.stk_type_rules.specs.Rules.{paren_rule, dot_rule, arrow_rule, step_rule, unary_rule, index_rule, binary_rule, assign_rule, size_rule, type_size_rule, cast_rule, choice_rule}
use Rattle.stk_typing.specs.declared.arrays.Size.{Size}
use Rattle.stk_typing.specs.declared.arrays.Size.TheVariants.{Open, Sized}
use Rattle.stk_typing.specs.Scope.{Scope, unevaluated, name_rule}
use Rattle.stk_typing.specs.Literals.{number_rule, character_rule, text_rule}
use Rattle.stk_typing.specs.Bases.{base_rule}
use Rattle.stk_typing.specs.Arrays.{starred, sized_type}
use Rattle.stk_typing.specs.Calls.{call_rule, callee_by}
use Rattle.stk_typing.specs.Forms.{structs_in}
use Rattle.stk_ctype.specs.Types.{SignatureTree}
use Rattle.std.specs.Prelude.{Option}

-- a base without braces
abbrev pub base_typed : Scope → BaseTree → Outcome Fact
base_typed scope (s.base n f) = finish n.number (base_rule scope.bytes scope.entries f)

abbrev mutual
  -- an expression
  pub expression_typed : Scope → ExprTree → Outcome Fact
  expression_typed scope (s.expression n f) = form_typed scope n.number f

  -- the node of this number, behind its operands from left to right; the operand of `sizeof` isn't evaluated
  pub form_typed : Scope → ℕ → ExprFormTree → Outcome Fact
  form_typed scope k (s.name at) = finish k (name_rule scope (text_of scope.bytes at))
  form_typed scope k (s.number at) = finish k (number_rule (text_of scope.bytes at))
  form_typed scope k (s.character at) = finish k (character_rule (text_of scope.bytes at))
  form_typed scope k (s.text parts) = finish k (text_rule scope.bytes parts)
  form_typed scope k (s.paren e) = and_then (expression_typed scope e) (λ x. finish k (paren_rule x))
  form_typed scope k (s.index a b) = and_then (expression_typed scope a) (λ x. and_then (expression_typed scope b) (λ y. finish k (index_rule (structs_in scope) x y)))
  form_typed scope k (s.call f args) = and_then (callee_typed scope f) (λ c. and_then (arguments_typed scope args) (λ xs. finish k (call_rule c xs)))
  form_typed scope k (s.dot e at) = and_then (expression_typed scope e) (λ x. finish k (dot_rule (structs_in scope) x (text_of scope.bytes at)))
  form_typed scope k (s.arrow e at) = and_then (expression_typed scope e) (λ x. finish k (arrow_rule (structs_in scope) x (text_of scope.bytes at)))
  form_typed scope k (s.step op e) = and_then (expression_typed scope e) (λ x. finish k (step_rule (structs_in scope) x))
  form_typed scope k (s.unary op e) = and_then (expression_typed scope e) (λ x. finish k (unary_rule (structs_in scope) op x))
  form_typed scope k (s.size_expression e) = and_then (expression_typed (unevaluated scope) e) (λ x. finish k (size_rule (structs_in scope) x))
  form_typed scope k (s.size_name t) = and_then (type_name_typed scope t) (λ x. finish k (type_size_rule (structs_in scope) x.ty))
  form_typed scope k (s.cast t e) = and_then (type_name_typed scope t) (λ x. and_then (expression_typed scope e) (λ y. finish k (cast_rule x.ty y)))
  form_typed scope k (s.binary op a b) = and_then (expression_typed scope a) (λ x. and_then (expression_typed scope b) (λ y. finish k (binary_rule (structs_in scope) op x y)))
  form_typed scope k (s.choice a b c) = and_then (expression_typed scope a) (λ x. and_then (expression_typed scope b) (λ y. and_then (expression_typed scope c) (λ z. finish k (choice_rule x y z))))
  form_typed scope k (s.assign op a b) = and_then (expression_typed scope a) (λ x. and_then (expression_typed scope b) (λ y. finish k (assign_rule (structs_in scope) op x y)))

  -- what is called
  pub callee_typed : Scope → ExprTree → Outcome (Option SignatureTree)
  callee_typed scope (s.expression n f) = callee_by scope n.number (name_in f) (form_typed scope n.number f)

  -- arguments, the first one first
  pub arguments_typed : Scope → ExprTrees → Outcome (List Fact)
  arguments_typed scope s.no_expressions = Good [] []
  arguments_typed scope (s.then_expression e es) = and_then (expression_typed scope e) (λ x. and_then (arguments_typed scope es) (λ xs. Good (x ∷ xs) []))

  -- a type name: its base, its array parts, itself
  pub type_name_typed : Scope → TypeNameTree → Outcome Fact
  type_name_typed scope (s.type_name n b count ds) = and_then (base_typed scope b) (λ x. and_then (dimensions_typed (unevaluated scope) ds) (λ sizes. finish n.number (sized_type (structs_in scope) sizes (starred count x.ty))))

  -- an array part; its size isn't evaluated
  pub dimension_typed : Scope → DimensionTree → Outcome Size
  dimension_typed scope s.open_dimension = Good Open []
  dimension_typed scope (s.sized e) = and_then (expression_typed scope e) (λ x. Good (Sized x.constancy) [])

  pub dimensions_typed : Scope → DimensionTrees → Outcome (List Size)
  dimensions_typed scope s.no_dimensions = Good [] []
  dimensions_typed scope (s.then_dimension d ds) = and_then (dimension_typed scope d) (λ size. and_then (dimensions_typed scope ds) (λ sizes. Good (size ∷ sizes) []))
