-- Typing gives an expression one fact for each of its nodes, its own the last one.
use Rattle.std.proofs.Common.{ℕ, ◌+◌, List, [], ◌∷◌, Option, None, refl}
use Rattle.stk_base.specs.Text.{text_of}
use Rattle.stk_ctype.specs.Types.{SignatureTree}
use Rattle.stk_tree.specs.Syntax.{BaseTree, DimensionTree, DimensionTrees, TypeNameTree, ExprTree, ExprTrees, ExprFormTree}
use Rattle.stk_tree.specs.Syntax as s
use Rattle.stk_tree.specs.Nodes.{base_nodes, dimension_nodes, dimensions_nodes, type_name_nodes, expression_nodes, expressions_nodes, expression_form_nodes}
use Rattle.stk_tree.specs.Parts.{name_in}
use Rattle.stk_type_rules.specs.Facts.{Fact}
use Rattle.stk_type_rules.specs.Outcome.{finish}
use Rattle.stk_type_rules.specs.Rules.{paren_rule, dot_rule, arrow_rule, step_rule, unary_rule, index_rule, binary_rule, assign_rule, size_rule, type_size_rule, cast_rule, choice_rule}
use Rattle.stk_typing.specs.declared.arrays.Size.{Size}
use Rattle.stk_typing.specs.declared.arrays.Size.TheVariants.{Open, Sized}
use Rattle.stk_typing.specs.Scope.{Scope, unevaluated, callee_rule, signature_named}
use Rattle.stk_typing.specs.Arrays.{starred, sized_type}
use Rattle.stk_typing.specs.Forms.{structs_in}
use Rattle.stk_typing.specs.Calls.{call_rule, callee_by}
use Rattle.stk_typing.specs.Typing.{base_typed, expression_typed, form_typed, callee_typed, arguments_typed, type_name_typed, dimension_typed, dimensions_typed}
use Rattle.stk_type_laws.proofs.Stretches.{Counts, counts_own, counts_given, counts_refused, counts_one, counts_two, counts_three, counts_mapped, counts_joined, Ends, ends_own, ends_one, ends_two, ends_three}

-- ---- a node's own fact is the last one

pub form_ends : (scope : Scope) (k : ℕ) (f : ExprFormTree) → Ends (form_typed scope k f)
form_ends scope k (s.name at) = ends_own k _
form_ends scope k (s.number at) = ends_own k _
form_ends scope k (s.character at) = ends_own k _
form_ends scope k (s.text parts) = ends_own k _
form_ends scope k (s.paren e) = ends_one (expression_typed scope e) k paren_rule
form_ends scope k (s.index a b) = ends_two (expression_typed scope a) (expression_typed scope b) k (index_rule (structs_in scope))
form_ends scope k (s.call f args) = ends_two (callee_typed scope f) (arguments_typed scope args) k call_rule
form_ends scope k (s.dot e at) = ends_one (expression_typed scope e) k (λ x. dot_rule (structs_in scope) x (text_of scope.bytes at))
form_ends scope k (s.arrow e at) = ends_one (expression_typed scope e) k (λ x. arrow_rule (structs_in scope) x (text_of scope.bytes at))
form_ends scope k (s.step op e) = ends_one (expression_typed scope e) k (step_rule (structs_in scope))
form_ends scope k (s.unary op e) = ends_one (expression_typed scope e) k (unary_rule (structs_in scope) op)
form_ends scope k (s.size_expression e) = ends_one (expression_typed (unevaluated scope) e) k (size_rule (structs_in scope))
form_ends scope k (s.size_name t) = ends_one (type_name_typed scope t) k (λ x. type_size_rule (structs_in scope) x.ty)
form_ends scope k (s.cast t e) = ends_two (type_name_typed scope t) (expression_typed scope e) k (λ x. cast_rule x.ty)
form_ends scope k (s.binary op a b) = ends_two (expression_typed scope a) (expression_typed scope b) k (binary_rule (structs_in scope) op)
form_ends scope k (s.choice a b c) = ends_three (expression_typed scope a) (expression_typed scope b) (expression_typed scope c) k choice_rule
form_ends scope k (s.assign op a b) = ends_two (expression_typed scope a) (expression_typed scope b) k (assign_rule (structs_in scope) op)

-- ---- a base without braces is one node

pub base_count : (b : BaseTree) (scope : Scope) → Counts (base_typed scope b) (base_nodes b)
base_count (s.base node (s.words ws)) scope = counts_own _ _
base_count (s.base node (s.struct_ref tag)) scope = counts_own _ _
base_count (s.base node (s.struct_def tag ms)) scope = counts_refused _ node.number 1 _ refl
base_count (s.base node (s.enum_ref tag)) scope = counts_own _ _
base_count (s.base node (s.enum_def tag es comma)) scope = counts_refused _ node.number 1 _ refl
base_count (s.base node (s.named at)) scope = counts_own _ _

-- ---- what is called is one node more than its operands, also where it is a name

nothing_known : Fact → Option SignatureTree
nothing_known x = None

callee_count : (f : ExprFormTree) (k : ℕ) (scope : Scope) → Counts (form_typed scope k f) (expression_form_nodes f + 1) → Counts (callee_by scope k (name_in f) (form_typed scope k f)) (expression_form_nodes f + 1)
unfolding nothing_known
callee_count (s.name at) k scope c = counts_mapped {o = finish k (callee_rule scope (text_of scope.bytes at))} (λ x. signature_named scope (text_of scope.bytes at)) (counts_own k (callee_rule scope (text_of scope.bytes at)))
callee_count (s.number at) k scope c = counts_mapped nothing_known c
callee_count (s.character at) k scope c = counts_mapped nothing_known c
callee_count (s.text parts) k scope c = counts_mapped nothing_known c
callee_count (s.paren e) k scope c = counts_mapped nothing_known c
callee_count (s.index a b) k scope c = counts_mapped nothing_known c
callee_count (s.call f args) k scope c = counts_mapped nothing_known c
callee_count (s.dot e at) k scope c = counts_mapped nothing_known c
callee_count (s.arrow e at) k scope c = counts_mapped nothing_known c
callee_count (s.step op e) k scope c = counts_mapped nothing_known c
callee_count (s.unary op e) k scope c = counts_mapped nothing_known c
callee_count (s.size_expression e) k scope c = counts_mapped nothing_known c
callee_count (s.size_name t) k scope c = counts_mapped nothing_known c
callee_count (s.cast t e) k scope c = counts_mapped nothing_known c
callee_count (s.binary op a b) k scope c = counts_mapped nothing_known c
callee_count (s.choice a b d) k scope c = counts_mapped nothing_known c
callee_count (s.assign op a b) k scope c = counts_mapped nothing_known c

-- ---- expressions

mutual
  pub expression_count : (e : ExprTree) (scope : Scope) → Counts (expression_typed scope e) (expression_nodes e)
  expression_count (s.expression node f) scope = form_count f node.number scope

  form_count : (f : ExprFormTree) (k : ℕ) (scope : Scope) → Counts (form_typed scope k f) (expression_form_nodes f + 1)
  form_count (s.name at) k scope = counts_own _ _
  form_count (s.number at) k scope = counts_own _ _
  form_count (s.character at) k scope = counts_own _ _
  form_count (s.text parts) k scope = counts_own _ _
  form_count (s.paren e) k scope = counts_one k paren_rule (expression_count e scope)
  form_count (s.index a b) k scope = counts_two k (index_rule (structs_in scope)) (expression_count a scope) (expression_count b scope)
  form_count (s.call f args) k scope = counts_two k call_rule (called_count f scope) (arguments_count args scope)
  form_count (s.dot e at) k scope = counts_one k (λ x. dot_rule (structs_in scope) x (text_of scope.bytes at)) (expression_count e scope)
  form_count (s.arrow e at) k scope = counts_one k (λ x. arrow_rule (structs_in scope) x (text_of scope.bytes at)) (expression_count e scope)
  form_count (s.step op e) k scope = counts_one k (step_rule (structs_in scope)) (expression_count e scope)
  form_count (s.unary op e) k scope = counts_one k (unary_rule (structs_in scope) op) (expression_count e scope)
  form_count (s.size_expression e) k scope = counts_one k (size_rule (structs_in scope)) (expression_count e (unevaluated scope))
  form_count (s.size_name t) k scope = counts_one k (λ x. type_size_rule (structs_in scope) x.ty) (type_name_count t scope)
  form_count (s.cast t e) k scope = counts_two k (λ x. cast_rule x.ty) (type_name_count t scope) (expression_count e scope)
  form_count (s.binary op a b) k scope = counts_two k (binary_rule (structs_in scope) op) (expression_count a scope) (expression_count b scope)
  form_count (s.choice a b c) k scope = counts_three k choice_rule (expression_count a scope) (expression_count b scope) (expression_count c scope)
  form_count (s.assign op a b) k scope = counts_two k (assign_rule (structs_in scope) op) (expression_count a scope) (expression_count b scope)

  pub called_count : (e : ExprTree) (scope : Scope) → Counts (callee_typed scope e) (expression_nodes e)
  called_count (s.expression node f) scope = callee_count f node.number scope (form_count f node.number scope)

  pub arguments_count : (es : ExprTrees) (scope : Scope) → Counts (arguments_typed scope es) (expressions_nodes es)
  arguments_count s.no_expressions scope = counts_given [] [] 0 refl
  arguments_count (s.then_expression e es) scope = counts_joined (λ (x : Fact) (xs : List Fact). x ∷ xs) (expression_count e scope) (arguments_count es scope)

  pub type_name_count : (x : TypeNameTree) (scope : Scope) → Counts (type_name_typed scope x) (type_name_nodes x)
  type_name_count (s.type_name node b count ds) scope =
      counts_two node.number (λ (x : Fact) (sizes : List Size). sized_type (structs_in scope) sizes (starred count x.ty)) (base_count b scope) (dimensions_count ds (unevaluated scope))

  dimension_count : (d : DimensionTree) (scope : Scope) → Counts (dimension_typed scope d) (dimension_nodes d)
  dimension_count s.open_dimension scope = counts_given Open [] 0 refl
  dimension_count (s.sized e) scope = counts_mapped (λ (x : Fact). Sized x.constancy) (expression_count e scope)

  pub dimensions_count : (ds : DimensionTrees) (scope : Scope) → Counts (dimensions_typed scope ds) (dimensions_nodes ds)
  dimensions_count s.no_dimensions scope = counts_given [] [] 0 refl
  dimensions_count (s.then_dimension d ds) scope = counts_joined (λ (x : Size) (xs : List Size). x ∷ xs) (dimension_count d scope) (dimensions_count ds scope)
