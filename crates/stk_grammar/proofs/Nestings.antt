-- The records of nodes are nothing to the nesting of a tree.
use Rattle.std.proofs.Common.{◌≡◌, ℕ, ◌+◌, max, refl, ap}
use Rattle.stk_tree.specs.Syntax.{BaseTree, BaseFormTree, MemberTree, MemberTrees, EnumrTree, EnumrTrees, DeclrTree, DeclrTrees, TailTree, DimensionTree, DimensionTrees, ParamTree, ParamTrees, TypeNameTree, InitTree, MaybeInitTree, ItemTree, ItemTrees, DesigTree, DesigTrees, ExprTree, ExprTrees, MaybeExprTree, ExprFormTree, DeclarationTree}
use Rattle.stk_tree.specs.Syntax as s
use Rattle.stk_tree.specs.Nesting.{base_nesting, base_form_nesting, member_nesting, members_nesting, enumerator_nesting, enumerators_nesting, declarator_nesting, declarators_nesting, tail_nesting, dimension_nesting, dimensions_nesting, parameter_nesting, parameters_nesting, type_name_nesting, initialiser_nesting, maybe_initialiser_nesting, item_nesting, items_nesting, designator_nesting, designators_nesting, expression_nesting, expressions_nesting, maybe_expression_nesting, expression_form_nesting}
use Rattle.stk_tree.specs.Unlaid.{unlaid_base, unlaid_base_form, unlaid_member, unlaid_members, unlaid_enumerator, unlaid_enumerators, unlaid_declarator, unlaid_declarators, unlaid_tail, unlaid_dimension, unlaid_dimensions, unlaid_parameter, unlaid_parameters, unlaid_type_name, unlaid_initialiser, unlaid_maybe_initialiser, unlaid_item, unlaid_items, unlaid_designator, unlaid_designators, unlaid_expression, unlaid_expressions, unlaid_maybe_expression, unlaid_expression_form}

-- the greater of two, and of three
greater : (a b c d : ℕ) → a ≡ c → b ≡ d → max a b ≡ max c d
greater a b c d e f = rw (e, f) refl

one_more : (a c : ℕ) → a ≡ c → a + 1 ≡ c + 1
one_more a c e = ap (λ h. h + 1) e

mutual
  pub base-unlaid : (b : BaseTree) → base_nesting (unlaid_base b) ≡ base_nesting b
  base-unlaid (s.base n f) = one_more _ _ (base_form-unlaid f)

  pub base_form-unlaid : (f : BaseFormTree) → base_form_nesting (unlaid_base_form f) ≡ base_form_nesting f
  base_form-unlaid (s.words ws) = refl
  base_form-unlaid (s.struct_ref tag) = refl
  base_form-unlaid (s.struct_def tag ms) = members-unlaid ms
  base_form-unlaid (s.enum_ref tag) = refl
  base_form-unlaid (s.enum_def tag es comma) = enumerators-unlaid es
  base_form-unlaid (s.named at) = refl

  pub member-unlaid : (x : MemberTree) → member_nesting (unlaid_member x) ≡ member_nesting x
  member-unlaid (s.member b ds) = greater _ _ _ _ (base-unlaid b) (declarators-unlaid ds)

  pub members-unlaid : (xs : MemberTrees) → members_nesting (unlaid_members xs) ≡ members_nesting xs
  members-unlaid s.no_members = refl
  members-unlaid (s.then_member x xs) = greater _ _ _ _ (member-unlaid x) (members-unlaid xs)

  pub enumerator-unlaid : (x : EnumrTree) → enumerator_nesting (unlaid_enumerator x) ≡ enumerator_nesting x
  enumerator-unlaid (s.enumerator at e) = maybe_expression-unlaid e

  pub enumerators-unlaid : (xs : EnumrTrees) → enumerators_nesting (unlaid_enumerators xs) ≡ enumerators_nesting xs
  enumerators-unlaid s.no_enumerators = refl
  enumerators-unlaid (s.then_enumerator x xs) = greater _ _ _ _ (enumerator-unlaid x) (enumerators-unlaid xs)

  pub declarator-unlaid : (d : DeclrTree) → declarator_nesting (unlaid_declarator d) ≡ declarator_nesting d
  declarator-unlaid (s.declarator n count at t i) = one_more _ _ (greater _ _ _ _ (ap (λ h. h + count) (tail-unlaid t)) (maybe_initialiser-unlaid i))

  pub declarators-unlaid : (xs : DeclrTrees) → declarators_nesting (unlaid_declarators xs) ≡ declarators_nesting xs
  declarators-unlaid s.no_declarators = refl
  declarators-unlaid (s.then_declarator x xs) = greater _ _ _ _ (declarator-unlaid x) (declarators-unlaid xs)

  pub tail-unlaid : (t : TailTree) → tail_nesting (unlaid_tail t) ≡ tail_nesting t
  tail-unlaid (s.arrays ds) = dimensions-unlaid ds
  tail-unlaid s.unspecified = refl
  tail-unlaid s.void_parameters = refl
  tail-unlaid (s.with_parameters ps more) = parameters-unlaid ps

  pub dimension-unlaid : (d : DimensionTree) → dimension_nesting (unlaid_dimension d) ≡ dimension_nesting d
  dimension-unlaid s.open_dimension = refl
  dimension-unlaid (s.sized e) = expression-unlaid e

  pub dimensions-unlaid : (ds : DimensionTrees) → dimensions_nesting (unlaid_dimensions ds) ≡ dimensions_nesting ds
  dimensions-unlaid s.no_dimensions = refl
  dimensions-unlaid (s.then_dimension x xs) = one_more _ _ (greater _ _ _ _ (dimension-unlaid x) (dimensions-unlaid xs))

  pub parameter-unlaid : (x : ParamTree) → parameter_nesting (unlaid_parameter x) ≡ parameter_nesting x
  parameter-unlaid (s.parameter n b d) = one_more _ _ (greater _ _ _ _ (base-unlaid b) (declarator-unlaid d))

  pub parameters-unlaid : (xs : ParamTrees) → parameters_nesting (unlaid_parameters xs) ≡ parameters_nesting xs
  parameters-unlaid s.no_parameters = refl
  parameters-unlaid (s.then_parameter x xs) = greater _ _ _ _ (parameter-unlaid x) (parameters-unlaid xs)

  type_name-unlaid : (y : TypeNameTree) → type_name_nesting (unlaid_type_name y) ≡ type_name_nesting y
  type_name-unlaid (s.type_name n b count ds) = one_more _ _ (greater _ _ _ _ (base-unlaid b) (ap (λ h. h + count) (dimensions-unlaid ds)))

  pub initialiser-unlaid : (i : InitTree) → initialiser_nesting (unlaid_initialiser i) ≡ initialiser_nesting i
  initialiser-unlaid (s.plain e) = expression-unlaid e
  initialiser-unlaid (s.braces is comma) = one_more _ _ (items-unlaid is)

  pub maybe_initialiser-unlaid : (i : MaybeInitTree) → maybe_initialiser_nesting (unlaid_maybe_initialiser i) ≡ maybe_initialiser_nesting i
  maybe_initialiser-unlaid s.no_initialiser = refl
  maybe_initialiser-unlaid (s.some_initialiser i) = initialiser-unlaid i

  pub item-unlaid : (x : ItemTree) → item_nesting (unlaid_item x) ≡ item_nesting x
  item-unlaid (s.item ds i) = greater _ _ _ _ (designators-unlaid ds) (initialiser-unlaid i)

  pub items-unlaid : (xs : ItemTrees) → items_nesting (unlaid_items xs) ≡ items_nesting xs
  items-unlaid s.no_items = refl
  items-unlaid (s.then_item x xs) = greater _ _ _ _ (item-unlaid x) (items-unlaid xs)

  pub designator-unlaid : (d : DesigTree) → designator_nesting (unlaid_designator d) ≡ designator_nesting d
  designator-unlaid (s.dot_designator at) = refl
  designator-unlaid (s.at_designator e) = expression-unlaid e

  pub designators-unlaid : (ds : DesigTrees) → designators_nesting (unlaid_designators ds) ≡ designators_nesting ds
  designators-unlaid s.no_designators = refl
  designators-unlaid (s.then_designator x xs) = one_more _ _ (greater _ _ _ _ (designator-unlaid x) (designators-unlaid xs))

  pub expression-unlaid : (e : ExprTree) → expression_nesting (unlaid_expression e) ≡ expression_nesting e
  expression-unlaid (s.expression n f) = one_more _ _ (expression_form-unlaid f)

  expressions-unlaid : (es : ExprTrees) → expressions_nesting (unlaid_expressions es) ≡ expressions_nesting es
  expressions-unlaid s.no_expressions = refl
  expressions-unlaid (s.then_expression x xs) = greater _ _ _ _ (expression-unlaid x) (expressions-unlaid xs)

  pub maybe_expression-unlaid : (e : MaybeExprTree) → maybe_expression_nesting (unlaid_maybe_expression e) ≡ maybe_expression_nesting e
  maybe_expression-unlaid s.no_expression = refl
  maybe_expression-unlaid (s.some_expression e) = expression-unlaid e

  expression_form-unlaid : (f : ExprFormTree) → expression_form_nesting (unlaid_expression_form f) ≡ expression_form_nesting f
  expression_form-unlaid (s.name at) = refl
  expression_form-unlaid (s.number at) = refl
  expression_form-unlaid (s.character at) = refl
  expression_form-unlaid (s.text parts) = refl
  expression_form-unlaid (s.paren e) = expression-unlaid e
  expression_form-unlaid (s.index a b) = greater _ _ _ _ (expression-unlaid a) (expression-unlaid b)
  expression_form-unlaid (s.call f args) = greater _ _ _ _ (expression-unlaid f) (expressions-unlaid args)
  expression_form-unlaid (s.dot e at) = expression-unlaid e
  expression_form-unlaid (s.arrow e at) = expression-unlaid e
  expression_form-unlaid (s.step op e) = expression-unlaid e
  expression_form-unlaid (s.unary op e) = expression-unlaid e
  expression_form-unlaid (s.size_expression e) = expression-unlaid e
  expression_form-unlaid (s.size_name y) = type_name-unlaid y
  expression_form-unlaid (s.cast y e) = greater _ _ _ _ (type_name-unlaid y) (expression-unlaid e)
  expression_form-unlaid (s.binary op a b) = greater _ _ _ _ (expression-unlaid a) (expression-unlaid b)
  expression_form-unlaid (s.choice a b c) = greater _ _ _ _ (expression-unlaid a) (greater _ _ _ _ (expression-unlaid b) (expression-unlaid c))
  expression_form-unlaid (s.assign op a b) = greater _ _ _ _ (expression-unlaid a) (expression-unlaid b)
