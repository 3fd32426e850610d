-- No branch or loop stands in an expression, an initialiser, a declarator or a label.
use Rattle.std.proofs.Common.{ℕ, ◌≡◌, Bool, true, false, arith, refl}
use Rattle.stk_tree.specs.Syntax.{ExprTree, ExprTrees, MaybeExprTree, ExprFormTree, InitTree, MaybeInitTree, ItemTree, ItemTrees, DesigTree, DesigTrees, TypeNameTree, DimensionTree, DimensionTrees, TailTree, ParamTree, ParamTrees, DeclrTree, DeclrTrees, DeclarationTree, StartTree, LabelTree, LabelTrees}
use Rattle.stk_tree.specs.Syntax as s
use Rattle.stk_tree.specs.Parts.{is_static}
use Rattle.stk_meaning.specs.Typings.{Typing, type_in}
use Rattle.stk_meaning.specs.Places.{Setting}
use Rattle.stk_meaning.specs.Visits.{Role, reading, as_arm, as_test, inside, inner_role, indexed_role, unary_role, left_role, right_role, assigned_role, expression_visits, form_visits, arguments_visits, type_name_visits, dimensions_visits, dimension_visits, maybe_visits, initialiser_visits, items_visits, item_visits, designators_visits, designator_visits, tail_visits, parameters_visits, parameter_visits, head_visits, initial_visits, declarator_visits, declarators_visits, declaration_visits, start_visits, label_visits, labels_visits}
use Rattle.stk_weights.specs.Events.{counts}

module _ (g : Setting) (r : ℕ) (ty : Typing) where
  mutual
    pub expression_none : (role : Role) (e : ExprTree) → counts g r (expression_visits ty role e) ≡ 0
    expression_none role (s.expression n f) = omega (arith, form_none n.number role f)

    form_none : (k : ℕ) (role : Role) (f : ExprFormTree) → counts g r (form_visits ty k role f) ≡ 0
    form_none k role (s.name at) = refl
    form_none k role (s.number at) = refl
    form_none k role (s.character at) = refl
    form_none k role (s.text parts) = refl
    form_none k role (s.paren e) = expression_none (inside role) e
    form_none k role (s.index a b) = omega (arith, expression_none (indexed_role (ty.type_at k) (type_in ty a) role.use_of) a, expression_none reading b)
    form_none k role (s.call e es) = arguments_none es
    form_none k role (s.dot e at) = expression_none (inner_role (ty.type_at k) role.use_of) e
    form_none k role (s.arrow e at) = expression_none reading e
    form_none k role (s.step op e) = expression_none reading e
    form_none k role (s.unary op e) = expression_none (unary_role op) e
    form_none k role (s.size_expression e) = expression_none reading e
    form_none k role (s.size_name t) = type_name_none t
    form_none k role (s.cast t e) = omega (arith, type_name_none t, expression_none reading e)
    form_none k role (s.binary op a b) = omega (arith, expression_none (left_role op) a, expression_none (right_role op) b)
    form_none k role (s.choice a b c) = omega (arith, expression_none as_test a, expression_none as_arm b, expression_none as_arm c)
    form_none k role (s.assign op a b) = omega (arith, expression_none (assigned_role op) a, expression_none reading b)

    arguments_none : (es : ExprTrees) → counts g r (arguments_visits ty es) ≡ 0
    arguments_none s.no_expressions = refl
    arguments_none (s.then_expression e es) = omega (arith, expression_none reading e, arguments_none es)

    type_name_none : (t : TypeNameTree) → counts g r (type_name_visits ty t) ≡ 0
    type_name_none (s.type_name n specifiers count ds) = dimensions_none ds

    dimensions_none : (ds : DimensionTrees) → counts g r (dimensions_visits ty ds) ≡ 0
    dimensions_none s.no_dimensions = refl
    dimensions_none (s.then_dimension d ds) = omega (arith, dimension_none d, dimensions_none ds)

    dimension_none : (d : DimensionTree) → counts g r (dimension_visits ty d) ≡ 0
    dimension_none s.open_dimension = refl
    dimension_none (s.sized e) = expression_none reading e

  pub maybe_none : (role : Role) (e : MaybeExprTree) → counts g r (maybe_visits ty role e) ≡ 0
  maybe_none role s.no_expression = refl
  maybe_none role (s.some_expression e) = expression_none role e

  mutual
    initialiser_none : (x : InitTree) → counts g r (initialiser_visits ty x) ≡ 0
    initialiser_none (s.plain e) = expression_none reading e
    initialiser_none (s.braces items comma) = items_none items

    items_none : (xs : ItemTrees) → counts g r (items_visits ty xs) ≡ 0
    items_none s.no_items = refl
    items_none (s.then_item x xs) = omega (arith, item_none x, items_none xs)

    item_none : (x : ItemTree) → counts g r (item_visits ty x) ≡ 0
    item_none (s.item path x) = omega (arith, designators_none path, initialiser_none x)

    designators_none : (ds : DesigTrees) → counts g r (designators_visits ty ds) ≡ 0
    designators_none s.no_designators = refl
    designators_none (s.then_designator d ds) = omega (arith, designator_none d, designators_none ds)

    designator_none : (d : DesigTree) → counts g r (designator_visits ty d) ≡ 0
    designator_none (s.dot_designator at) = refl
    designator_none (s.at_designator e) = expression_none reading e

  mutual
    tail_none : (t : TailTree) → counts g r (tail_visits ty t) ≡ 0
    tail_none (s.arrays ds) = dimensions_none ds
    tail_none s.unspecified = refl
    tail_none s.void_parameters = refl
    tail_none (s.with_parameters ps more) = parameters_none ps

    parameters_none : (ps : ParamTrees) → counts g r (parameters_visits ty ps) ≡ 0
    parameters_none s.no_parameters = refl
    parameters_none (s.then_parameter p ps) = omega (arith, parameter_none p, parameters_none ps)

    parameter_none : (p : ParamTree) → counts g r (parameter_visits ty p) ≡ 0
    parameter_none (s.parameter n specifiers d) = head_none d

    pub head_none : (d : DeclrTree) → counts g r (head_visits ty d) ≡ 0
    head_none (s.declarator n count at tail init) = tail_none tail

  initial_none : (static : Bool) (x : MaybeInitTree) → counts g r (initial_visits ty static x) ≡ 0
  initial_none static s.no_initialiser = refl
  initial_none true (s.some_initialiser x) = refl
  initial_none false (s.some_initialiser x) = initialiser_none x

  declarator_none : (static : Bool) (d : DeclrTree) → counts g r (declarator_visits ty static d) ≡ 0
  declarator_none static (s.declarator n count at tail init) = omega (arith, tail_none tail, initial_none static init)

  declarators_none : (static : Bool) (ds : DeclrTrees) → counts g r (declarators_visits ty static ds) ≡ 0
  declarators_none static s.no_declarators = refl
  declarators_none static (s.then_declarator d ds) = omega (arith, declarator_none static d, declarators_none static ds)

  pub declaration_none : (d : DeclarationTree) → counts g r (declaration_visits ty d) ≡ 0
  declaration_none (s.declaration word specifiers ds) = declarators_none (is_static word) ds

  pub start_none : (x : StartTree) → counts g r (start_visits ty x) ≡ 0
  start_none (s.start_declaration d) = declaration_none d
  start_none (s.start_expression e) = maybe_none reading e

  label_none : (l : LabelTree) → counts g r (label_visits ty l) ≡ 0
  label_none s.default_label = refl
  label_none (s.case_label e) = expression_none reading e

  pub labels_none : (ls : LabelTrees) → counts g r (labels_visits ty ls) ≡ 0
  labels_none s.no_labels = refl
  labels_none (s.then_label l ls) = omega (arith, label_none l, labels_none ls)
