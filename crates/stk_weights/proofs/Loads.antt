-- A function has at most as many visits as nodes, and labels beside them.
use Rattle.std.proofs.Common.{ℕ, ◌+◌, ◌*◌, ◌≤◌, Bool, true, false, arith}
use Rattle.stk_tree.specs.Syntax.{ExprTree, ExprTrees, MaybeExprTree, ExprFormTree, InitTree, MaybeInitTree, ItemTree, ItemTrees, DesigTree, DesigTrees, TypeNameTree, DimensionTree, DimensionTrees, TailTree, ParamTree, ParamTrees, DeclrTree, DeclrTrees, DeclarationTree, StartTree, LabelTree, LabelTrees, StmtTree, StmtTrees, MaybeStmtTree, StmtFormTree, PartTree, PartTrees, SectionTree, SectionTrees, FunctionTree}
use Rattle.stk_tree.specs.Syntax as s
use Rattle.stk_tree.specs.Nodes.{declarator_nodes, declarators_nodes, tail_nodes, dimension_nodes, dimensions_nodes, parameter_nodes, parameters_nodes, type_name_nodes, initialiser_nodes, maybe_initialiser_nodes, item_nodes, items_nodes, designator_nodes, designators_nodes, expression_nodes, expressions_nodes, maybe_expression_nodes, expression_form_nodes, declaration_nodes, start_nodes, label_nodes, labels_nodes, statement_nodes, statements_nodes, maybe_statement_nodes, statement_form_nodes, part_nodes, parts_nodes, section_nodes, sections_nodes, function_nodes}
use Rattle.stk_tree.specs.Parts.{is_static}
use Rattle.stk_meaning.specs.Typings.{Typing, type_in}
use Rattle.stk_meaning.specs.Visits.{Role, reading, as_arm, as_test, inside, inner_role, indexed_role, unary_role, left_role, right_role, assigned_role, expression_visits, form_visits, arguments_visits, type_name_visits, dimensions_visits, dimension_visits, maybe_visits, initialiser_visits, items_visits, item_visits, designators_visits, designator_visits, tail_visits, parameters_visits, parameter_visits, head_visits, initial_visits, declarator_visits, declarators_visits, declaration_visits, start_visits, label_visits, labels_visits, statement_visits, statement_form_visits, maybe_statement_visits, statements_visits, parts_visits, part_visits, sections_visits, section_visits}
use Rattle.stk_meaning.specs.Keys.{function_visits}
use Rattle.stk_weights.specs.Loads.{cases_at, cases_in, load}

mutual
  pub expression_few : (ty : Typing) (role : Role) (e : ExprTree) → load (expression_visits ty role e) ≤ expression_nodes e
  expression_few ty role (s.expression n f) = omega (arith, form_few ty n.number role f)

  pub form_few : (ty : Typing) (k : ℕ) (role : Role) (f : ExprFormTree) → load (form_visits ty k role f) ≤ expression_form_nodes f
  form_few ty k role (s.name at) = omega arith
  form_few ty k role (s.number at) = omega arith
  form_few ty k role (s.character at) = omega arith
  form_few ty k role (s.text parts) = omega arith
  form_few ty k role (s.paren e) = expression_few ty (inside role) e
  form_few ty k role (s.index a b) = omega (arith, expression_few ty (indexed_role (ty.type_at k) (type_in ty a) role.use_of) a, expression_few ty reading b)
  form_few ty k role (s.call e es) = omega (arith, arguments_few ty es)
  form_few ty k role (s.dot e at) = expression_few ty (inner_role (ty.type_at k) role.use_of) e
  form_few ty k role (s.arrow e at) = expression_few ty reading e
  form_few ty k role (s.step op e) = expression_few ty reading e
  form_few ty k role (s.unary op e) = expression_few ty (unary_role op) e
  form_few ty k role (s.size_expression e) = expression_few ty reading e
  form_few ty k role (s.size_name t) = type_name_few ty t
  form_few ty k role (s.cast t e) = omega (arith, type_name_few ty t, expression_few ty reading e)
  form_few ty k role (s.binary op a b) = omega (arith, expression_few ty (left_role op) a, expression_few ty (right_role op) b)
  form_few ty k role (s.choice a b c) = omega (arith, expression_few ty as_test a, expression_few ty as_arm b, expression_few ty as_arm c)
  form_few ty k role (s.assign op a b) = omega (arith, expression_few ty (assigned_role op) a, expression_few ty reading b)

  pub arguments_few : (ty : Typing) (es : ExprTrees) → load (arguments_visits ty es) ≤ expressions_nodes es
  arguments_few ty s.no_expressions = omega arith
  arguments_few ty (s.then_expression e es) = omega (arith, expression_few ty reading e, arguments_few ty es)

  pub type_name_few : (ty : Typing) (t : TypeNameTree) → load (type_name_visits ty t) ≤ type_name_nodes t
  type_name_few ty (s.type_name n specifiers count ds) = omega (arith, dimensions_few ty ds)

  pub dimensions_few : (ty : Typing) (ds : DimensionTrees) → load (dimensions_visits ty ds) ≤ dimensions_nodes ds
  dimensions_few ty s.no_dimensions = omega arith
  dimensions_few ty (s.then_dimension d ds) = omega (arith, dimension_few ty d, dimensions_few ty ds)

  pub dimension_few : (ty : Typing) (d : DimensionTree) → load (dimension_visits ty d) ≤ dimension_nodes d
  dimension_few ty s.open_dimension = omega arith
  dimension_few ty (s.sized e) = expression_few ty reading e

maybe_few : (ty : Typing) (role : Role) (e : MaybeExprTree) → load (maybe_visits ty role e) ≤ maybe_expression_nodes e
maybe_few ty role s.no_expression = omega arith
maybe_few ty role (s.some_expression e) = expression_few ty role e

mutual
  initialiser_few : (ty : Typing) (x : InitTree) → load (initialiser_visits ty x) ≤ initialiser_nodes x
  initialiser_few ty (s.plain e) = expression_few ty reading e
  initialiser_few ty (s.braces items comma) = items_few ty items

  items_few : (ty : Typing) (xs : ItemTrees) → load (items_visits ty xs) ≤ items_nodes xs
  items_few ty s.no_items = omega arith
  items_few ty (s.then_item x xs) = omega (arith, item_few ty x, items_few ty xs)

  item_few : (ty : Typing) (x : ItemTree) → load (item_visits ty x) ≤ item_nodes x
  item_few ty (s.item path x) = omega (arith, designators_few ty path, initialiser_few ty x)

  designators_few : (ty : Typing) (ds : DesigTrees) → load (designators_visits ty ds) ≤ designators_nodes ds
  designators_few ty s.no_designators = omega arith
  designators_few ty (s.then_designator d ds) = omega (arith, designator_few ty d, designators_few ty ds)

  designator_few : (ty : Typing) (d : DesigTree) → load (designator_visits ty d) ≤ designator_nodes d
  designator_few ty (s.dot_designator at) = omega arith
  designator_few ty (s.at_designator e) = expression_few ty reading e

mutual
  tail_few : (ty : Typing) (t : TailTree) → load (tail_visits ty t) ≤ tail_nodes t
  tail_few ty (s.arrays ds) = dimensions_few ty ds
  tail_few ty s.unspecified = omega arith
  tail_few ty s.void_parameters = omega arith
  tail_few ty (s.with_parameters ps more) = parameters_few ty ps

  parameters_few : (ty : Typing) (ps : ParamTrees) → load (parameters_visits ty ps) ≤ parameters_nodes ps
  parameters_few ty s.no_parameters = omega arith
  parameters_few ty (s.then_parameter p ps) = omega (arith, parameter_few ty p, parameters_few ty ps)

  parameter_few : (ty : Typing) (p : ParamTree) → load (parameter_visits ty p) ≤ parameter_nodes p
  parameter_few ty (s.parameter n specifiers d) = omega (arith, head_few ty d)

  head_few : (ty : Typing) (d : DeclrTree) → load (head_visits ty d) ≤ declarator_nodes d
  head_few ty (s.declarator n count at tail init) = omega (arith, tail_few ty tail)

initial_few : (ty : Typing) (static : Bool) (x : MaybeInitTree) → load (initial_visits ty static x) ≤ maybe_initialiser_nodes x
initial_few ty static s.no_initialiser = omega arith
initial_few ty true (s.some_initialiser x) = omega arith
initial_few ty false (s.some_initialiser x) = initialiser_few ty x

declarator_few : (ty : Typing) (static : Bool) (d : DeclrTree) → load (declarator_visits ty static d) ≤ declarator_nodes d
declarator_few ty static (s.declarator n count at tail init) = omega (arith, tail_few ty tail, initial_few ty static init)

declarators_few : (ty : Typing) (static : Bool) (ds : DeclrTrees) → load (declarators_visits ty static ds) ≤ declarators_nodes ds
declarators_few ty static s.no_declarators = omega arith
declarators_few ty static (s.then_declarator d ds) = omega (arith, declarator_few ty static d, declarators_few ty static ds)

declaration_few : (ty : Typing) (d : DeclarationTree) → load (declaration_visits ty d) ≤ declaration_nodes d
declaration_few ty (s.declaration word specifiers ds) = omega (arith, declarators_few ty (is_static word) ds)

start_few : (ty : Typing) (x : StartTree) → load (start_visits ty x) ≤ start_nodes x
start_few ty (s.start_declaration d) = declaration_few ty d
start_few ty (s.start_expression e) = maybe_few ty reading e

label_few : (ty : Typing) (l : LabelTree) → load (label_visits ty l) + cases_at l ≤ 2 * label_nodes l
label_few ty s.default_label = omega arith
label_few ty (s.case_label (s.expression n f)) = omega (arith, form_few ty n.number reading f)

labels_few : (ty : Typing) (ls : LabelTrees) → load (labels_visits ty ls) + cases_in ls ≤ 2 * labels_nodes ls
labels_few ty s.no_labels = omega arith
labels_few ty (s.then_label l ls) = omega (arith, label_few ty l, labels_few ty ls)

mutual
  pub statement_few : (ty : Typing) (arm : Bool) (x : StmtTree) → load (statement_visits ty arm x) ≤ 2 * statement_nodes x
  statement_few ty arm (s.statement n f) = omega (arith, statement_form_few ty f)

  pub statement_form_few : (ty : Typing) (f : StmtFormTree) → load (statement_form_visits ty f) ≤ 2 * statement_form_nodes f
  statement_form_few ty (s.block ps) = parts_few ty ps
  statement_form_few ty (s.expression_statement e) = omega (arith, maybe_few ty reading e)
  statement_form_few ty (s.if_statement e x y) = omega (arith, expression_few ty as_test e, statement_few ty true x, maybe_statement_few ty y)
  statement_form_few ty (s.switch_statement e ss) = omega (arith, expression_few ty reading e, sections_few ty ss)
  statement_form_few ty (s.while_statement e x) = omega (arith, expression_few ty as_test e, statement_few ty true x)
  statement_form_few ty (s.do_statement x e) = omega (arith, statement_few ty true x, expression_few ty as_test e)
  statement_form_few ty (s.for_statement first test step x) = omega (arith, start_few ty first, maybe_few ty as_test test, maybe_few ty reading step, statement_few ty true x)
  statement_form_few ty s.break_statement = omega arith
  statement_form_few ty s.continue_statement = omega arith
  statement_form_few ty (s.return_statement e) = omega (arith, maybe_few ty reading e)

  pub maybe_statement_few : (ty : Typing) (x : MaybeStmtTree) → load (maybe_statement_visits ty x) ≤ 2 * maybe_statement_nodes x
  maybe_statement_few ty s.no_statement = omega arith
  maybe_statement_few ty (s.some_statement x) = statement_few ty true x

  pub statements_few : (ty : Typing) (xs : StmtTrees) → load (statements_visits ty xs) ≤ 2 * statements_nodes xs
  statements_few ty s.no_statements = omega arith
  statements_few ty (s.then_statement x xs) = omega (arith, statement_few ty false x, statements_few ty xs)

  pub parts_few : (ty : Typing) (ps : PartTrees) → load (parts_visits ty ps) ≤ 2 * parts_nodes ps
  parts_few ty s.no_parts = omega arith
  parts_few ty (s.then_part p ps) = omega (arith, part_few ty p, parts_few ty ps)

  pub part_few : (ty : Typing) (p : PartTree) → load (part_visits ty p) ≤ 2 * part_nodes p
  part_few ty (s.local d) = omega (arith, declaration_few ty d)
  part_few ty (s.run x) = statement_few ty false x

  pub sections_few : (ty : Typing) (xs : SectionTrees) → load (sections_visits ty xs) ≤ 2 * sections_nodes xs
  sections_few ty s.no_sections = omega arith
  sections_few ty (s.then_section x xs) = omega (arith, section_few ty x, sections_few ty xs)

  pub section_few : (ty : Typing) (x : SectionTree) → load (section_visits ty x) ≤ 2 * section_nodes x
  section_few ty (s.section n ls body) = omega (arith, labels_few ty ls, statements_few ty body)

-- of a whole function
pub function_few : (ty : Typing) (f : FunctionTree) → load (function_visits ty f) ≤ 2 * function_nodes f
function_few ty (s.function word specifiers d body) = omega (arith, head_few ty d, statement_few ty false body)
