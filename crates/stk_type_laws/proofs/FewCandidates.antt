-- A function has at most four candidates for each visit that is evaluated, and at most as many of these as nodes.
use Rattle.std.proofs.Common.{ℕ, ◌≡◌, ◌+◌, ◌*◌, ◌≤◌, Bool, true, false, Option, Some, None, length, length-append, refl, arith}
use Rattle.stk_tree.specs.declared.node.Node.{Node}
use Rattle.stk_tree.specs.Syntax.{ExprTree, ExprTrees, MaybeExprTree, ExprFormTree, InitTree, MaybeInitTree, ItemTree, ItemTrees, DesigTrees, TypeNameTree, DimensionTrees, TailTree, ParamTree, ParamTrees, DeclrTree, DeclrTrees, DeclarationTree, StartTree, LabelTrees, StmtTree, StmtTrees, MaybeStmtTree, StmtFormTree, PartTree, PartTrees, SectionTree, SectionTrees, FunctionTree}
use Rattle.stk_tree.specs.Syntax as s
use Rattle.stk_tree.specs.Nodes.{declarators_nodes, initialiser_nodes, maybe_initialiser_nodes, item_nodes, items_nodes, expression_nodes, expressions_nodes, maybe_expression_nodes, expression_form_nodes, declaration_nodes, start_nodes, statement_nodes, statements_nodes, maybe_statement_nodes, statement_form_nodes, part_nodes, parts_nodes, section_nodes, sections_nodes, function_nodes, unit_nodes}
use Rattle.stk_tree.specs.Parts.{is_static}
use Rattle.stk_meaning.specs.Typings.{Typing, type_in}
use Rattle.stk_meaning.specs.Operations.{arithmetic, shifting, comparing, BinarySort, operates, joins, or_else, and_also, sort_of}
use Rattle.stk_meaning.specs.Replacements.{Replaced, replacement}
use Rattle.stk_meaning.specs.Visits.{Role, reading, as_arm, as_test, inside, inner_role, indexed_role, unary_role, left_role, right_role, assigned_role, Visit, at_expression, at_declarator, at_statement, at_section, Visits, no_visit, one_visit, both_visits, scope, unevaluated, collected, expression_visits, form_visits, arguments_visits, type_name_visits, dimensions_visits, maybe_visits, initialiser_visits, items_visits, item_visits, designators_visits, tail_visits, parameters_visits, parameter_visits, head_visits, initial_visits, declarators_visits, declaration_visits, start_visits, labels_visits, statement_visits, statement_form_visits, maybe_statement_visits, statements_visits, parts_visits, part_visits, sections_visits, section_visits}
use Rattle.stk_meaning.specs.Keys.{function_visits}
use Rattle.stk_meaning.specs.Lists.{arm_candidates, seen_candidates, replaced_candidates, binary_candidates, form_candidates, visit_candidates, candidates}

-- ---- the candidates of a visit

arms_few : (k : ℕ) (b : Bool) → length (arm_candidates k b) ≤ 1
arms_few k true = omega arith
arms_few k false = omega arith

seen_few : (k : ℕ) (b : Bool) → length (seen_candidates k b) ≤ 2
seen_few k true = omega arith
seen_few k false = omega arith

replaced_few : (k : ℕ) (o : Option Replaced) → length (replaced_candidates k o) ≤ 1
replaced_few k None = omega arith
replaced_few k (Some found) = omega arith

seen_fewer : (k : ℕ) (b : Bool) → length (seen_candidates k b) ≤ 3
seen_fewer k b = omega (arith, seen_few k b)

binary_few : (ty : Typing) (k : ℕ) (test : Bool) (sort : BinarySort) (a b : ExprTree) → length (binary_candidates ty k test sort a b) ≤ 3
binary_few ty k test (operates (arithmetic op)) a b = seen_fewer k test
binary_few ty k test (operates (shifting op)) a b = seen_fewer k test
binary_few ty k test (operates (comparing op)) a b = simp length-append (omega (arith, replaced_few k (replacement ty a b)))
binary_few ty k test joins a b = seen_fewer k test
binary_few ty k test or_else a b = seen_fewer k test
binary_few ty k test and_also a b = seen_fewer k test

form_few : (ty : Typing) (k : ℕ) (test : Bool) (f : ExprFormTree) → length (form_candidates ty k test f) ≤ 3
form_few ty k test (s.name at) = seen_fewer k test
form_few ty k test (s.number at) = seen_fewer k test
form_few ty k test (s.character at) = seen_fewer k test
form_few ty k test (s.text parts) = seen_fewer k test
form_few ty k test (s.paren e) = omega arith
form_few ty k test (s.index a b) = seen_fewer k test
form_few ty k test (s.call e es) = seen_fewer k test
form_few ty k test (s.dot e at) = seen_fewer k test
form_few ty k test (s.arrow e at) = seen_fewer k test
form_few ty k test (s.step op e) = seen_fewer k test
form_few ty k test (s.unary op e) = seen_fewer k test
form_few ty k test (s.size_expression e) = seen_fewer k test
form_few ty k test (s.size_name t) = seen_fewer k test
form_few ty k test (s.cast t e) = seen_fewer k test
form_few ty k test (s.binary op a b) = binary_few ty k test (sort_of op) a b
form_few ty k test (s.choice a b c) = seen_fewer k test
form_few ty k test (s.assign op a b) = seen_fewer k test

visit_few : (ty : Typing) (x : Visit) → length (visit_candidates ty x) ≤ 4
visit_few ty (at_expression k role f) = simp length-append (omega (arith, arms_few k role.is_arm, form_few ty k role.is_test f))
visit_few ty (at_declarator k static at init) = omega arith
visit_few ty (at_statement k arm f) = omega (arith, arms_few k arm)
visit_few ty (at_section k ls) = omega arith

-- ---- the visits that are evaluated

abbrev visits : Visits → ℕ
visits no_visit = 0
visits (one_visit x) = 1
visits (both_visits a b) = visits a + visits b
visits (scope ks a) = visits a
visits (unevaluated a) = 0

collected_few : (ty : Typing) (v : Visits) → length (collected (visit_candidates ty) v) ≤ 4 * visits v
collected_few ty no_visit = omega arith
collected_few ty (one_visit x) = omega (arith, visit_few ty x)
collected_few ty (both_visits a b) = simp length-append (omega (arith, collected_few ty a, collected_few ty b))
collected_few ty (scope ks a) = collected_few ty a
collected_few ty (unevaluated a) = omega arith

-- ---- what isn't evaluated: sizes of arrays, designators and case labels

dimensions_none : (ty : Typing) (ds : DimensionTrees) → visits (dimensions_visits ty ds) ≡ 0
dimensions_none ty s.no_dimensions = refl
dimensions_none ty (s.then_dimension s.open_dimension ds) = omega (arith, dimensions_none ty ds)
dimensions_none ty (s.then_dimension (s.sized e) ds) = omega (arith, dimensions_none ty ds)

type_name_none : (ty : Typing) (t : TypeNameTree) → visits (type_name_visits ty t) ≡ 0
type_name_none ty (s.type_name n specifiers count ds) = dimensions_none ty ds

designators_none : (ty : Typing) (ds : DesigTrees) → visits (designators_visits ty ds) ≡ 0
designators_none ty s.no_designators = refl
designators_none ty (s.then_designator (s.dot_designator at) ds) = omega (arith, designators_none ty ds)
designators_none ty (s.then_designator (s.at_designator e) ds) = omega (arith, designators_none ty ds)

labels_none : (ty : Typing) (ls : LabelTrees) → visits (labels_visits ty ls) ≡ 0
labels_none ty s.no_labels = refl
labels_none ty (s.then_label s.default_label ls) = omega (arith, labels_none ty ls)
labels_none ty (s.then_label (s.case_label e) ls) = omega (arith, labels_none ty ls)

mutual
  tail_none : (ty : Typing) (t : TailTree) → visits (tail_visits ty t) ≡ 0
  tail_none ty (s.arrays ds) = dimensions_none ty ds
  tail_none ty s.unspecified = refl
  tail_none ty s.void_parameters = refl
  tail_none ty (s.with_parameters ps more) = parameters_none ty ps

  parameters_none : (ty : Typing) (ps : ParamTrees) → visits (parameters_visits ty ps) ≡ 0
  parameters_none ty s.no_parameters = refl
  parameters_none ty (s.then_parameter p ps) = omega (arith, parameter_none ty p, parameters_none ty ps)

  parameter_none : (ty : Typing) (p : ParamTree) → visits (parameter_visits ty p) ≡ 0
  parameter_none ty (s.parameter n specifiers d) = head_none ty d

  head_none : (ty : Typing) (d : DeclrTree) → visits (head_visits ty d) ≡ 0
  head_none ty (s.declarator n count at tail init) = tail_none ty tail

-- ---- at most one visit for each node

mutual
  expression_count_is_low : (ty : Typing) (role : Role) (e : ExprTree) → visits (expression_visits ty role e) ≤ expression_nodes e
  expression_count_is_low ty role (s.expression n f) = omega (arith, form_count_is_low ty n.number role f)

  form_count_is_low : (ty : Typing) (k : ℕ) (role : Role) (f : ExprFormTree) → visits (form_visits ty k role f) ≤ expression_form_nodes f
  form_count_is_low ty k role (s.name at) = omega arith
  form_count_is_low ty k role (s.number at) = omega arith
  form_count_is_low ty k role (s.character at) = omega arith
  form_count_is_low ty k role (s.text parts) = omega arith
  form_count_is_low ty k role (s.paren e) = expression_count_is_low ty (inside role) e
  form_count_is_low ty k role (s.index a b) = omega (arith, expression_count_is_low ty (indexed_role (ty.type_at k) (type_in ty a) role.use_of) a, expression_count_is_low ty reading b)
  form_count_is_low ty k role (s.call e es) = omega (arith, arguments_count_is_low ty es)
  form_count_is_low ty k role (s.dot e at) = expression_count_is_low ty (inner_role (ty.type_at k) role.use_of) e
  form_count_is_low ty k role (s.arrow e at) = expression_count_is_low ty reading e
  form_count_is_low ty k role (s.step op e) = expression_count_is_low ty reading e
  form_count_is_low ty k role (s.unary op e) = expression_count_is_low ty (unary_role op) e
  form_count_is_low ty k role (s.size_expression e) = omega arith
  form_count_is_low ty k role (s.size_name t) = omega (arith, type_name_none ty t)
  form_count_is_low ty k role (s.cast t e) = omega (arith, type_name_none ty t, expression_count_is_low ty reading e)
  form_count_is_low ty k role (s.binary op a b) = omega (arith, expression_count_is_low ty (left_role op) a, expression_count_is_low ty (right_role op) b)
  form_count_is_low ty k role (s.choice a b c) = omega (arith, expression_count_is_low ty as_test a, expression_count_is_low ty as_arm b, expression_count_is_low ty as_arm c)
  form_count_is_low ty k role (s.assign op a b) = omega (arith, expression_count_is_low ty (assigned_role op) a, expression_count_is_low ty reading b)

  arguments_count_is_low : (ty : Typing) (es : ExprTrees) → visits (arguments_visits ty es) ≤ expressions_nodes es
  arguments_count_is_low ty s.no_expressions = omega arith
  arguments_count_is_low ty (s.then_expression e es) = omega (arith, expression_count_is_low ty reading e, arguments_count_is_low ty es)

maybe_count_is_low : (ty : Typing) (role : Role) (e : MaybeExprTree) → visits (maybe_visits ty role e) ≤ maybe_expression_nodes e
maybe_count_is_low ty role s.no_expression = omega arith
maybe_count_is_low ty role (s.some_expression e) = expression_count_is_low ty role e

mutual
  initialiser_count_is_low : (ty : Typing) (x : InitTree) → visits (initialiser_visits ty x) ≤ initialiser_nodes x
  initialiser_count_is_low ty (s.plain e) = expression_count_is_low ty reading e
  initialiser_count_is_low ty (s.braces items comma) = items_count_is_low ty items

  items_count_is_low : (ty : Typing) (xs : ItemTrees) → visits (items_visits ty xs) ≤ items_nodes xs
  items_count_is_low ty s.no_items = omega arith
  items_count_is_low ty (s.then_item x xs) = omega (arith, item_count_is_low ty x, items_count_is_low ty xs)

  item_count_is_low : (ty : Typing) (x : ItemTree) → visits (item_visits ty x) ≤ item_nodes x
  item_count_is_low ty (s.item path x) = omega (arith, designators_none ty path, initialiser_count_is_low ty x)

initial_count_is_low : (ty : Typing) (static : Bool) (x : MaybeInitTree) → visits (initial_visits ty static x) ≤ maybe_initialiser_nodes x
initial_count_is_low ty static s.no_initialiser = omega arith
initial_count_is_low ty true (s.some_initialiser x) = omega arith
initial_count_is_low ty false (s.some_initialiser x) = initialiser_count_is_low ty x

declarators_count_is_low : (ty : Typing) (static : Bool) (ds : DeclrTrees) → visits (declarators_visits ty static ds) ≤ declarators_nodes ds
declarators_count_is_low ty static s.no_declarators = omega arith
declarators_count_is_low ty static (s.then_declarator (s.declarator n count at tail init) ds) = omega (arith, tail_none ty tail, initial_count_is_low ty static init, declarators_count_is_low ty static ds)

declaration_count_is_low : (ty : Typing) (d : DeclarationTree) → visits (declaration_visits ty d) ≤ declaration_nodes d
declaration_count_is_low ty (s.declaration word specifiers ds) = omega (arith, declarators_count_is_low ty (is_static word) ds)

start_count_is_low : (ty : Typing) (x : StartTree) → visits (start_visits ty x) ≤ start_nodes x
start_count_is_low ty (s.start_declaration d) = declaration_count_is_low ty d
start_count_is_low ty (s.start_expression e) = maybe_count_is_low ty reading e

mutual
  statement_count_is_low : (ty : Typing) (arm : Bool) (x : StmtTree) → visits (statement_visits ty arm x) ≤ statement_nodes x
  statement_count_is_low ty arm (s.statement n f) = omega (arith, statement_form_count_is_low ty f)

  statement_form_count_is_low : (ty : Typing) (f : StmtFormTree) → visits (statement_form_visits ty f) ≤ statement_form_nodes f
  statement_form_count_is_low ty (s.block ps) = parts_count_is_low ty ps
  statement_form_count_is_low ty (s.expression_statement e) = maybe_count_is_low ty reading e
  statement_form_count_is_low ty (s.if_statement e x y) = omega (arith, expression_count_is_low ty as_test e, statement_count_is_low ty true x, maybe_statement_count_is_low ty y)
  statement_form_count_is_low ty (s.switch_statement e ss) = omega (arith, expression_count_is_low ty reading e, sections_count_is_low ty ss)
  statement_form_count_is_low ty (s.while_statement e x) = omega (arith, expression_count_is_low ty as_test e, statement_count_is_low ty true x)
  statement_form_count_is_low ty (s.do_statement x e) = omega (arith, statement_count_is_low ty true x, expression_count_is_low ty as_test e)
  statement_form_count_is_low ty (s.for_statement first test step x) = omega (arith, start_count_is_low ty first, maybe_count_is_low ty as_test test, maybe_count_is_low ty reading step, statement_count_is_low ty true x)
  statement_form_count_is_low ty s.break_statement = omega arith
  statement_form_count_is_low ty s.continue_statement = omega arith
  statement_form_count_is_low ty (s.return_statement e) = maybe_count_is_low ty reading e

  maybe_statement_count_is_low : (ty : Typing) (x : MaybeStmtTree) → visits (maybe_statement_visits ty x) ≤ maybe_statement_nodes x
  maybe_statement_count_is_low ty s.no_statement = omega arith
  maybe_statement_count_is_low ty (s.some_statement x) = statement_count_is_low ty true x

  statements_count_is_low : (ty : Typing) (xs : StmtTrees) → visits (statements_visits ty xs) ≤ statements_nodes xs
  statements_count_is_low ty s.no_statements = omega arith
  statements_count_is_low ty (s.then_statement x xs) = omega (arith, statement_count_is_low ty false x, statements_count_is_low ty xs)

  parts_count_is_low : (ty : Typing) (ps : PartTrees) → visits (parts_visits ty ps) ≤ parts_nodes ps
  parts_count_is_low ty s.no_parts = omega arith
  parts_count_is_low ty (s.then_part p ps) = omega (arith, part_count_is_low ty p, parts_count_is_low ty ps)

  part_count_is_low : (ty : Typing) (p : PartTree) → visits (part_visits ty p) ≤ part_nodes p
  part_count_is_low ty (s.local d) = declaration_count_is_low ty d
  part_count_is_low ty (s.run x) = statement_count_is_low ty false x

  sections_count_is_low : (ty : Typing) (xs : SectionTrees) → visits (sections_visits ty xs) ≤ sections_nodes xs
  sections_count_is_low ty s.no_sections = omega arith
  sections_count_is_low ty (s.then_section x xs) = omega (arith, section_count_is_low ty x, sections_count_is_low ty xs)

  section_count_is_low : (ty : Typing) (x : SectionTree) → visits (section_visits ty x) ≤ section_nodes x
  section_count_is_low ty (s.section n ls body) = omega (arith, labels_none ty ls, statements_count_is_low ty body)

function_count_is_low : (ty : Typing) (f : FunctionTree) → visits (function_visits ty f) ≤ function_nodes f
function_count_is_low ty (s.function word specifiers d body) = omega (arith, head_none ty d, statement_count_is_low ty false body)

pub few_candidates : (ty : Typing) (f : FunctionTree) (n : Node) → length (candidates ty f) ≤ 4 * unit_nodes (s.defines n f)
few_candidates ty f n = omega (arith, collected_few ty (function_visits ty f), function_count_is_low ty f)
