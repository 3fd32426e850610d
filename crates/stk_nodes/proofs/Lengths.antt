-- A tree has as many nodes in its row as it has nodes.
use Rattle.std.proofs.Common.{◌≡◌, length, refl, length-append, arith}
use Rattle.stk_tree.specs.Syntax.{BaseTree, BaseFormTree, MemberTree, MemberTrees, EnumrTree, EnumrTrees, DeclrTree, DeclrTrees, TailTree, DimensionTree, DimensionTrees, ParamTree, ParamTrees, TypeNameTree, InitTree, MaybeInitTree, ItemTree, ItemTrees, DesigTree, DesigTrees, ExprTree, ExprTrees, MaybeExprTree, ExprFormTree}
use Rattle.stk_tree.specs.Syntax.{DeclarationTree, StartTree, LabelTree, LabelTrees, StmtTree, StmtTrees, MaybeStmtTree, StmtFormTree, PartTree, PartTrees, SectionTree, SectionTrees, FunctionTree, UnitTree}
use Rattle.stk_tree.specs.Syntax as s
use Rattle.stk_tree.specs.Nodes.{base_nodes, base_form_nodes, member_nodes, members_nodes, enumerator_nodes, enumerators_nodes, declarator_nodes, declarators_nodes, tail_nodes, dimension_nodes, dimensions_nodes, parameter_nodes, parameters_nodes, type_name_nodes, initialiser_nodes, maybe_initialiser_nodes, item_nodes, items_nodes, designator_nodes, designators_nodes, expression_nodes, expressions_nodes, maybe_expression_nodes, expression_form_nodes, declaration_nodes, start_nodes, label_nodes, labels_nodes, statement_nodes, statements_nodes, maybe_statement_nodes, statement_form_nodes, part_nodes, parts_nodes, section_nodes, sections_nodes, function_nodes, unit_nodes}
use Rattle.stk_nodes.specs.Rows.{base_row, base_form_row, member_row, members_row, enumerator_row, enumerators_row, declarator_row, declarators_row, tail_row, dimension_row, dimensions_row, parameter_row, parameters_row, type_name_row, initialiser_row, maybe_initialiser_row, item_row, items_row, designator_row, designators_row, expression_row, expressions_row, maybe_expression_row, expression_form_row, declaration_row, start_row, label_row, labels_row, statement_row, statements_row, maybe_statement_row, statement_form_row, part_row, parts_row, section_row, sections_row, function_row, unit_row}

mutual
  pub base_row-length : (x : BaseTree) → length (base_row x) ≡ base_nodes x
  base_row-length (s.base n f) = simp length-append (omega (arith, base_form_row-length f))

  pub base_form_row-length : (x : BaseFormTree) → length (base_form_row x) ≡ base_form_nodes x
  base_form_row-length (s.words ws) = refl
  base_form_row-length (s.struct_ref tag) = refl
  base_form_row-length (s.struct_def tag ms) = members_row-length ms
  base_form_row-length (s.enum_ref tag) = refl
  base_form_row-length (s.enum_def tag es comma) = enumerators_row-length es
  base_form_row-length (s.named at) = refl

  pub member_row-length : (x : MemberTree) → length (member_row x) ≡ member_nodes x
  member_row-length (s.member b ds) = simp length-append (omega (arith, base_row-length b, declarators_row-length ds))

  pub members_row-length : (x : MemberTrees) → length (members_row x) ≡ members_nodes x
  members_row-length s.no_members = refl
  members_row-length (s.then_member x xs) = simp length-append (omega (arith, member_row-length x, members_row-length xs))

  pub enumerator_row-length : (x : EnumrTree) → length (enumerator_row x) ≡ enumerator_nodes x
  enumerator_row-length (s.enumerator at e) = maybe_expression_row-length e

  pub enumerators_row-length : (x : EnumrTrees) → length (enumerators_row x) ≡ enumerators_nodes x
  enumerators_row-length s.no_enumerators = refl
  enumerators_row-length (s.then_enumerator x xs) = simp length-append (omega (arith, enumerator_row-length x, enumerators_row-length xs))

  pub declarator_row-length : (x : DeclrTree) → length (declarator_row x) ≡ declarator_nodes x
  declarator_row-length (s.declarator n count at t i) = simp length-append (omega (arith, tail_row-length t, maybe_initialiser_row-length i))

  pub declarators_row-length : (x : DeclrTrees) → length (declarators_row x) ≡ declarators_nodes x
  declarators_row-length s.no_declarators = refl
  declarators_row-length (s.then_declarator x xs) = simp length-append (omega (arith, declarator_row-length x, declarators_row-length xs))

  pub tail_row-length : (x : TailTree) → length (tail_row x) ≡ tail_nodes x
  tail_row-length (s.arrays ds) = dimensions_row-length ds
  tail_row-length s.unspecified = refl
  tail_row-length s.void_parameters = refl
  tail_row-length (s.with_parameters ps more) = parameters_row-length ps

  pub dimension_row-length : (x : DimensionTree) → length (dimension_row x) ≡ dimension_nodes x
  dimension_row-length s.open_dimension = refl
  dimension_row-length (s.sized e) = expression_row-length e

  pub dimensions_row-length : (x : DimensionTrees) → length (dimensions_row x) ≡ dimensions_nodes x
  dimensions_row-length s.no_dimensions = refl
  dimensions_row-length (s.then_dimension x xs) = simp length-append (omega (arith, dimension_row-length x, dimensions_row-length xs))

  pub parameter_row-length : (x : ParamTree) → length (parameter_row x) ≡ parameter_nodes x
  parameter_row-length (s.parameter n b d) = simp length-append (omega (arith, base_row-length b, declarator_row-length d))

  pub parameters_row-length : (x : ParamTrees) → length (parameters_row x) ≡ parameters_nodes x
  parameters_row-length s.no_parameters = refl
  parameters_row-length (s.then_parameter x xs) = simp length-append (omega (arith, parameter_row-length x, parameters_row-length xs))

  pub type_name_row-length : (x : TypeNameTree) → length (type_name_row x) ≡ type_name_nodes x
  type_name_row-length (s.type_name n b count ds) = simp length-append (omega (arith, base_row-length b, dimensions_row-length ds))

  pub initialiser_row-length : (x : InitTree) → length (initialiser_row x) ≡ initialiser_nodes x
  initialiser_row-length (s.plain e) = expression_row-length e
  initialiser_row-length (s.braces is comma) = items_row-length is

  pub maybe_initialiser_row-length : (x : MaybeInitTree) → length (maybe_initialiser_row x) ≡ maybe_initialiser_nodes x
  maybe_initialiser_row-length s.no_initialiser = refl
  maybe_initialiser_row-length (s.some_initialiser i) = initialiser_row-length i

  pub item_row-length : (x : ItemTree) → length (item_row x) ≡ item_nodes x
  item_row-length (s.item ds i) = simp length-append (omega (arith, designators_row-length ds, initialiser_row-length i))

  pub items_row-length : (x : ItemTrees) → length (items_row x) ≡ items_nodes x
  items_row-length s.no_items = refl
  items_row-length (s.then_item x xs) = simp length-append (omega (arith, item_row-length x, items_row-length xs))

  pub designator_row-length : (x : DesigTree) → length (designator_row x) ≡ designator_nodes x
  designator_row-length (s.dot_designator at) = refl
  designator_row-length (s.at_designator e) = expression_row-length e

  pub designators_row-length : (x : DesigTrees) → length (designators_row x) ≡ designators_nodes x
  designators_row-length s.no_designators = refl
  designators_row-length (s.then_designator x xs) = simp length-append (omega (arith, designator_row-length x, designators_row-length xs))

  pub expression_row-length : (x : ExprTree) → length (expression_row x) ≡ expression_nodes x
  expression_row-length (s.expression n f) = simp length-append (omega (arith, expression_form_row-length f))

  pub expressions_row-length : (x : ExprTrees) → length (expressions_row x) ≡ expressions_nodes x
  expressions_row-length s.no_expressions = refl
  expressions_row-length (s.then_expression x xs) = simp length-append (omega (arith, expression_row-length x, expressions_row-length xs))

  pub maybe_expression_row-length : (x : MaybeExprTree) → length (maybe_expression_row x) ≡ maybe_expression_nodes x
  maybe_expression_row-length s.no_expression = refl
  maybe_expression_row-length (s.some_expression e) = expression_row-length e

  pub expression_form_row-length : (x : ExprFormTree) → length (expression_form_row x) ≡ expression_form_nodes x
  expression_form_row-length (s.name at) = refl
  expression_form_row-length (s.number at) = refl
  expression_form_row-length (s.character at) = refl
  expression_form_row-length (s.text parts) = refl
  expression_form_row-length (s.paren e) = expression_row-length e
  expression_form_row-length (s.index a b) = simp length-append (omega (arith, expression_row-length a, expression_row-length b))
  expression_form_row-length (s.call f args) = simp length-append (omega (arith, expression_row-length f, expressions_row-length args))
  expression_form_row-length (s.dot e at) = expression_row-length e
  expression_form_row-length (s.arrow e at) = expression_row-length e
  expression_form_row-length (s.step op e) = expression_row-length e
  expression_form_row-length (s.unary op e) = expression_row-length e
  expression_form_row-length (s.size_expression e) = expression_row-length e
  expression_form_row-length (s.size_name t) = type_name_row-length t
  expression_form_row-length (s.cast t e) = simp length-append (omega (arith, type_name_row-length t, expression_row-length e))
  expression_form_row-length (s.binary op a b) = simp length-append (omega (arith, expression_row-length a, expression_row-length b))
  expression_form_row-length (s.choice a b c) = simp length-append (omega (arith, expression_row-length a, expression_row-length b, expression_row-length c))
  expression_form_row-length (s.assign op a b) = simp length-append (omega (arith, expression_row-length a, expression_row-length b))

pub declaration_row-length : (x : DeclarationTree) → length (declaration_row x) ≡ declaration_nodes x
declaration_row-length (s.declaration word b ds) = simp length-append (omega (arith, base_row-length b, declarators_row-length ds))

pub start_row-length : (x : StartTree) → length (start_row x) ≡ start_nodes x
start_row-length (s.start_declaration d) = declaration_row-length d
start_row-length (s.start_expression e) = maybe_expression_row-length e

pub label_row-length : (x : LabelTree) → length (label_row x) ≡ label_nodes x
label_row-length s.default_label = refl
label_row-length (s.case_label e) = expression_row-length e

pub labels_row-length : (x : LabelTrees) → length (labels_row x) ≡ labels_nodes x
labels_row-length s.no_labels = refl
labels_row-length (s.then_label x xs) = simp length-append (omega (arith, label_row-length x, labels_row-length xs))

mutual
  pub statement_row-length : (x : StmtTree) → length (statement_row x) ≡ statement_nodes x
  statement_row-length (s.statement n f) = simp length-append (omega (arith, statement_form_row-length f))

  pub statements_row-length : (x : StmtTrees) → length (statements_row x) ≡ statements_nodes x
  statements_row-length s.no_statements = refl
  statements_row-length (s.then_statement x xs) = simp length-append (omega (arith, statement_row-length x, statements_row-length xs))

  pub maybe_statement_row-length : (x : MaybeStmtTree) → length (maybe_statement_row x) ≡ maybe_statement_nodes x
  maybe_statement_row-length s.no_statement = refl
  maybe_statement_row-length (s.some_statement x) = statement_row-length x

  pub statement_form_row-length : (x : StmtFormTree) → length (statement_form_row x) ≡ statement_form_nodes x
  statement_form_row-length (s.block ps) = parts_row-length ps
  statement_form_row-length (s.expression_statement e) = maybe_expression_row-length e
  statement_form_row-length (s.if_statement e x other) = simp length-append (omega (arith, expression_row-length e, statement_row-length x, maybe_statement_row-length other))
  statement_form_row-length (s.switch_statement e xs) = simp length-append (omega (arith, expression_row-length e, sections_row-length xs))
  statement_form_row-length (s.while_statement e x) = simp length-append (omega (arith, expression_row-length e, statement_row-length x))
  statement_form_row-length (s.do_statement x e) = simp length-append (omega (arith, statement_row-length x, expression_row-length e))
  statement_form_row-length (s.for_statement first test step x) = simp length-append (omega (arith, start_row-length first, maybe_expression_row-length test, maybe_expression_row-length step, statement_row-length x))
  statement_form_row-length s.break_statement = refl
  statement_form_row-length s.continue_statement = refl
  statement_form_row-length (s.return_statement e) = maybe_expression_row-length e

  pub part_row-length : (x : PartTree) → length (part_row x) ≡ part_nodes x
  part_row-length (s.local d) = declaration_row-length d
  part_row-length (s.run x) = statement_row-length x

  pub parts_row-length : (x : PartTrees) → length (parts_row x) ≡ parts_nodes x
  parts_row-length s.no_parts = refl
  parts_row-length (s.then_part x xs) = simp length-append (omega (arith, part_row-length x, parts_row-length xs))

  pub section_row-length : (x : SectionTree) → length (section_row x) ≡ section_nodes x
  section_row-length (s.section n ls body) = simp length-append (omega (arith, labels_row-length ls, statements_row-length body))

  pub sections_row-length : (x : SectionTrees) → length (sections_row x) ≡ sections_nodes x
  sections_row-length s.no_sections = refl
  sections_row-length (s.then_section x xs) = simp length-append (omega (arith, section_row-length x, sections_row-length xs))

pub function_row-length : (x : FunctionTree) → length (function_row x) ≡ function_nodes x
function_row-length (s.function word b d body) = simp length-append (omega (arith, base_row-length b, declarator_row-length d, statement_row-length body))

pub unit_row-length : (x : UnitTree) → length (unit_row x) ≡ unit_nodes x
unit_row-length (s.empty_unit n) = refl
unit_row-length (s.declares n d) = simp length-append (omega (arith, declaration_row-length d))
unit_row-length (s.defines n f) = simp length-append (omega (arith, function_row-length f))
