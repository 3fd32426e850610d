-- How high a tree is: a leaf has height 1, and any other node is one higher than the highest of its children; a list,
-- and what else is no node, adds nothing.
use Rattle.std.specs.Prelude.{ℕ, ◌+◌, max}
use Rattle.stk_tree.specs.Syntax.{BaseTree, BaseFormTree, MemberTree, MemberTrees, EnumrTree, EnumrTrees, DeclrTree, DeclrTrees, TailTree, DimensionTree, DimensionTrees, ParamTree, ParamTrees, TypeNameTree, InitTree, MaybeInitTree, ItemTree, ItemTrees, DesigTree, DesigTrees, ExprTree, ExprTrees, MaybeExprTree, ExprFormTree}
use Rattle.stk_tree.specs.Syntax.{DeclarationTree, StartTree, LabelTree, LabelTrees, StmtTree, StmtTrees, MaybeStmtTree, StmtFormTree, PartTree, PartTrees, SectionTree, SectionTrees, FunctionTree, UnitTree}
use Rattle.stk_tree.specs.Syntax as s

abbrev mutual
  pub base_height : BaseTree → ℕ
  base_height (s.base n f) = base_form_height f + 1

  pub base_form_height : BaseFormTree → ℕ
  base_form_height (s.words ws) = 0
  base_form_height (s.struct_ref tag) = 0
  base_form_height (s.struct_def tag ms) = members_height ms
  base_form_height (s.enum_ref tag) = 0
  base_form_height (s.enum_def tag es comma) = enumerators_height es
  base_form_height (s.named at) = 0

  pub member_height : MemberTree → ℕ
  member_height (s.member b ds) = max (base_height b) (declarators_height ds)

  pub members_height : MemberTrees → ℕ
  members_height s.no_members = 0
  members_height (s.then_member x xs) = max (member_height x) (members_height xs)

  pub enumerator_height : EnumrTree → ℕ
  enumerator_height (s.enumerator at e) = maybe_expression_height e

  pub enumerators_height : EnumrTrees → ℕ
  enumerators_height s.no_enumerators = 0
  enumerators_height (s.then_enumerator x xs) = max (enumerator_height x) (enumerators_height xs)

  pub declarator_height : DeclrTree → ℕ
  declarator_height (s.declarator n count at t i) = max (tail_height t) (maybe_initialiser_height i) + 1

  pub declarators_height : DeclrTrees → ℕ
  declarators_height s.no_declarators = 0
  declarators_height (s.then_declarator x xs) = max (declarator_height x) (declarators_height xs)

  pub tail_height : TailTree → ℕ
  tail_height (s.arrays ds) = dimensions_height ds
  tail_height s.unspecified = 0
  tail_height s.void_parameters = 0
  tail_height (s.with_parameters ps more) = parameters_height ps

  pub dimension_height : DimensionTree → ℕ
  dimension_height s.open_dimension = 0
  dimension_height (s.sized e) = expression_height e

  pub dimensions_height : DimensionTrees → ℕ
  dimensions_height s.no_dimensions = 0
  dimensions_height (s.then_dimension x xs) = max (dimension_height x) (dimensions_height xs)

  pub parameter_height : ParamTree → ℕ
  parameter_height (s.parameter n b d) = max (base_height b) (declarator_height d) + 1

  pub parameters_height : ParamTrees → ℕ
  parameters_height s.no_parameters = 0
  parameters_height (s.then_parameter x xs) = max (parameter_height x) (parameters_height xs)

  pub type_name_height : TypeNameTree → ℕ
  type_name_height (s.type_name n b count ds) = max (base_height b) (dimensions_height ds) + 1

  pub initialiser_height : InitTree → ℕ
  initialiser_height (s.plain e) = expression_height e
  initialiser_height (s.braces is comma) = items_height is

  pub maybe_initialiser_height : MaybeInitTree → ℕ
  maybe_initialiser_height s.no_initialiser = 0
  maybe_initialiser_height (s.some_initialiser i) = initialiser_height i

  pub item_height : ItemTree → ℕ
  item_height (s.item ds i) = max (designators_height ds) (initialiser_height i)

  pub items_height : ItemTrees → ℕ
  items_height s.no_items = 0
  items_height (s.then_item x xs) = max (item_height x) (items_height xs)

  pub designator_height : DesigTree → ℕ
  designator_height (s.dot_designator at) = 0
  designator_height (s.at_designator e) = expression_height e

  pub designators_height : DesigTrees → ℕ
  designators_height s.no_designators = 0
  designators_height (s.then_designator x xs) = max (designator_height x) (designators_height xs)

  pub expression_height : ExprTree → ℕ
  expression_height (s.expression n f) = expression_form_height f + 1

  pub expressions_height : ExprTrees → ℕ
  expressions_height s.no_expressions = 0
  expressions_height (s.then_expression x xs) = max (expression_height x) (expressions_height xs)

  pub maybe_expression_height : MaybeExprTree → ℕ
  maybe_expression_height s.no_expression = 0
  maybe_expression_height (s.some_expression e) = expression_height e

  pub expression_form_height : ExprFormTree → ℕ
  expression_form_height (s.name at) = 0
  expression_form_height (s.number at) = 0
  expression_form_height (s.character at) = 0
  expression_form_height (s.text parts) = 0
  expression_form_height (s.paren e) = expression_height e
  expression_form_height (s.index a b) = max (expression_height a) (expression_height b)
  expression_form_height (s.call f args) = max (expression_height f) (expressions_height args)
  expression_form_height (s.dot e at) = expression_height e
  expression_form_height (s.arrow e at) = expression_height e
  expression_form_height (s.step op e) = expression_height e
  expression_form_height (s.unary op e) = expression_height e
  expression_form_height (s.size_expression e) = expression_height e
  expression_form_height (s.size_name t) = type_name_height t
  expression_form_height (s.cast t e) = max (type_name_height t) (expression_height e)
  expression_form_height (s.binary op a b) = max (expression_height a) (expression_height b)
  expression_form_height (s.choice a b c) = max (expression_height a) (max (expression_height b) (expression_height c))
  expression_form_height (s.assign op a b) = max (expression_height a) (expression_height b)

abbrev pub declaration_height : DeclarationTree → ℕ
declaration_height (s.declaration word b ds) = max (base_height b) (declarators_height ds)

abbrev pub start_height : StartTree → ℕ
start_height (s.start_declaration d) = declaration_height d
start_height (s.start_expression e) = maybe_expression_height e

abbrev pub label_height : LabelTree → ℕ
label_height s.default_label = 0
label_height (s.case_label e) = expression_height e

abbrev pub labels_height : LabelTrees → ℕ
labels_height s.no_labels = 0
labels_height (s.then_label x xs) = max (label_height x) (labels_height xs)

abbrev mutual
  pub statement_height : StmtTree → ℕ
  statement_height (s.statement n f) = statement_form_height f + 1

  pub statements_height : StmtTrees → ℕ
  statements_height s.no_statements = 0
  statements_height (s.then_statement x xs) = max (statement_height x) (statements_height xs)

  pub maybe_statement_height : MaybeStmtTree → ℕ
  maybe_statement_height s.no_statement = 0
  maybe_statement_height (s.some_statement x) = statement_height x

  pub statement_form_height : StmtFormTree → ℕ
  statement_form_height (s.block ps) = parts_height ps
  statement_form_height (s.expression_statement e) = maybe_expression_height e
  statement_form_height (s.if_statement e x other) = max (expression_height e) (max (statement_height x) (maybe_statement_height other))
  statement_form_height (s.switch_statement e xs) = max (expression_height e) (sections_height xs)
  statement_form_height (s.while_statement e x) = max (expression_height e) (statement_height x)
  statement_form_height (s.do_statement x e) = max (statement_height x) (expression_height e)
  statement_form_height (s.for_statement first test step x) = max (max (start_height first) (maybe_expression_height test)) (max (maybe_expression_height step) (statement_height x))
  statement_form_height s.break_statement = 0
  statement_form_height s.continue_statement = 0
  statement_form_height (s.return_statement e) = maybe_expression_height e

  pub part_height : PartTree → ℕ
  part_height (s.local d) = declaration_height d
  part_height (s.run x) = statement_height x

  pub parts_height : PartTrees → ℕ
  parts_height s.no_parts = 0
  parts_height (s.then_part x xs) = max (part_height x) (parts_height xs)

  pub section_height : SectionTree → ℕ
  section_height (s.section n labels body) = max (labels_height labels) (statements_height body) + 1

  pub sections_height : SectionTrees → ℕ
  sections_height s.no_sections = 0
  sections_height (s.then_section x xs) = max (section_height x) (sections_height xs)

abbrev pub function_height : FunctionTree → ℕ
function_height (s.function word b d body) = max (base_height b) (max (declarator_height d) (statement_height body))

abbrev pub unit_height : UnitTree → ℕ
unit_height (s.empty_unit n) = 1
unit_height (s.declares n d) = declaration_height d + 1
unit_height (s.defines n f) = function_height f + 1
