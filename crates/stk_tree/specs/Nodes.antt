-- How many nodes a tree has: a unit, a base, a declarator, a parameter, a type name, an expression, a statement and a
-- section have one each.
use Rattle.std.specs.Prelude.{ℕ, ◌+◌}
use Rattle.stk_tree.specs.Syntax.{BaseTree, BaseFormTree, MemberTree, MemberTrees, EnumrTree, EnumrTrees, DeclrTree, DeclrTrees, TailTree, DimensionTree, DimensionTrees, ParamTree, ParamTrees, TypeNameTree, InitTree, MaybeInitTree, ItemTree, ItemTrees, DesigTree, DesigTrees, ExprTree, ExprTrees, MaybeExprTree, ExprFormTree}
use Rattle.stk_tree.specs.Syntax.{DeclarationTree, StartTree, LabelTree, LabelTrees, StmtTree, StmtTrees, MaybeStmtTree, StmtFormTree, PartTree, PartTrees, SectionTree, SectionTrees, FunctionTree, UnitTree}
use Rattle.stk_tree.specs.Syntax as s

abbrev mutual
  pub base_nodes : BaseTree → ℕ
  base_nodes (s.base n f) = base_form_nodes f + 1

  pub base_form_nodes : BaseFormTree → ℕ
  base_form_nodes (s.words ws) = 0
  base_form_nodes (s.struct_ref tag) = 0
  base_form_nodes (s.struct_def tag ms) = members_nodes ms
  base_form_nodes (s.enum_ref tag) = 0
  base_form_nodes (s.enum_def tag es comma) = enumerators_nodes es
  base_form_nodes (s.named at) = 0

  pub member_nodes : MemberTree → ℕ
  member_nodes (s.member b ds) = base_nodes b + declarators_nodes ds

  pub members_nodes : MemberTrees → ℕ
  members_nodes s.no_members = 0
  members_nodes (s.then_member x xs) = member_nodes x + members_nodes xs

  pub enumerator_nodes : EnumrTree → ℕ
  enumerator_nodes (s.enumerator at e) = maybe_expression_nodes e

  pub enumerators_nodes : EnumrTrees → ℕ
  enumerators_nodes s.no_enumerators = 0
  enumerators_nodes (s.then_enumerator x xs) = enumerator_nodes x + enumerators_nodes xs

  pub declarator_nodes : DeclrTree → ℕ
  declarator_nodes (s.declarator n count at t i) = tail_nodes t + maybe_initialiser_nodes i + 1

  pub declarators_nodes : DeclrTrees → ℕ
  declarators_nodes s.no_declarators = 0
  declarators_nodes (s.then_declarator x xs) = declarator_nodes x + declarators_nodes xs

  pub tail_nodes : TailTree → ℕ
  tail_nodes (s.arrays ds) = dimensions_nodes ds
  tail_nodes s.unspecified = 0
  tail_nodes s.void_parameters = 0
  tail_nodes (s.with_parameters ps more) = parameters_nodes ps

  pub dimension_nodes : DimensionTree → ℕ
  dimension_nodes s.open_dimension = 0
  dimension_nodes (s.sized e) = expression_nodes e

  pub dimensions_nodes : DimensionTrees → ℕ
  dimensions_nodes s.no_dimensions = 0
  dimensions_nodes (s.then_dimension x xs) = dimension_nodes x + dimensions_nodes xs

  pub parameter_nodes : ParamTree → ℕ
  parameter_nodes (s.parameter n b d) = base_nodes b + declarator_nodes d + 1

  pub parameters_nodes : ParamTrees → ℕ
  parameters_nodes s.no_parameters = 0
  parameters_nodes (s.then_parameter x xs) = parameter_nodes x + parameters_nodes xs

  pub type_name_nodes : TypeNameTree → ℕ
  type_name_nodes (s.type_name n b count ds) = base_nodes b + dimensions_nodes ds + 1

  pub initialiser_nodes : InitTree → ℕ
  initialiser_nodes (s.plain e) = expression_nodes e
  initialiser_nodes (s.braces is comma) = items_nodes is

  pub maybe_initialiser_nodes : MaybeInitTree → ℕ
  maybe_initialiser_nodes s.no_initialiser = 0
  maybe_initialiser_nodes (s.some_initialiser i) = initialiser_nodes i

  pub item_nodes : ItemTree → ℕ
  item_nodes (s.item ds i) = designators_nodes ds + initialiser_nodes i

  pub items_nodes : ItemTrees → ℕ
  items_nodes s.no_items = 0
  items_nodes (s.then_item x xs) = item_nodes x + items_nodes xs

  pub designator_nodes : DesigTree → ℕ
  designator_nodes (s.dot_designator at) = 0
  designator_nodes (s.at_designator e) = expression_nodes e

  pub designators_nodes : DesigTrees → ℕ
  designators_nodes s.no_designators = 0
  designators_nodes (s.then_designator x xs) = designator_nodes x + designators_nodes xs

  pub expression_nodes : ExprTree → ℕ
  expression_nodes (s.expression n f) = expression_form_nodes f + 1

  pub expressions_nodes : ExprTrees → ℕ
  expressions_nodes s.no_expressions = 0
  expressions_nodes (s.then_expression x xs) = expression_nodes x + expressions_nodes xs

  pub maybe_expression_nodes : MaybeExprTree → ℕ
  maybe_expression_nodes s.no_expression = 0
  maybe_expression_nodes (s.some_expression e) = expression_nodes e

  pub expression_form_nodes : ExprFormTree → ℕ
  expression_form_nodes (s.name at) = 0
  expression_form_nodes (s.number at) = 0
  expression_form_nodes (s.character at) = 0
  expression_form_nodes (s.text parts) = 0
  expression_form_nodes (s.paren e) = expression_nodes e
  expression_form_nodes (s.index a b) = expression_nodes a + expression_nodes b
  expression_form_nodes (s.call f args) = expression_nodes f + expressions_nodes args
  expression_form_nodes (s.dot e at) = expression_nodes e
  expression_form_nodes (s.arrow e at) = expression_nodes e
  expression_form_nodes (s.step op e) = expression_nodes e
  expression_form_nodes (s.unary op e) = expression_nodes e
  expression_form_nodes (s.size_expression e) = expression_nodes e
  expression_form_nodes (s.size_name t) = type_name_nodes t
  expression_form_nodes (s.cast t e) = type_name_nodes t + expression_nodes e
  expression_form_nodes (s.binary op a b) = expression_nodes a + expression_nodes b
  expression_form_nodes (s.choice a b c) = expression_nodes a + expression_nodes b + expression_nodes c
  expression_form_nodes (s.assign op a b) = expression_nodes a + expression_nodes b

abbrev pub declaration_nodes : DeclarationTree → ℕ
declaration_nodes (s.declaration word b ds) = base_nodes b + declarators_nodes ds

abbrev pub start_nodes : StartTree → ℕ
start_nodes (s.start_declaration d) = declaration_nodes d
start_nodes (s.start_expression e) = maybe_expression_nodes e

abbrev pub label_nodes : LabelTree → ℕ
label_nodes s.default_label = 0
label_nodes (s.case_label e) = expression_nodes e

abbrev pub labels_nodes : LabelTrees → ℕ
labels_nodes s.no_labels = 0
labels_nodes (s.then_label x xs) = label_nodes x + labels_nodes xs

abbrev mutual
  pub statement_nodes : StmtTree → ℕ
  statement_nodes (s.statement n f) = statement_form_nodes f + 1

  pub statements_nodes : StmtTrees → ℕ
  statements_nodes s.no_statements = 0
  statements_nodes (s.then_statement x xs) = statement_nodes x + statements_nodes xs

  pub maybe_statement_nodes : MaybeStmtTree → ℕ
  maybe_statement_nodes s.no_statement = 0
  maybe_statement_nodes (s.some_statement x) = statement_nodes x

  pub statement_form_nodes : StmtFormTree → ℕ
  statement_form_nodes (s.block ps) = parts_nodes ps
  statement_form_nodes (s.expression_statement e) = maybe_expression_nodes e
  statement_form_nodes (s.if_statement e x other) = expression_nodes e + statement_nodes x + maybe_statement_nodes other
  statement_form_nodes (s.switch_statement e xs) = expression_nodes e + sections_nodes xs
  statement_form_nodes (s.while_statement e x) = expression_nodes e + statement_nodes x
  statement_form_nodes (s.do_statement x e) = statement_nodes x + expression_nodes e
  statement_form_nodes (s.for_statement first test step x) = start_nodes first + maybe_expression_nodes test + maybe_expression_nodes step + statement_nodes x
  statement_form_nodes s.break_statement = 0
  statement_form_nodes s.continue_statement = 0
  statement_form_nodes (s.return_statement e) = maybe_expression_nodes e

  pub part_nodes : PartTree → ℕ
  part_nodes (s.local d) = declaration_nodes d
  part_nodes (s.run x) = statement_nodes x

  pub parts_nodes : PartTrees → ℕ
  parts_nodes s.no_parts = 0
  parts_nodes (s.then_part x xs) = part_nodes x + parts_nodes xs

  pub section_nodes : SectionTree → ℕ
  section_nodes (s.section n labels body) = labels_nodes labels + statements_nodes body + 1

  pub sections_nodes : SectionTrees → ℕ
  sections_nodes s.no_sections = 0
  sections_nodes (s.then_section x xs) = section_nodes x + sections_nodes xs

abbrev pub function_nodes : FunctionTree → ℕ
function_nodes (s.function word b d body) = base_nodes b + declarator_nodes d + statement_nodes body

-- a unit has one node more than what it is made of
abbrev pub unit_nodes : UnitTree → ℕ
unit_nodes (s.empty_unit n) = 1
unit_nodes (s.declares n d) = declaration_nodes d + 1
unit_nodes (s.defines n f) = function_nodes f + 1
