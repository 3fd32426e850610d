-- The nodes of a tree in a row, in the order of their numbers: children from left to right, then their parent.
use Rattle.std.specs.Prelude.{List, [], ◌∷◌, ◌++◌}
use Rattle.stk_tree.specs.declared.node.Node.{Node}
use Rattle.stk_tree.specs.Syntax.{BaseTree, BaseFormTree, MemberTree, MemberTrees, EnumrTree, EnumrTrees, DeclrTree, DeclrTrees, TailTree, DimensionTree, DimensionTrees, ParamTree, ParamTrees, TypeNameTree, InitTree, MaybeInitTree, ItemTree, ItemTrees, DesigTree, DesigTrees, ExprTree, ExprTrees, MaybeExprTree, ExprFormTree}
use Rattle.stk_tree.specs.Syntax.{DeclarationTree, StartTree, LabelTree, LabelTrees, StmtTree, StmtTrees, MaybeStmtTree, StmtFormTree, PartTree, PartTrees, SectionTree, SectionTrees, FunctionTree, UnitTree}
use Rattle.stk_tree.specs.Syntax as s

abbrev mutual
  pub base_row : BaseTree → List Node
  base_row (s.base n f) = base_form_row f ++ n ∷ []

  pub base_form_row : BaseFormTree → List Node
  base_form_row (s.words ws) = []
  base_form_row (s.struct_ref tag) = []
  base_form_row (s.struct_def tag ms) = members_row ms
  base_form_row (s.enum_ref tag) = []
  base_form_row (s.enum_def tag es comma) = enumerators_row es
  base_form_row (s.named at) = []

  pub member_row : MemberTree → List Node
  member_row (s.member b ds) = base_row b ++ declarators_row ds

  pub members_row : MemberTrees → List Node
  members_row s.no_members = []
  members_row (s.then_member x xs) = member_row x ++ members_row xs

  pub enumerator_row : EnumrTree → List Node
  enumerator_row (s.enumerator at e) = maybe_expression_row e

  pub enumerators_row : EnumrTrees → List Node
  enumerators_row s.no_enumerators = []
  enumerators_row (s.then_enumerator x xs) = enumerator_row x ++ enumerators_row xs

  pub declarator_row : DeclrTree → List Node
  declarator_row (s.declarator n count at t i) = tail_row t ++ (maybe_initialiser_row i ++ n ∷ [])

  pub declarators_row : DeclrTrees → List Node
  declarators_row s.no_declarators = []
  declarators_row (s.then_declarator x xs) = declarator_row x ++ declarators_row xs

  pub tail_row : TailTree → List Node
  tail_row (s.arrays ds) = dimensions_row ds
  tail_row s.unspecified = []
  tail_row s.void_parameters = []
  tail_row (s.with_parameters ps more) = parameters_row ps

  pub dimension_row : DimensionTree → List Node
  dimension_row s.open_dimension = []
  dimension_row (s.sized e) = expression_row e

  pub dimensions_row : DimensionTrees → List Node
  dimensions_row s.no_dimensions = []
  dimensions_row (s.then_dimension x xs) = dimension_row x ++ dimensions_row xs

  pub parameter_row : ParamTree → List Node
  parameter_row (s.parameter n b d) = base_row b ++ (declarator_row d ++ n ∷ [])

  pub parameters_row : ParamTrees → List Node
  parameters_row s.no_parameters = []
  parameters_row (s.then_parameter x xs) = parameter_row x ++ parameters_row xs

  pub type_name_row : TypeNameTree → List Node
  type_name_row (s.type_name n b count ds) = base_row b ++ (dimensions_row ds ++ n ∷ [])

  pub initialiser_row : InitTree → List Node
  initialiser_row (s.plain e) = expression_row e
  initialiser_row (s.braces is comma) = items_row is

  pub maybe_initialiser_row : MaybeInitTree → List Node
  maybe_initialiser_row s.no_initialiser = []
  maybe_initialiser_row (s.some_initialiser i) = initialiser_row i

  pub item_row : ItemTree → List Node
  item_row (s.item ds i) = designators_row ds ++ initialiser_row i

  pub items_row : ItemTrees → List Node
  items_row s.no_items = []
  items_row (s.then_item x xs) = item_row x ++ items_row xs

  pub designator_row : DesigTree → List Node
  designator_row (s.dot_designator at) = []
  designator_row (s.at_designator e) = expression_row e

  pub designators_row : DesigTrees → List Node
  designators_row s.no_designators = []
  designators_row (s.then_designator x xs) = designator_row x ++ designators_row xs

  pub expression_row : ExprTree → List Node
  expression_row (s.expression n f) = expression_form_row f ++ n ∷ []

  pub expressions_row : ExprTrees → List Node
  expressions_row s.no_expressions = []
  expressions_row (s.then_expression x xs) = expression_row x ++ expressions_row xs

  pub maybe_expression_row : MaybeExprTree → List Node
  maybe_expression_row s.no_expression = []
  maybe_expression_row (s.some_expression e) = expression_row e

  pub expression_form_row : ExprFormTree → List Node
  expression_form_row (s.name at) = []
  expression_form_row (s.number at) = []
  expression_form_row (s.character at) = []
  expression_form_row (s.text parts) = []
  expression_form_row (s.paren e) = expression_row e
  expression_form_row (s.index a b) = expression_row a ++ expression_row b
  expression_form_row (s.call f args) = expression_row f ++ expressions_row args
  expression_form_row (s.dot e at) = expression_row e
  expression_form_row (s.arrow e at) = expression_row e
  expression_form_row (s.step op e) = expression_row e
  expression_form_row (s.unary op e) = expression_row e
  expression_form_row (s.size_expression e) = expression_row e
  expression_form_row (s.size_name t) = type_name_row t
  expression_form_row (s.cast t e) = type_name_row t ++ expression_row e
  expression_form_row (s.binary op a b) = expression_row a ++ expression_row b
  expression_form_row (s.choice a b c) = expression_row a ++ (expression_row b ++ expression_row c)
  expression_form_row (s.assign op a b) = expression_row a ++ expression_row b

abbrev pub declaration_row : DeclarationTree → List Node
declaration_row (s.declaration word b ds) = base_row b ++ declarators_row ds

abbrev pub start_row : StartTree → List Node
start_row (s.start_declaration d) = declaration_row d
start_row (s.start_expression e) = maybe_expression_row e

abbrev pub label_row : LabelTree → List Node
label_row s.default_label = []
label_row (s.case_label e) = expression_row e

abbrev pub labels_row : LabelTrees → List Node
labels_row s.no_labels = []
labels_row (s.then_label x xs) = label_row x ++ labels_row xs

abbrev mutual
  pub statement_row : StmtTree → List Node
  statement_row (s.statement n f) = statement_form_row f ++ n ∷ []

  pub statements_row : StmtTrees → List Node
  statements_row s.no_statements = []
  statements_row (s.then_statement x xs) = statement_row x ++ statements_row xs

  pub maybe_statement_row : MaybeStmtTree → List Node
  maybe_statement_row s.no_statement = []
  maybe_statement_row (s.some_statement x) = statement_row x

  pub statement_form_row : StmtFormTree → List Node
  statement_form_row (s.block ps) = parts_row ps
  statement_form_row (s.expression_statement e) = maybe_expression_row e
  statement_form_row (s.if_statement e x other) = expression_row e ++ (statement_row x ++ maybe_statement_row other)
  statement_form_row (s.switch_statement e xs) = expression_row e ++ sections_row xs
  statement_form_row (s.while_statement e x) = expression_row e ++ statement_row x
  statement_form_row (s.do_statement x e) = statement_row x ++ expression_row e
  statement_form_row (s.for_statement first test step x) = start_row first ++ (maybe_expression_row test ++ (maybe_expression_row step ++ statement_row x))
  statement_form_row s.break_statement = []
  statement_form_row s.continue_statement = []
  statement_form_row (s.return_statement e) = maybe_expression_row e

  pub part_row : PartTree → List Node
  part_row (s.local d) = declaration_row d
  part_row (s.run x) = statement_row x

  pub parts_row : PartTrees → List Node
  parts_row s.no_parts = []
  parts_row (s.then_part x xs) = part_row x ++ parts_row xs

  pub section_row : SectionTree → List Node
  section_row (s.section n ls body) = labels_row ls ++ (statements_row body ++ n ∷ [])

  pub sections_row : SectionTrees → List Node
  sections_row s.no_sections = []
  sections_row (s.then_section x xs) = section_row x ++ sections_row xs

abbrev pub function_row : FunctionTree → List Node
function_row (s.function word b d body) = base_row b ++ (declarator_row d ++ statement_row body)

-- a unit stands behind what it is made of
abbrev pub unit_row : UnitTree → List Node
unit_row (s.empty_unit n) = n ∷ []
unit_row (s.declares n d) = declaration_row d ++ n ∷ []
unit_row (s.defines n f) = function_row f ++ n ∷ []
