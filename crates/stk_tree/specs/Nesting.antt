-- How deep a tree nests, the measure that the limit on trees uses: its height, and a level more for each construct that
-- nests without being a node. Each `*` and each array part of a declarator or a type name, each brace of an initialiser
-- and each designator counts one level, as a node round what it stands on would.
use Rattle.std.specs.Prelude.{ℕ, ◌+◌, max}
use Rattle.stk_tree.specs.Syntax.{BaseTree, BaseFormTree, MemberTree, MemberTrees, EnumrTree, EnumrTrees, DeclrTree, DeclrTrees, TailTree, DimensionTree, DimensionTrees, ParamTree, ParamTrees, TypeNameTree, InitTree, MaybeInitTree, ItemTree, ItemTrees, DesigTree, DesigTrees, ExprTree, ExprTrees, MaybeExprTree, ExprFormTree}
use Rattle.stk_tree.specs.Syntax.{DeclarationTree, StartTree, LabelTree, LabelTrees, StmtTree, StmtTrees, MaybeStmtTree, StmtFormTree, PartTree, PartTrees, SectionTree, SectionTrees, FunctionTree, UnitTree}
use Rattle.stk_tree.specs.Syntax as s

-- the deepest nesting that is read: a recursion over a tree goes no deeper
abbrev pub most_nesting : ℕ
most_nesting = 400

abbrev mutual
  pub base_nesting : BaseTree → ℕ
  base_nesting (s.base n f) = base_form_nesting f + 1

  pub base_form_nesting : BaseFormTree → ℕ
  base_form_nesting (s.words ws) = 0
  base_form_nesting (s.struct_ref tag) = 0
  base_form_nesting (s.struct_def tag ms) = members_nesting ms
  base_form_nesting (s.enum_ref tag) = 0
  base_form_nesting (s.enum_def tag es comma) = enumerators_nesting es
  base_form_nesting (s.named at) = 0

  pub member_nesting : MemberTree → ℕ
  member_nesting (s.member b ds) = max (base_nesting b) (declarators_nesting ds)

  pub members_nesting : MemberTrees → ℕ
  members_nesting s.no_members = 0
  members_nesting (s.then_member x xs) = max (member_nesting x) (members_nesting xs)

  pub enumerator_nesting : EnumrTree → ℕ
  enumerator_nesting (s.enumerator at e) = maybe_expression_nesting e

  pub enumerators_nesting : EnumrTrees → ℕ
  enumerators_nesting s.no_enumerators = 0
  enumerators_nesting (s.then_enumerator x xs) = max (enumerator_nesting x) (enumerators_nesting xs)

  -- a level for each `*`, round what follows the name; then the declarator's own
  pub declarator_nesting : DeclrTree → ℕ
  declarator_nesting (s.declarator n count at t i) = max (tail_nesting t + count) (maybe_initialiser_nesting i) + 1

  pub declarators_nesting : DeclrTrees → ℕ
  declarators_nesting s.no_declarators = 0
  declarators_nesting (s.then_declarator x xs) = max (declarator_nesting x) (declarators_nesting xs)

  pub tail_nesting : TailTree → ℕ
  tail_nesting (s.arrays ds) = dimensions_nesting ds
  tail_nesting s.unspecified = 0
  tail_nesting s.void_parameters = 0
  tail_nesting (s.with_parameters ps more) = parameters_nesting ps

  pub dimension_nesting : DimensionTree → ℕ
  dimension_nesting s.open_dimension = 0
  dimension_nesting (s.sized e) = expression_nesting e

  -- a level for each array part, round its size and the parts after it
  pub dimensions_nesting : DimensionTrees → ℕ
  dimensions_nesting s.no_dimensions = 0
  dimensions_nesting (s.then_dimension x xs) = max (dimension_nesting x) (dimensions_nesting xs) + 1

  pub parameter_nesting : ParamTree → ℕ
  parameter_nesting (s.parameter n b d) = max (base_nesting b) (declarator_nesting d) + 1

  pub parameters_nesting : ParamTrees → ℕ
  parameters_nesting s.no_parameters = 0
  parameters_nesting (s.then_parameter x xs) = max (parameter_nesting x) (parameters_nesting xs)

  -- a level for each `*`, round the array parts; then the type name's own
  pub type_name_nesting : TypeNameTree → ℕ
  type_name_nesting (s.type_name n b count ds) = max (base_nesting b) (dimensions_nesting ds + count) + 1

  -- a level for the braces
  pub initialiser_nesting : InitTree → ℕ
  initialiser_nesting (s.plain e) = expression_nesting e
  initialiser_nesting (s.braces is comma) = items_nesting is + 1

  pub maybe_initialiser_nesting : MaybeInitTree → ℕ
  maybe_initialiser_nesting s.no_initialiser = 0
  maybe_initialiser_nesting (s.some_initialiser i) = initialiser_nesting i

  pub item_nesting : ItemTree → ℕ
  item_nesting (s.item ds i) = max (designators_nesting ds) (initialiser_nesting i)

  pub items_nesting : ItemTrees → ℕ
  items_nesting s.no_items = 0
  items_nesting (s.then_item x xs) = max (item_nesting x) (items_nesting xs)

  pub designator_nesting : DesigTree → ℕ
  designator_nesting (s.dot_designator at) = 0
  designator_nesting (s.at_designator e) = expression_nesting e

  -- a level for each designator, round its index and the designators after it
  pub designators_nesting : DesigTrees → ℕ
  designators_nesting s.no_designators = 0
  designators_nesting (s.then_designator x xs) = max (designator_nesting x) (designators_nesting xs) + 1

  pub expression_nesting : ExprTree → ℕ
  expression_nesting (s.expression n f) = expression_form_nesting f + 1

  pub expressions_nesting : ExprTrees → ℕ
  expressions_nesting s.no_expressions = 0
  expressions_nesting (s.then_expression x xs) = max (expression_nesting x) (expressions_nesting xs)

  pub maybe_expression_nesting : MaybeExprTree → ℕ
  maybe_expression_nesting s.no_expression = 0
  maybe_expression_nesting (s.some_expression e) = expression_nesting e

  pub expression_form_nesting : ExprFormTree → ℕ
  expression_form_nesting (s.name at) = 0
  expression_form_nesting (s.number at) = 0
  expression_form_nesting (s.character at) = 0
  expression_form_nesting (s.text parts) = 0
  expression_form_nesting (s.paren e) = expression_nesting e
  expression_form_nesting (s.index a b) = max (expression_nesting a) (expression_nesting b)
  expression_form_nesting (s.call f args) = max (expression_nesting f) (expressions_nesting args)
  expression_form_nesting (s.dot e at) = expression_nesting e
  expression_form_nesting (s.arrow e at) = expression_nesting e
  expression_form_nesting (s.step op e) = expression_nesting e
  expression_form_nesting (s.unary op e) = expression_nesting e
  expression_form_nesting (s.size_expression e) = expression_nesting e
  expression_form_nesting (s.size_name t) = type_name_nesting t
  expression_form_nesting (s.cast t e) = max (type_name_nesting t) (expression_nesting e)
  expression_form_nesting (s.binary op a b) = max (expression_nesting a) (expression_nesting b)
  expression_form_nesting (s.choice a b c) = max (expression_nesting a) (max (expression_nesting b) (expression_nesting c))
  expression_form_nesting (s.assign op a b) = max (expression_nesting a) (expression_nesting b)

abbrev pub declaration_nesting : DeclarationTree → ℕ
declaration_nesting (s.declaration word b ds) = max (base_nesting b) (declarators_nesting ds)

abbrev pub start_nesting : StartTree → ℕ
start_nesting (s.start_declaration d) = declaration_nesting d
start_nesting (s.start_expression e) = maybe_expression_nesting e

abbrev pub label_nesting : LabelTree → ℕ
label_nesting s.default_label = 0
label_nesting (s.case_label e) = expression_nesting e

abbrev pub labels_nesting : LabelTrees → ℕ
labels_nesting s.no_labels = 0
labels_nesting (s.then_label x xs) = max (label_nesting x) (labels_nesting xs)

abbrev mutual
  pub statement_nesting : StmtTree → ℕ
  statement_nesting (s.statement n f) = statement_form_nesting f + 1

  pub statements_nesting : StmtTrees → ℕ
  statements_nesting s.no_statements = 0
  statements_nesting (s.then_statement x xs) = max (statement_nesting x) (statements_nesting xs)

  pub maybe_statement_nesting : MaybeStmtTree → ℕ
  maybe_statement_nesting s.no_statement = 0
  maybe_statement_nesting (s.some_statement x) = statement_nesting x

  pub statement_form_nesting : StmtFormTree → ℕ
  statement_form_nesting (s.block ps) = parts_nesting ps
  statement_form_nesting (s.expression_statement e) = maybe_expression_nesting e
  statement_form_nesting (s.if_statement e x other) = max (expression_nesting e) (max (statement_nesting x) (maybe_statement_nesting other))
  statement_form_nesting (s.switch_statement e xs) = max (expression_nesting e) (sections_nesting xs)
  statement_form_nesting (s.while_statement e x) = max (expression_nesting e) (statement_nesting x)
  statement_form_nesting (s.do_statement x e) = max (statement_nesting x) (expression_nesting e)
  statement_form_nesting (s.for_statement first test step x) = max (max (start_nesting first) (maybe_expression_nesting test)) (max (maybe_expression_nesting step) (statement_nesting x))
  statement_form_nesting s.break_statement = 0
  statement_form_nesting s.continue_statement = 0
  statement_form_nesting (s.return_statement e) = maybe_expression_nesting e

  pub part_nesting : PartTree → ℕ
  part_nesting (s.local d) = declaration_nesting d
  part_nesting (s.run x) = statement_nesting x

  pub parts_nesting : PartTrees → ℕ
  parts_nesting s.no_parts = 0
  parts_nesting (s.then_part x xs) = max (part_nesting x) (parts_nesting xs)

  pub section_nesting : SectionTree → ℕ
  section_nesting (s.section n labels body) = max (labels_nesting labels) (statements_nesting body) + 1

  pub sections_nesting : SectionTrees → ℕ
  sections_nesting s.no_sections = 0
  sections_nesting (s.then_section x xs) = max (section_nesting x) (sections_nesting xs)

abbrev pub function_nesting : FunctionTree → ℕ
function_nesting (s.function word b d body) = max (base_nesting b) (max (declarator_nesting d) (statement_nesting body))

abbrev pub unit_nesting : UnitTree → ℕ
unit_nesting (s.empty_unit n) = 1
unit_nesting (s.declares n d) = declaration_nesting d + 1
unit_nesting (s.defines n f) = function_nesting f + 1
