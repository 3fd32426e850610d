-- Which trees fit the names in force: a word that stands as a typedef name is one, and a word that stands as a name, or
-- as a declared name, is none (C11 6.7.8). Tags, members after `.` and `->`, and members in designators are any words.
use Rattle.std.specs.Prelude.{Bool, true, not, ◌&&◌, Option, Some, None}
use Rattle.stk_base.specs.declared.span.Span.{Span}
use Rattle.stk_tree.specs.Syntax.{BaseTree, BaseFormTree, MemberTree, MemberTrees, EnumrTree, EnumrTrees, DeclrTree, DeclrTrees, TailTree, DimensionTree, DimensionTrees, ParamTree, ParamTrees, TypeNameTree, InitTree, MaybeInitTree, ItemTree, ItemTrees, DesigTree, DesigTrees, ExprTree, ExprTrees, MaybeExprTree, ExprFormTree}
use Rattle.stk_tree.specs.Syntax.{DeclarationTree, StartTree, LabelTree, LabelTrees, StmtTree, StmtTrees, MaybeStmtTree, StmtFormTree, PartTree, PartTrees, SectionTree, SectionTrees, FunctionTree, UnitTree}
use Rattle.stk_tree.specs.Syntax as s

-- a name that may be missing; `named` says whether the word at a span is a typedef name
abbrev pub optional_fits : (Span → Bool) → Option Span → Bool
optional_fits named None = true
optional_fits named (Some at) = not (named at)

abbrev mutual
  pub base_fits : (Span → Bool) → BaseTree → Bool
  base_fits named (s.base n f) = base_form_fits named f

  pub base_form_fits : (Span → Bool) → BaseFormTree → Bool
  base_form_fits named (s.words ws) = true
  base_form_fits named (s.struct_ref tag) = true
  base_form_fits named (s.struct_def tag ms) = members_fits named ms
  base_form_fits named (s.enum_ref tag) = true
  base_form_fits named (s.enum_def tag es comma) = enumerators_fits named es
  base_form_fits named (s.named at) = named at

  pub member_fits : (Span → Bool) → MemberTree → Bool
  member_fits named (s.member b ds) = base_fits named b && declarators_fits named ds

  pub members_fits : (Span → Bool) → MemberTrees → Bool
  members_fits named s.no_members = true
  members_fits named (s.then_member x xs) = member_fits named x && members_fits named xs

  pub enumerator_fits : (Span → Bool) → EnumrTree → Bool
  enumerator_fits named (s.enumerator at e) = not (named at) && maybe_expression_fits named e

  pub enumerators_fits : (Span → Bool) → EnumrTrees → Bool
  enumerators_fits named s.no_enumerators = true
  enumerators_fits named (s.then_enumerator x xs) = enumerator_fits named x && enumerators_fits named xs

  pub declarator_fits : (Span → Bool) → DeclrTree → Bool
  declarator_fits named (s.declarator n count at t i) = optional_fits named at && tail_fits named t && maybe_initialiser_fits named i

  pub declarators_fits : (Span → Bool) → DeclrTrees → Bool
  declarators_fits named s.no_declarators = true
  declarators_fits named (s.then_declarator x xs) = declarator_fits named x && declarators_fits named xs

  pub tail_fits : (Span → Bool) → TailTree → Bool
  tail_fits named (s.arrays ds) = dimensions_fits named ds
  tail_fits named s.unspecified = true
  tail_fits named s.void_parameters = true
  tail_fits named (s.with_parameters ps more) = parameters_fits named ps

  pub dimension_fits : (Span → Bool) → DimensionTree → Bool
  dimension_fits named s.open_dimension = true
  dimension_fits named (s.sized e) = expression_fits named e

  pub dimensions_fits : (Span → Bool) → DimensionTrees → Bool
  dimensions_fits named s.no_dimensions = true
  dimensions_fits named (s.then_dimension x xs) = dimension_fits named x && dimensions_fits named xs

  pub parameter_fits : (Span → Bool) → ParamTree → Bool
  parameter_fits named (s.parameter n b d) = base_fits named b && declarator_fits named d

  pub parameters_fits : (Span → Bool) → ParamTrees → Bool
  parameters_fits named s.no_parameters = true
  parameters_fits named (s.then_parameter x xs) = parameter_fits named x && parameters_fits named xs

  pub type_name_fits : (Span → Bool) → TypeNameTree → Bool
  type_name_fits named (s.type_name n b count ds) = base_fits named b && dimensions_fits named ds

  pub initialiser_fits : (Span → Bool) → InitTree → Bool
  initialiser_fits named (s.plain e) = expression_fits named e
  initialiser_fits named (s.braces is comma) = items_fits named is

  pub maybe_initialiser_fits : (Span → Bool) → MaybeInitTree → Bool
  maybe_initialiser_fits named s.no_initialiser = true
  maybe_initialiser_fits named (s.some_initialiser i) = initialiser_fits named i

  pub item_fits : (Span → Bool) → ItemTree → Bool
  item_fits named (s.item ds i) = designators_fits named ds && initialiser_fits named i

  pub items_fits : (Span → Bool) → ItemTrees → Bool
  items_fits named s.no_items = true
  items_fits named (s.then_item x xs) = item_fits named x && items_fits named xs

  pub designator_fits : (Span → Bool) → DesigTree → Bool
  designator_fits named (s.dot_designator at) = true
  designator_fits named (s.at_designator e) = expression_fits named e

  pub designators_fits : (Span → Bool) → DesigTrees → Bool
  designators_fits named s.no_designators = true
  designators_fits named (s.then_designator x xs) = designator_fits named x && designators_fits named xs

  pub expression_fits : (Span → Bool) → ExprTree → Bool
  expression_fits named (s.expression n f) = expression_form_fits named f

  pub expressions_fits : (Span → Bool) → ExprTrees → Bool
  expressions_fits named s.no_expressions = true
  expressions_fits named (s.then_expression x xs) = expression_fits named x && expressions_fits named xs

  pub maybe_expression_fits : (Span → Bool) → MaybeExprTree → Bool
  maybe_expression_fits named s.no_expression = true
  maybe_expression_fits named (s.some_expression e) = expression_fits named e

  pub expression_form_fits : (Span → Bool) → ExprFormTree → Bool
  expression_form_fits named (s.name at) = not (named at)
  expression_form_fits named (s.number at) = true
  expression_form_fits named (s.character at) = true
  expression_form_fits named (s.text parts) = true
  expression_form_fits named (s.paren e) = expression_fits named e
  expression_form_fits named (s.index a b) = expression_fits named a && expression_fits named b
  expression_form_fits named (s.call f args) = expression_fits named f && expressions_fits named args
  expression_form_fits named (s.dot e at) = expression_fits named e
  expression_form_fits named (s.arrow e at) = expression_fits named e
  expression_form_fits named (s.step op e) = expression_fits named e
  expression_form_fits named (s.unary op e) = expression_fits named e
  expression_form_fits named (s.size_expression e) = expression_fits named e
  expression_form_fits named (s.size_name t) = type_name_fits named t
  expression_form_fits named (s.cast t e) = type_name_fits named t && expression_fits named e
  expression_form_fits named (s.binary op a b) = expression_fits named a && expression_fits named b
  expression_form_fits named (s.choice a b c) = expression_fits named a && expression_fits named b && expression_fits named c
  expression_form_fits named (s.assign op a b) = expression_fits named a && expression_fits named b

abbrev pub declaration_fits : (Span → Bool) → DeclarationTree → Bool
declaration_fits named (s.declaration word b ds) = base_fits named b && declarators_fits named ds

abbrev pub start_fits : (Span → Bool) → StartTree → Bool
start_fits named (s.start_declaration d) = declaration_fits named d
start_fits named (s.start_expression e) = maybe_expression_fits named e

abbrev pub label_fits : (Span → Bool) → LabelTree → Bool
label_fits named s.default_label = true
label_fits named (s.case_label e) = expression_fits named e

abbrev pub labels_fit : (Span → Bool) → LabelTrees → Bool
labels_fit named s.no_labels = true
labels_fit named (s.then_label x xs) = label_fits named x && labels_fit named xs

abbrev mutual
  pub statement_fits : (Span → Bool) → StmtTree → Bool
  statement_fits named (s.statement n f) = statement_form_fits named f

  pub statements_fit : (Span → Bool) → StmtTrees → Bool
  statements_fit named s.no_statements = true
  statements_fit named (s.then_statement x xs) = statement_fits named x && statements_fit named xs

  pub maybe_statement_fits : (Span → Bool) → MaybeStmtTree → Bool
  maybe_statement_fits named s.no_statement = true
  maybe_statement_fits named (s.some_statement x) = statement_fits named x

  pub statement_form_fits : (Span → Bool) → StmtFormTree → Bool
  statement_form_fits named (s.block ps) = parts_fit named ps
  statement_form_fits named (s.expression_statement e) = maybe_expression_fits named e
  statement_form_fits named (s.if_statement e x other) = expression_fits named e && statement_fits named x && maybe_statement_fits named other
  statement_form_fits named (s.switch_statement e xs) = expression_fits named e && sections_fit named xs
  statement_form_fits named (s.while_statement e x) = expression_fits named e && statement_fits named x
  statement_form_fits named (s.do_statement x e) = statement_fits named x && expression_fits named e
  statement_form_fits named (s.for_statement first test step x) = start_fits named first && maybe_expression_fits named test && maybe_expression_fits named step && statement_fits named x
  statement_form_fits named s.break_statement = true
  statement_form_fits named s.continue_statement = true
  statement_form_fits named (s.return_statement e) = maybe_expression_fits named e

  pub part_fits : (Span → Bool) → PartTree → Bool
  part_fits named (s.local d) = declaration_fits named d
  part_fits named (s.run x) = statement_fits named x

  pub parts_fit : (Span → Bool) → PartTrees → Bool
  parts_fit named s.no_parts = true
  parts_fit named (s.then_part x xs) = part_fits named x && parts_fit named xs

  pub section_fits : (Span → Bool) → SectionTree → Bool
  section_fits named (s.section n ls body) = labels_fit named ls && statements_fit named body

  pub sections_fit : (Span → Bool) → SectionTrees → Bool
  sections_fit named s.no_sections = true
  sections_fit named (s.then_section x xs) = section_fits named x && sections_fit named xs

abbrev pub function_fits : (Span → Bool) → FunctionTree → Bool
function_fits named (s.function word b d body) = base_fits named b && declarator_fits named d && statement_fits named body

abbrev pub unit_fits : (Span → Bool) → UnitTree → Bool
unit_fits named (s.empty_unit n) = true
unit_fits named (s.declares n d) = declaration_fits named d
unit_fits named (s.defines n f) = function_fits named f
