-- A tree without the records of its nodes: each record is set to one and the same. Two trees are equal apart from the
-- records of their nodes where they are equal so.
use Rattle.stk_tree.specs.declared.node.Node.{Node}
use Rattle.stk_tree.specs.Syntax.{BaseTree, BaseFormTree, MemberTree, MemberTrees, EnumrTree, EnumrTrees, DeclrTree, DeclrTrees, TailTree, DimensionTree, DimensionTrees, ParamTree, ParamTrees, TypeNameTree, InitTree, MaybeInitTree, ItemTree, ItemTrees, DesigTree, DesigTrees, ExprTree, ExprTrees, MaybeExprTree, ExprFormTree}
use Rattle.stk_tree.specs.Syntax.{DeclarationTree, StartTree, LabelTree, LabelTrees, StmtTree, StmtTrees, MaybeStmtTree, StmtFormTree, PartTree, PartTrees, SectionTree, SectionTrees, FunctionTree, UnitTree}
use Rattle.stk_tree.specs.Syntax as s

-- the record of a node that isn't laid out yet
abbrev pub no_node : Node
no_node = record { number = 0; span = record { from = 0; to = 0 } }

-- a tree with each record set to that one
abbrev mutual
  pub unlaid_base : BaseTree → BaseTree
  unlaid_base (s.base node f) = s.base no_node (unlaid_base_form f)

  pub unlaid_base_form : BaseFormTree → BaseFormTree
  unlaid_base_form (s.words ws) = s.words ws
  unlaid_base_form (s.struct_ref tag) = s.struct_ref tag
  unlaid_base_form (s.struct_def tag ms) = s.struct_def tag (unlaid_members ms)
  unlaid_base_form (s.enum_ref tag) = s.enum_ref tag
  unlaid_base_form (s.enum_def tag es comma) = s.enum_def tag (unlaid_enumerators es) comma
  unlaid_base_form (s.named at) = s.named at

  pub unlaid_member : MemberTree → MemberTree
  unlaid_member (s.member b ds) = s.member (unlaid_base b) (unlaid_declarators ds)

  pub unlaid_members : MemberTrees → MemberTrees
  unlaid_members s.no_members = s.no_members
  unlaid_members (s.then_member x xs) = s.then_member (unlaid_member x) (unlaid_members xs)

  pub unlaid_enumerator : EnumrTree → EnumrTree
  unlaid_enumerator (s.enumerator at e) = s.enumerator at (unlaid_maybe_expression e)

  pub unlaid_enumerators : EnumrTrees → EnumrTrees
  unlaid_enumerators s.no_enumerators = s.no_enumerators
  unlaid_enumerators (s.then_enumerator x xs) = s.then_enumerator (unlaid_enumerator x) (unlaid_enumerators xs)

  pub unlaid_declarator : DeclrTree → DeclrTree
  unlaid_declarator (s.declarator node count at x i) = s.declarator no_node count at (unlaid_tail x) (unlaid_maybe_initialiser i)

  pub unlaid_declarators : DeclrTrees → DeclrTrees
  unlaid_declarators s.no_declarators = s.no_declarators
  unlaid_declarators (s.then_declarator x xs) = s.then_declarator (unlaid_declarator x) (unlaid_declarators xs)

  pub unlaid_tail : TailTree → TailTree
  unlaid_tail (s.arrays ds) = s.arrays (unlaid_dimensions ds)
  unlaid_tail s.unspecified = s.unspecified
  unlaid_tail s.void_parameters = s.void_parameters
  unlaid_tail (s.with_parameters ps more) = s.with_parameters (unlaid_parameters ps) more

  pub unlaid_dimension : DimensionTree → DimensionTree
  unlaid_dimension s.open_dimension = s.open_dimension
  unlaid_dimension (s.sized e) = s.sized (unlaid_expression e)

  pub unlaid_dimensions : DimensionTrees → DimensionTrees
  unlaid_dimensions s.no_dimensions = s.no_dimensions
  unlaid_dimensions (s.then_dimension x xs) = s.then_dimension (unlaid_dimension x) (unlaid_dimensions xs)

  pub unlaid_parameter : ParamTree → ParamTree
  unlaid_parameter (s.parameter node b d) = s.parameter no_node (unlaid_base b) (unlaid_declarator d)

  pub unlaid_parameters : ParamTrees → ParamTrees
  unlaid_parameters s.no_parameters = s.no_parameters
  unlaid_parameters (s.then_parameter x xs) = s.then_parameter (unlaid_parameter x) (unlaid_parameters xs)

  pub unlaid_type_name : TypeNameTree → TypeNameTree
  unlaid_type_name (s.type_name node b count ds) = s.type_name no_node (unlaid_base b) count (unlaid_dimensions ds)

  pub unlaid_initialiser : InitTree → InitTree
  unlaid_initialiser (s.plain e) = s.plain (unlaid_expression e)
  unlaid_initialiser (s.braces is comma) = s.braces (unlaid_items is) comma

  pub unlaid_maybe_initialiser : MaybeInitTree → MaybeInitTree
  unlaid_maybe_initialiser s.no_initialiser = s.no_initialiser
  unlaid_maybe_initialiser (s.some_initialiser i) = s.some_initialiser (unlaid_initialiser i)

  pub unlaid_item : ItemTree → ItemTree
  unlaid_item (s.item ds i) = s.item (unlaid_designators ds) (unlaid_initialiser i)

  pub unlaid_items : ItemTrees → ItemTrees
  unlaid_items s.no_items = s.no_items
  unlaid_items (s.then_item x xs) = s.then_item (unlaid_item x) (unlaid_items xs)

  pub unlaid_designator : DesigTree → DesigTree
  unlaid_designator (s.dot_designator at) = s.dot_designator at
  unlaid_designator (s.at_designator e) = s.at_designator (unlaid_expression e)

  pub unlaid_designators : DesigTrees → DesigTrees
  unlaid_designators s.no_designators = s.no_designators
  unlaid_designators (s.then_designator x xs) = s.then_designator (unlaid_designator x) (unlaid_designators xs)

  pub unlaid_expression : ExprTree → ExprTree
  unlaid_expression (s.expression node f) = s.expression no_node (unlaid_expression_form f)

  pub unlaid_expressions : ExprTrees → ExprTrees
  unlaid_expressions s.no_expressions = s.no_expressions
  unlaid_expressions (s.then_expression x xs) = s.then_expression (unlaid_expression x) (unlaid_expressions xs)

  pub unlaid_maybe_expression : MaybeExprTree → MaybeExprTree
  unlaid_maybe_expression s.no_expression = s.no_expression
  unlaid_maybe_expression (s.some_expression e) = s.some_expression (unlaid_expression e)

  pub unlaid_expression_form : ExprFormTree → ExprFormTree
  unlaid_expression_form (s.name at) = s.name at
  unlaid_expression_form (s.number at) = s.number at
  unlaid_expression_form (s.character at) = s.character at
  unlaid_expression_form (s.text parts) = s.text parts
  unlaid_expression_form (s.paren e) = s.paren (unlaid_expression e)
  unlaid_expression_form (s.index a b) = s.index (unlaid_expression a) (unlaid_expression b)
  unlaid_expression_form (s.call f args) = s.call (unlaid_expression f) (unlaid_expressions args)
  unlaid_expression_form (s.dot e at) = s.dot (unlaid_expression e) at
  unlaid_expression_form (s.arrow e at) = s.arrow (unlaid_expression e) at
  unlaid_expression_form (s.step op e) = s.step op (unlaid_expression e)
  unlaid_expression_form (s.unary op e) = s.unary op (unlaid_expression e)
  unlaid_expression_form (s.size_expression e) = s.size_expression (unlaid_expression e)
  unlaid_expression_form (s.size_name x) = s.size_name (unlaid_type_name x)
  unlaid_expression_form (s.cast x e) = s.cast (unlaid_type_name x) (unlaid_expression e)
  unlaid_expression_form (s.binary op a b) = s.binary op (unlaid_expression a) (unlaid_expression b)
  unlaid_expression_form (s.choice a b c) = s.choice (unlaid_expression a) (unlaid_expression b) (unlaid_expression c)
  unlaid_expression_form (s.assign op a b) = s.assign op (unlaid_expression a) (unlaid_expression b)

abbrev pub unlaid_declaration : DeclarationTree → DeclarationTree
unlaid_declaration (s.declaration word b ds) = s.declaration word (unlaid_base b) (unlaid_declarators ds)

abbrev pub unlaid_start : StartTree → StartTree
unlaid_start (s.start_declaration d) = s.start_declaration (unlaid_declaration d)
unlaid_start (s.start_expression e) = s.start_expression (unlaid_maybe_expression e)

abbrev pub unlaid_label : LabelTree → LabelTree
unlaid_label s.default_label = s.default_label
unlaid_label (s.case_label e) = s.case_label (unlaid_expression e)

abbrev pub unlaid_labels : LabelTrees → LabelTrees
unlaid_labels s.no_labels = s.no_labels
unlaid_labels (s.then_label x xs) = s.then_label (unlaid_label x) (unlaid_labels xs)

abbrev mutual
  pub unlaid_statement : StmtTree → StmtTree
  unlaid_statement (s.statement node f) = s.statement no_node (unlaid_statement_form f)

  pub unlaid_statements : StmtTrees → StmtTrees
  unlaid_statements s.no_statements = s.no_statements
  unlaid_statements (s.then_statement x xs) = s.then_statement (unlaid_statement x) (unlaid_statements xs)

  pub unlaid_maybe_statement : MaybeStmtTree → MaybeStmtTree
  unlaid_maybe_statement s.no_statement = s.no_statement
  unlaid_maybe_statement (s.some_statement x) = s.some_statement (unlaid_statement x)

  pub unlaid_statement_form : StmtFormTree → StmtFormTree
  unlaid_statement_form (s.block ps) = s.block (unlaid_parts ps)
  unlaid_statement_form (s.expression_statement e) = s.expression_statement (unlaid_maybe_expression e)
  unlaid_statement_form (s.if_statement e x other) = s.if_statement (unlaid_expression e) (unlaid_statement x) (unlaid_maybe_statement other)
  unlaid_statement_form (s.switch_statement e xs) = s.switch_statement (unlaid_expression e) (unlaid_sections xs)
  unlaid_statement_form (s.while_statement e x) = s.while_statement (unlaid_expression e) (unlaid_statement x)
  unlaid_statement_form (s.do_statement x e) = s.do_statement (unlaid_statement x) (unlaid_expression e)
  unlaid_statement_form (s.for_statement first test step x) = s.for_statement (unlaid_start first) (unlaid_maybe_expression test) (unlaid_maybe_expression step) (unlaid_statement x)
  unlaid_statement_form s.break_statement = s.break_statement
  unlaid_statement_form s.continue_statement = s.continue_statement
  unlaid_statement_form (s.return_statement e) = s.return_statement (unlaid_maybe_expression e)

  pub unlaid_part : PartTree → PartTree
  unlaid_part (s.local d) = s.local (unlaid_declaration d)
  unlaid_part (s.run x) = s.run (unlaid_statement x)

  pub unlaid_parts : PartTrees → PartTrees
  unlaid_parts s.no_parts = s.no_parts
  unlaid_parts (s.then_part x xs) = s.then_part (unlaid_part x) (unlaid_parts xs)

  pub unlaid_section : SectionTree → SectionTree
  unlaid_section (s.section node ls body) = s.section no_node (unlaid_labels ls) (unlaid_statements body)

  pub unlaid_sections : SectionTrees → SectionTrees
  unlaid_sections s.no_sections = s.no_sections
  unlaid_sections (s.then_section x xs) = s.then_section (unlaid_section x) (unlaid_sections xs)

abbrev pub unlaid_function : FunctionTree → FunctionTree
unlaid_function (s.function word b d body) = s.function word (unlaid_base b) (unlaid_declarator d) (unlaid_statement body)

abbrev pub unlaid_unit : UnitTree → UnitTree
unlaid_unit (s.empty_unit node) = s.empty_unit no_node
unlaid_unit (s.declares node d) = s.declares no_node (unlaid_declaration d)
unlaid_unit (s.defines node f) = s.defines no_node (unlaid_function f)
