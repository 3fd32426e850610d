-- A layout changes no token that a tree prints.
use Rattle.std.proofs.Common.{◌≡◌, ℕ, ◌+◌, refl}
use Rattle.stk_tree.specs.declared.node.Node.{Node}
use Rattle.stk_tree.specs.Syntax.{BaseFormTree, BaseTree, DeclarationTree, DeclrTree, DeclrTrees, DesigTree, DesigTrees, DimensionTree, DimensionTrees, EnumrTree, EnumrTrees, ExprFormTree, ExprTree, ExprTrees, FunctionTree, InitTree, ItemTree, ItemTrees, LabelTree, LabelTrees, MaybeExprTree, MaybeInitTree, MaybeStmtTree, MemberTree, MemberTrees, ParamTree, ParamTrees, PartTree, PartTrees, SectionTree, SectionTrees, StartTree, StmtFormTree, StmtTree, StmtTrees, TailTree, TypeNameTree}
use Rattle.stk_tree.specs.Syntax as s
use Rattle.stk_tree.specs.Tokens.{base_form_tokens, base_tokens, declaration_tokens, declarator_tokens, declarators_tokens, designator_tokens, designators_tokens, dimension_tokens, dimensions_tokens, else_tokens, enumerator_tokens, enumerators_tokens, expression_form_tokens, expression_tokens, expressions_tokens, function_tokens, initial_tokens, initialiser_tokens, item_tokens, items_tokens, label_tokens, labels_tokens, member_tokens, members_tokens, more_declarators, more_enumerators, more_expressions, more_items, more_parameters, optional_tokens, parameter_tokens, parameters_tokens, part_tokens, parts_tokens, path_end, section_tokens, sections_tokens, start_tokens, statement_form_tokens, statement_tokens, statements_tokens, tail_tokens, type_name_tokens, value_tokens}
use Rattle.stk_tree.specs.Layout.{laid_base, laid_base_form, laid_declaration, laid_declarator, laid_declarators, laid_designator, laid_designators, laid_dimension, laid_dimensions, laid_enumerator, laid_enumerators, laid_expression, laid_expression_form, laid_expressions, laid_function, laid_initialiser, laid_item, laid_items, laid_label, laid_labels, laid_maybe_expression, laid_maybe_initialiser, laid_maybe_statement, laid_member, laid_members, laid_parameter, laid_parameters, laid_part, laid_parts, laid_section, laid_sections, laid_start, laid_statement, laid_statement_form, laid_statements, laid_tail, laid_type_name}

module _ (set : ℕ → ℕ → ℕ → Node) where
  pub path_end-laid : (x : DesigTrees) (n t : ℕ) → path_end (laid_designators set n t x) ≡ path_end x
  path_end-laid s.no_designators n t = refl
  path_end-laid (s.then_designator d ds) n t = refl

  mutual
    pub base_tokens-laid : (x : BaseTree) (n t : ℕ) → base_tokens (laid_base set n t x) ≡ base_tokens x
    base_tokens-laid (s.base k f) n t = rw (base_form_tokens-laid f _ _) refl

    pub base_form_tokens-laid : (x : BaseFormTree) (n t : ℕ) → base_form_tokens (laid_base_form set n t x) ≡ base_form_tokens x
    base_form_tokens-laid (s.words ws) n t = refl
    base_form_tokens-laid (s.struct_ref tag) n t = refl
    base_form_tokens-laid (s.struct_def tag ms) n t = rw (members_tokens-laid ms _ _) refl
    base_form_tokens-laid (s.enum_ref tag) n t = refl
    base_form_tokens-laid (s.enum_def tag es comma) n t = rw (enumerators_tokens-laid es _ _) refl
    base_form_tokens-laid (s.named at) n t = refl

    pub member_tokens-laid : (x : MemberTree) (n t : ℕ) → member_tokens (laid_member set n t x) ≡ member_tokens x
    member_tokens-laid (s.member b ds) n t = rw (declarators_tokens-laid ds _ _, base_tokens-laid b _ _) refl

    pub members_tokens-laid : (x : MemberTrees) (n t : ℕ) → members_tokens (laid_members set n t x) ≡ members_tokens x
    members_tokens-laid s.no_members n t = refl
    members_tokens-laid (s.then_member x xs) n t = rw (members_tokens-laid xs _ _, member_tokens-laid x _ _) refl

    pub enumerator_tokens-laid : (x : EnumrTree) (n t : ℕ) → enumerator_tokens (laid_enumerator set n t x) ≡ enumerator_tokens x
    enumerator_tokens-laid (s.enumerator at e) n t = rw (value_tokens-laid e _ _) refl

    pub enumerators_tokens-laid : (x : EnumrTrees) (n t : ℕ) → enumerators_tokens (laid_enumerators set n t x) ≡ enumerators_tokens x
    enumerators_tokens-laid s.no_enumerators n t = refl
    enumerators_tokens-laid (s.then_enumerator x xs) n t = rw (enumerator_tokens-laid x _ _, more_enumerators-laid xs _ _) refl

    pub more_enumerators-laid : (x : EnumrTrees) (n t : ℕ) → more_enumerators (laid_enumerators set n t x) ≡ more_enumerators x
    more_enumerators-laid s.no_enumerators n t = refl
    more_enumerators-laid (s.then_enumerator x xs) n t = rw (enumerator_tokens-laid x _ _, more_enumerators-laid xs _ _) refl

    pub value_tokens-laid : (x : MaybeExprTree) (n t : ℕ) → value_tokens (laid_maybe_expression set n t x) ≡ value_tokens x
    value_tokens-laid s.no_expression n t = refl
    value_tokens-laid (s.some_expression e) n t = rw (expression_tokens-laid e _ _) refl

    pub declarator_tokens-laid : (x : DeclrTree) (n t : ℕ) → declarator_tokens (laid_declarator set n t x) ≡ declarator_tokens x
    declarator_tokens-laid (s.declarator k count at q i) n t = rw (initial_tokens-laid i _ _, tail_tokens-laid q _ _) refl

    pub declarators_tokens-laid : (x : DeclrTrees) (n t : ℕ) → declarators_tokens (laid_declarators set n t x) ≡ declarators_tokens x
    declarators_tokens-laid s.no_declarators n t = refl
    declarators_tokens-laid (s.then_declarator x xs) n t = rw (declarator_tokens-laid x _ _, more_declarators-laid xs _ _) refl

    pub more_declarators-laid : (x : DeclrTrees) (n t : ℕ) → more_declarators (laid_declarators set n t x) ≡ more_declarators x
    more_declarators-laid s.no_declarators n t = refl
    more_declarators-laid (s.then_declarator x xs) n t = rw (declarator_tokens-laid x _ _, more_declarators-laid xs _ _) refl

    pub initial_tokens-laid : (x : MaybeInitTree) (n t : ℕ) → initial_tokens (laid_maybe_initialiser set n t x) ≡ initial_tokens x
    initial_tokens-laid s.no_initialiser n t = refl
    initial_tokens-laid (s.some_initialiser i) n t = rw (initialiser_tokens-laid i _ _) refl

    pub tail_tokens-laid : (x : TailTree) (n t : ℕ) → tail_tokens (laid_tail set n t x) ≡ tail_tokens x
    tail_tokens-laid (s.arrays ds) n t = rw (dimensions_tokens-laid ds _ _) refl
    tail_tokens-laid s.unspecified n t = refl
    tail_tokens-laid s.void_parameters n t = refl
    tail_tokens-laid (s.with_parameters ps more) n t = rw (parameters_tokens-laid ps _ _) refl

    pub dimension_tokens-laid : (x : DimensionTree) (n t : ℕ) → dimension_tokens (laid_dimension set n t x) ≡ dimension_tokens x
    dimension_tokens-laid s.open_dimension n t = refl
    dimension_tokens-laid (s.sized e) n t = rw (expression_tokens-laid e _ _) refl

    pub dimensions_tokens-laid : (x : DimensionTrees) (n t : ℕ) → dimensions_tokens (laid_dimensions set n t x) ≡ dimensions_tokens x
    dimensions_tokens-laid s.no_dimensions n t = refl
    dimensions_tokens-laid (s.then_dimension x xs) n t = rw (dimensions_tokens-laid xs _ _, dimension_tokens-laid x _ _) refl

    pub parameter_tokens-laid : (x : ParamTree) (n t : ℕ) → parameter_tokens (laid_parameter set n t x) ≡ parameter_tokens x
    parameter_tokens-laid (s.parameter k b d) n t = rw (declarator_tokens-laid d _ _, base_tokens-laid b _ _) refl

    pub parameters_tokens-laid : (x : ParamTrees) (n t : ℕ) → parameters_tokens (laid_parameters set n t x) ≡ parameters_tokens x
    parameters_tokens-laid s.no_parameters n t = refl
    parameters_tokens-laid (s.then_parameter x xs) n t = rw (parameter_tokens-laid x _ _, more_parameters-laid xs _ _) refl

    pub more_parameters-laid : (x : ParamTrees) (n t : ℕ) → more_parameters (laid_parameters set n t x) ≡ more_parameters x
    more_parameters-laid s.no_parameters n t = refl
    more_parameters-laid (s.then_parameter x xs) n t = rw (parameter_tokens-laid x _ _, more_parameters-laid xs _ _) refl

    pub type_name_tokens-laid : (x : TypeNameTree) (n t : ℕ) → type_name_tokens (laid_type_name set n t x) ≡ type_name_tokens x
    type_name_tokens-laid (s.type_name k b count ds) n t = rw (dimensions_tokens-laid ds _ _, base_tokens-laid b _ _) refl

    pub initialiser_tokens-laid : (x : InitTree) (n t : ℕ) → initialiser_tokens (laid_initialiser set n t x) ≡ initialiser_tokens x
    initialiser_tokens-laid (s.plain e) n t = rw (expression_tokens-laid e _ _) refl
    initialiser_tokens-laid (s.braces is comma) n t = rw (items_tokens-laid is _ _) refl

    pub item_tokens-laid : (x : ItemTree) (n t : ℕ) → item_tokens (laid_item set n t x) ≡ item_tokens x
    item_tokens-laid (s.item ds i) n t = rw (initialiser_tokens-laid i _ _, designators_tokens-laid ds _ _, path_end-laid ds _ _) refl

    pub items_tokens-laid : (x : ItemTrees) (n t : ℕ) → items_tokens (laid_items set n t x) ≡ items_tokens x
    items_tokens-laid s.no_items n t = refl
    items_tokens-laid (s.then_item x xs) n t = rw (item_tokens-laid x _ _, more_items-laid xs _ _) refl

    pub more_items-laid : (x : ItemTrees) (n t : ℕ) → more_items (laid_items set n t x) ≡ more_items x
    more_items-laid s.no_items n t = refl
    more_items-laid (s.then_item x xs) n t = rw (item_tokens-laid x _ _, more_items-laid xs _ _) refl

    pub designator_tokens-laid : (x : DesigTree) (n t : ℕ) → designator_tokens (laid_designator set n t x) ≡ designator_tokens x
    designator_tokens-laid (s.dot_designator at) n t = refl
    designator_tokens-laid (s.at_designator e) n t = rw (expression_tokens-laid e _ _) refl

    pub designators_tokens-laid : (x : DesigTrees) (n t : ℕ) → designators_tokens (laid_designators set n t x) ≡ designators_tokens x
    designators_tokens-laid s.no_designators n t = refl
    designators_tokens-laid (s.then_designator x xs) n t = rw (designators_tokens-laid xs _ _, designator_tokens-laid x _ _) refl

    pub expression_tokens-laid : (x : ExprTree) (n t : ℕ) → expression_tokens (laid_expression set n t x) ≡ expression_tokens x
    expression_tokens-laid (s.expression k f) n t = rw (expression_form_tokens-laid f _ _) refl

    pub expressions_tokens-laid : (x : ExprTrees) (n t : ℕ) → expressions_tokens (laid_expressions set n t x) ≡ expressions_tokens x
    expressions_tokens-laid s.no_expressions n t = refl
    expressions_tokens-laid (s.then_expression x xs) n t = rw (expression_tokens-laid x _ _, more_expressions-laid xs _ _) refl

    pub more_expressions-laid : (x : ExprTrees) (n t : ℕ) → more_expressions (laid_expressions set n t x) ≡ more_expressions x
    more_expressions-laid s.no_expressions n t = refl
    more_expressions-laid (s.then_expression x xs) n t = rw (expression_tokens-laid x _ _, more_expressions-laid xs _ _) refl

    pub expression_form_tokens-laid : (x : ExprFormTree) (n t : ℕ) → expression_form_tokens (laid_expression_form set n t x) ≡ expression_form_tokens x
    expression_form_tokens-laid (s.name at) n t = refl
    expression_form_tokens-laid (s.number at) n t = refl
    expression_form_tokens-laid (s.character at) n t = refl
    expression_form_tokens-laid (s.text parts) n t = refl
    expression_form_tokens-laid (s.paren e) n t = rw (expression_tokens-laid e _ _) refl
    expression_form_tokens-laid (s.index a b) n t = rw (expression_tokens-laid a _ _, expression_tokens-laid b _ _) refl
    expression_form_tokens-laid (s.call f args) n t = rw (expressions_tokens-laid args _ _, expression_tokens-laid f _ _) refl
    expression_form_tokens-laid (s.dot e at) n t = rw (expression_tokens-laid e _ _) refl
    expression_form_tokens-laid (s.arrow e at) n t = rw (expression_tokens-laid e _ _) refl
    expression_form_tokens-laid (s.step op e) n t = rw (expression_tokens-laid e _ _) refl
    expression_form_tokens-laid (s.unary op e) n t = rw (expression_tokens-laid e _ _) refl
    expression_form_tokens-laid (s.size_expression e) n t = rw (expression_tokens-laid e _ _) refl
    expression_form_tokens-laid (s.size_name q) n t = rw (type_name_tokens-laid q _ _) refl
    expression_form_tokens-laid (s.cast q e) n t = rw (expression_tokens-laid e _ _, type_name_tokens-laid q _ _) refl
    expression_form_tokens-laid (s.binary op a b) n t = rw (expression_tokens-laid a _ _, expression_tokens-laid b _ _) refl
    expression_form_tokens-laid (s.choice a b c) n t = rw (expression_tokens-laid a _ _, expression_tokens-laid b _ _, expression_tokens-laid c _ _) refl
    expression_form_tokens-laid (s.assign op a b) n t = rw (expression_tokens-laid a _ _, expression_tokens-laid b _ _) refl

  pub optional_tokens-laid : (x : MaybeExprTree) (n t : ℕ) → optional_tokens (laid_maybe_expression set n t x) ≡ optional_tokens x
  optional_tokens-laid s.no_expression n t = refl
  optional_tokens-laid (s.some_expression e) n t = rw (expression_tokens-laid e _ _) refl

  pub declaration_tokens-laid : (x : DeclarationTree) (n t : ℕ) → declaration_tokens (laid_declaration set n t x) ≡ declaration_tokens x
  declaration_tokens-laid (s.declaration word b ds) n t = rw (declarators_tokens-laid ds _ _, base_tokens-laid b _ _) refl

  pub start_tokens-laid : (x : StartTree) (n t : ℕ) → start_tokens (laid_start set n t x) ≡ start_tokens x
  start_tokens-laid (s.start_declaration d) n t = rw (declaration_tokens-laid d _ _) refl
  start_tokens-laid (s.start_expression e) n t = rw (optional_tokens-laid e _ _) refl

  pub label_tokens-laid : (x : LabelTree) (n t : ℕ) → label_tokens (laid_label set n t x) ≡ label_tokens x
  label_tokens-laid s.default_label n t = refl
  label_tokens-laid (s.case_label e) n t = rw (expression_tokens-laid e _ _) refl

  pub labels_tokens-laid : (x : LabelTrees) (n t : ℕ) → labels_tokens (laid_labels set n t x) ≡ labels_tokens x
  labels_tokens-laid s.no_labels n t = refl
  labels_tokens-laid (s.then_label x xs) n t = rw (labels_tokens-laid xs _ _, label_tokens-laid x _ _) refl

  mutual
    pub statement_tokens-laid : (x : StmtTree) (n t : ℕ) → statement_tokens (laid_statement set n t x) ≡ statement_tokens x
    statement_tokens-laid (s.statement k f) n t = rw (statement_form_tokens-laid f _ _) refl

    pub statements_tokens-laid : (x : StmtTrees) (n t : ℕ) → statements_tokens (laid_statements set n t x) ≡ statements_tokens x
    statements_tokens-laid s.no_statements n t = refl
    statements_tokens-laid (s.then_statement x xs) n t = rw (statements_tokens-laid xs _ _, statement_tokens-laid x _ _) refl

    pub else_tokens-laid : (x : MaybeStmtTree) (n t : ℕ) → else_tokens (laid_maybe_statement set n t x) ≡ else_tokens x
    else_tokens-laid s.no_statement n t = refl
    else_tokens-laid (s.some_statement x) n t = rw (statement_tokens-laid x _ _) refl

    pub statement_form_tokens-laid : (x : StmtFormTree) (n t : ℕ) → statement_form_tokens (laid_statement_form set n t x) ≡ statement_form_tokens x
    statement_form_tokens-laid (s.block ps) n t = rw (parts_tokens-laid ps _ _) refl
    statement_form_tokens-laid (s.expression_statement e) n t = rw (optional_tokens-laid e _ _) refl
    statement_form_tokens-laid (s.if_statement e x other) n t = rw (expression_tokens-laid e _ _, statement_tokens-laid x _ _, else_tokens-laid other _ _) refl
    statement_form_tokens-laid (s.switch_statement e xs) n t = rw (expression_tokens-laid e _ _, sections_tokens-laid xs _ _) refl
    statement_form_tokens-laid (s.while_statement e x) n t = rw (expression_tokens-laid e _ _, statement_tokens-laid x _ _) refl
    statement_form_tokens-laid (s.do_statement x e) n t = rw (expression_tokens-laid e _ _, statement_tokens-laid x _ _) refl
    statement_form_tokens-laid (s.for_statement first test step x) n t = rw (start_tokens-laid first n (t + 2), optional_tokens-laid test _ _, optional_tokens-laid step _ _, statement_tokens-laid x _ _) refl
    statement_form_tokens-laid s.break_statement n t = refl
    statement_form_tokens-laid s.continue_statement n t = refl
    statement_form_tokens-laid (s.return_statement e) n t = rw (optional_tokens-laid e _ _) refl

    pub part_tokens-laid : (x : PartTree) (n t : ℕ) → part_tokens (laid_part set n t x) ≡ part_tokens x
    part_tokens-laid (s.local d) n t = rw (declaration_tokens-laid d _ _) refl
    part_tokens-laid (s.run x) n t = rw (statement_tokens-laid x _ _) refl

    pub parts_tokens-laid : (x : PartTrees) (n t : ℕ) → parts_tokens (laid_parts set n t x) ≡ parts_tokens x
    parts_tokens-laid s.no_parts n t = refl
    parts_tokens-laid (s.then_part x xs) n t = rw (parts_tokens-laid xs _ _, part_tokens-laid x _ _) refl

    pub section_tokens-laid : (x : SectionTree) (n t : ℕ) → section_tokens (laid_section set n t x) ≡ section_tokens x
    section_tokens-laid (s.section k labels body) n t = rw (statements_tokens-laid body _ _, labels_tokens-laid labels _ _) refl

    pub sections_tokens-laid : (x : SectionTrees) (n t : ℕ) → sections_tokens (laid_sections set n t x) ≡ sections_tokens x
    sections_tokens-laid s.no_sections n t = refl
    sections_tokens-laid (s.then_section x xs) n t = rw (sections_tokens-laid xs _ _, section_tokens-laid x _ _) refl

  pub function_tokens-laid : (x : FunctionTree) (n t : ℕ) → function_tokens (laid_function set n t x) ≡ function_tokens x
  function_tokens-laid (s.function word b d body) n t = rw (declarator_tokens-laid d _ _, statement_tokens-laid body _ _, base_tokens-laid b _ _) refl
