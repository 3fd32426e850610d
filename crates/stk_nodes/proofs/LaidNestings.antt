-- A layout doesn't change how high a tree is.
use Rattle.std.proofs.Common.{◌≡◌, ℕ, ◌+◌, refl}
use Rattle.stk_tree.specs.declared.node.Node.{Node}
use Rattle.stk_tree.specs.Syntax.{BaseFormTree, BaseTree, DeclarationTree, DeclrTree, DeclrTrees, DesigTree, DesigTrees, DimensionTree, DimensionTrees, EnumrTree, EnumrTrees, ExprFormTree, ExprTree, ExprTrees, FunctionTree, InitTree, ItemTree, ItemTrees, LabelTree, LabelTrees, MaybeExprTree, MaybeInitTree, MaybeStmtTree, MemberTree, MemberTrees, ParamTree, ParamTrees, PartTree, PartTrees, SectionTree, SectionTrees, StartTree, StmtFormTree, StmtTree, StmtTrees, TailTree, TypeNameTree}
use Rattle.stk_tree.specs.Syntax as s
use Rattle.stk_tree.specs.Nesting.{base_form_nesting, base_nesting, declaration_nesting, declarator_nesting, declarators_nesting, designator_nesting, designators_nesting, dimension_nesting, dimensions_nesting, enumerator_nesting, enumerators_nesting, expression_form_nesting, expression_nesting, expressions_nesting, function_nesting, initialiser_nesting, item_nesting, items_nesting, label_nesting, labels_nesting, maybe_expression_nesting, maybe_initialiser_nesting, maybe_statement_nesting, member_nesting, members_nesting, parameter_nesting, parameters_nesting, part_nesting, parts_nesting, section_nesting, sections_nesting, start_nesting, statement_form_nesting, statement_nesting, statements_nesting, tail_nesting, type_name_nesting}
use Rattle.stk_tree.specs.Layout.{laid_base, laid_base_form, laid_declaration, laid_declarator, laid_declarators, laid_designator, laid_designators, laid_dimension, laid_dimensions, laid_enumerator, laid_enumerators, laid_expression, laid_expression_form, laid_expressions, laid_function, laid_initialiser, laid_item, laid_items, laid_label, laid_labels, laid_maybe_expression, laid_maybe_initialiser, laid_maybe_statement, laid_member, laid_members, laid_parameter, laid_parameters, laid_part, laid_parts, laid_section, laid_sections, laid_start, laid_statement, laid_statement_form, laid_statements, laid_tail, laid_type_name}

module _ (set : ℕ → ℕ → ℕ → Node) where
  mutual
    pub base_nesting-laid : (x : BaseTree) (n t : ℕ) → base_nesting (laid_base set n t x) ≡ base_nesting x
    base_nesting-laid (s.base k f) n t = rw (base_form_nesting-laid f _ _) refl

    pub base_form_nesting-laid : (x : BaseFormTree) (n t : ℕ) → base_form_nesting (laid_base_form set n t x) ≡ base_form_nesting x
    base_form_nesting-laid (s.words ws) n t = refl
    base_form_nesting-laid (s.struct_ref tag) n t = refl
    base_form_nesting-laid (s.struct_def tag ms) n t = rw (members_nesting-laid ms _ _) refl
    base_form_nesting-laid (s.enum_ref tag) n t = refl
    base_form_nesting-laid (s.enum_def tag es comma) n t = rw (enumerators_nesting-laid es _ _) refl
    base_form_nesting-laid (s.named at) n t = refl

    pub member_nesting-laid : (x : MemberTree) (n t : ℕ) → member_nesting (laid_member set n t x) ≡ member_nesting x
    member_nesting-laid (s.member b ds) n t = rw (declarators_nesting-laid ds _ _, base_nesting-laid b _ _) refl

    pub members_nesting-laid : (x : MemberTrees) (n t : ℕ) → members_nesting (laid_members set n t x) ≡ members_nesting x
    members_nesting-laid s.no_members n t = refl
    members_nesting-laid (s.then_member x xs) n t = rw (members_nesting-laid xs _ _, member_nesting-laid x _ _) refl

    pub enumerator_nesting-laid : (x : EnumrTree) (n t : ℕ) → enumerator_nesting (laid_enumerator set n t x) ≡ enumerator_nesting x
    enumerator_nesting-laid (s.enumerator at e) n t = rw (maybe_expression_nesting-laid e _ _) refl

    pub enumerators_nesting-laid : (x : EnumrTrees) (n t : ℕ) → enumerators_nesting (laid_enumerators set n t x) ≡ enumerators_nesting x
    enumerators_nesting-laid s.no_enumerators n t = refl
    enumerators_nesting-laid (s.then_enumerator x xs) n t = rw (enumerators_nesting-laid xs _ _, enumerator_nesting-laid x _ _) refl

    pub declarator_nesting-laid : (x : DeclrTree) (n t : ℕ) → declarator_nesting (laid_declarator set n t x) ≡ declarator_nesting x
    declarator_nesting-laid (s.declarator k count at q i) n t = rw (maybe_initialiser_nesting-laid i _ _, tail_nesting-laid q _ _) refl

    pub declarators_nesting-laid : (x : DeclrTrees) (n t : ℕ) → declarators_nesting (laid_declarators set n t x) ≡ declarators_nesting x
    declarators_nesting-laid s.no_declarators n t = refl
    declarators_nesting-laid (s.then_declarator x xs) n t = rw (declarators_nesting-laid xs _ _, declarator_nesting-laid x _ _) refl

    pub tail_nesting-laid : (x : TailTree) (n t : ℕ) → tail_nesting (laid_tail set n t x) ≡ tail_nesting x
    tail_nesting-laid (s.arrays ds) n t = rw (dimensions_nesting-laid ds _ _) refl
    tail_nesting-laid s.unspecified n t = refl
    tail_nesting-laid s.void_parameters n t = refl
    tail_nesting-laid (s.with_parameters ps more) n t = rw (parameters_nesting-laid ps _ _) refl

    pub dimension_nesting-laid : (x : DimensionTree) (n t : ℕ) → dimension_nesting (laid_dimension set n t x) ≡ dimension_nesting x
    dimension_nesting-laid s.open_dimension n t = refl
    dimension_nesting-laid (s.sized e) n t = rw (expression_nesting-laid e _ _) refl

    pub dimensions_nesting-laid : (x : DimensionTrees) (n t : ℕ) → dimensions_nesting (laid_dimensions set n t x) ≡ dimensions_nesting x
    dimensions_nesting-laid s.no_dimensions n t = refl
    dimensions_nesting-laid (s.then_dimension x xs) n t = rw (dimensions_nesting-laid xs _ _, dimension_nesting-laid x _ _) refl

    pub parameter_nesting-laid : (x : ParamTree) (n t : ℕ) → parameter_nesting (laid_parameter set n t x) ≡ parameter_nesting x
    parameter_nesting-laid (s.parameter k b d) n t = rw (declarator_nesting-laid d _ _, base_nesting-laid b _ _) refl

    pub parameters_nesting-laid : (x : ParamTrees) (n t : ℕ) → parameters_nesting (laid_parameters set n t x) ≡ parameters_nesting x
    parameters_nesting-laid s.no_parameters n t = refl
    parameters_nesting-laid (s.then_parameter x xs) n t = rw (parameters_nesting-laid xs _ _, parameter_nesting-laid x _ _) refl

    pub type_name_nesting-laid : (x : TypeNameTree) (n t : ℕ) → type_name_nesting (laid_type_name set n t x) ≡ type_name_nesting x
    type_name_nesting-laid (s.type_name k b count ds) n t = rw (dimensions_nesting-laid ds _ _, base_nesting-laid b _ _) refl

    pub initialiser_nesting-laid : (x : InitTree) (n t : ℕ) → initialiser_nesting (laid_initialiser set n t x) ≡ initialiser_nesting x
    initialiser_nesting-laid (s.plain e) n t = rw (expression_nesting-laid e _ _) refl
    initialiser_nesting-laid (s.braces is comma) n t = rw (items_nesting-laid is _ _) refl

    pub maybe_initialiser_nesting-laid : (x : MaybeInitTree) (n t : ℕ) → maybe_initialiser_nesting (laid_maybe_initialiser set n t x) ≡ maybe_initialiser_nesting x
    maybe_initialiser_nesting-laid s.no_initialiser n t = refl
    maybe_initialiser_nesting-laid (s.some_initialiser i) n t = rw (initialiser_nesting-laid i _ _) refl

    pub item_nesting-laid : (x : ItemTree) (n t : ℕ) → item_nesting (laid_item set n t x) ≡ item_nesting x
    item_nesting-laid (s.item ds i) n t = rw (designators_nesting-laid ds _ _, initialiser_nesting-laid i _ _) refl

    pub items_nesting-laid : (x : ItemTrees) (n t : ℕ) → items_nesting (laid_items set n t x) ≡ items_nesting x
    items_nesting-laid s.no_items n t = refl
    items_nesting-laid (s.then_item x xs) n t = rw (items_nesting-laid xs _ _, item_nesting-laid x _ _) refl

    pub designator_nesting-laid : (x : DesigTree) (n t : ℕ) → designator_nesting (laid_designator set n t x) ≡ designator_nesting x
    designator_nesting-laid (s.dot_designator at) n t = refl
    designator_nesting-laid (s.at_designator e) n t = rw (expression_nesting-laid e _ _) refl

    pub designators_nesting-laid : (x : DesigTrees) (n t : ℕ) → designators_nesting (laid_designators set n t x) ≡ designators_nesting x
    designators_nesting-laid s.no_designators n t = refl
    designators_nesting-laid (s.then_designator x xs) n t = rw (designators_nesting-laid xs _ _, designator_nesting-laid x _ _) refl

    pub expression_nesting-laid : (x : ExprTree) (n t : ℕ) → expression_nesting (laid_expression set n t x) ≡ expression_nesting x
    expression_nesting-laid (s.expression k f) n t = rw (expression_form_nesting-laid f _ _) refl

    pub expressions_nesting-laid : (x : ExprTrees) (n t : ℕ) → expressions_nesting (laid_expressions set n t x) ≡ expressions_nesting x
    expressions_nesting-laid s.no_expressions n t = refl
    expressions_nesting-laid (s.then_expression x xs) n t = rw (expressions_nesting-laid xs _ _, expression_nesting-laid x _ _) refl

    pub maybe_expression_nesting-laid : (x : MaybeExprTree) (n t : ℕ) → maybe_expression_nesting (laid_maybe_expression set n t x) ≡ maybe_expression_nesting x
    maybe_expression_nesting-laid s.no_expression n t = refl
    maybe_expression_nesting-laid (s.some_expression e) n t = rw (expression_nesting-laid e _ _) refl

    pub expression_form_nesting-laid : (x : ExprFormTree) (n t : ℕ) → expression_form_nesting (laid_expression_form set n t x) ≡ expression_form_nesting x
    expression_form_nesting-laid (s.name at) n t = refl
    expression_form_nesting-laid (s.number at) n t = refl
    expression_form_nesting-laid (s.character at) n t = refl
    expression_form_nesting-laid (s.text parts) n t = refl
    expression_form_nesting-laid (s.paren e) n t = rw (expression_nesting-laid e _ _) refl
    expression_form_nesting-laid (s.index a b) n t = rw (expression_nesting-laid a _ _, expression_nesting-laid b _ _) refl
    expression_form_nesting-laid (s.call f args) n t = rw (expressions_nesting-laid args _ _, expression_nesting-laid f _ _) refl
    expression_form_nesting-laid (s.dot e at) n t = rw (expression_nesting-laid e _ _) refl
    expression_form_nesting-laid (s.arrow e at) n t = rw (expression_nesting-laid e _ _) refl
    expression_form_nesting-laid (s.step op e) n t = rw (expression_nesting-laid e _ _) refl
    expression_form_nesting-laid (s.unary op e) n t = rw (expression_nesting-laid e _ _) refl
    expression_form_nesting-laid (s.size_expression e) n t = rw (expression_nesting-laid e _ _) refl
    expression_form_nesting-laid (s.size_name q) n t = rw (type_name_nesting-laid q _ _) refl
    expression_form_nesting-laid (s.cast q e) n t = rw (expression_nesting-laid e _ _, type_name_nesting-laid q _ _) refl
    expression_form_nesting-laid (s.binary op a b) n t = rw (expression_nesting-laid a _ _, expression_nesting-laid b _ _) refl
    expression_form_nesting-laid (s.choice a b c) n t = rw (expression_nesting-laid a _ _, expression_nesting-laid b _ _, expression_nesting-laid c _ _) refl
    expression_form_nesting-laid (s.assign op a b) n t = rw (expression_nesting-laid a _ _, expression_nesting-laid b _ _) refl

  pub declaration_nesting-laid : (x : DeclarationTree) (n t : ℕ) → declaration_nesting (laid_declaration set n t x) ≡ declaration_nesting x
  declaration_nesting-laid (s.declaration word b ds) n t = rw (declarators_nesting-laid ds _ _, base_nesting-laid b _ _) refl

  pub start_nesting-laid : (x : StartTree) (n t : ℕ) → start_nesting (laid_start set n t x) ≡ start_nesting x
  start_nesting-laid (s.start_declaration d) n t = rw (declaration_nesting-laid d _ _) refl
  start_nesting-laid (s.start_expression e) n t = rw (maybe_expression_nesting-laid e _ _) refl

  pub label_nesting-laid : (x : LabelTree) (n t : ℕ) → label_nesting (laid_label set n t x) ≡ label_nesting x
  label_nesting-laid s.default_label n t = refl
  label_nesting-laid (s.case_label e) n t = rw (expression_nesting-laid e _ _) refl

  pub labels_nesting-laid : (x : LabelTrees) (n t : ℕ) → labels_nesting (laid_labels set n t x) ≡ labels_nesting x
  labels_nesting-laid s.no_labels n t = refl
  labels_nesting-laid (s.then_label x xs) n t = rw (labels_nesting-laid xs _ _, label_nesting-laid x _ _) refl

  mutual
    pub statement_nesting-laid : (x : StmtTree) (n t : ℕ) → statement_nesting (laid_statement set n t x) ≡ statement_nesting x
    statement_nesting-laid (s.statement k f) n t = rw (statement_form_nesting-laid f _ _) refl

    pub statements_nesting-laid : (x : StmtTrees) (n t : ℕ) → statements_nesting (laid_statements set n t x) ≡ statements_nesting x
    statements_nesting-laid s.no_statements n t = refl
    statements_nesting-laid (s.then_statement x xs) n t = rw (statements_nesting-laid xs _ _, statement_nesting-laid x _ _) refl

    pub maybe_statement_nesting-laid : (x : MaybeStmtTree) (n t : ℕ) → maybe_statement_nesting (laid_maybe_statement set n t x) ≡ maybe_statement_nesting x
    maybe_statement_nesting-laid s.no_statement n t = refl
    maybe_statement_nesting-laid (s.some_statement x) n t = rw (statement_nesting-laid x _ _) refl

    pub statement_form_nesting-laid : (x : StmtFormTree) (n t : ℕ) → statement_form_nesting (laid_statement_form set n t x) ≡ statement_form_nesting x
    statement_form_nesting-laid (s.block ps) n t = rw (parts_nesting-laid ps _ _) refl
    statement_form_nesting-laid (s.expression_statement e) n t = rw (maybe_expression_nesting-laid e _ _) refl
    statement_form_nesting-laid (s.if_statement e x other) n t = rw (maybe_statement_nesting-laid other _ _, expression_nesting-laid e _ _, statement_nesting-laid x _ _) refl
    statement_form_nesting-laid (s.switch_statement e xs) n t = rw (expression_nesting-laid e _ _, sections_nesting-laid xs _ _) refl
    statement_form_nesting-laid (s.while_statement e x) n t = rw (expression_nesting-laid e _ _, statement_nesting-laid x _ _) refl
    statement_form_nesting-laid (s.do_statement x e) n t = rw (expression_nesting-laid e _ _, statement_nesting-laid x _ _) refl
    statement_form_nesting-laid (s.for_statement first test step x) n t = rw (maybe_expression_nesting-laid test _ _, maybe_expression_nesting-laid step _ _, statement_nesting-laid x _ _, start_nesting-laid first n (t + 2)) refl
    statement_form_nesting-laid s.break_statement n t = refl
    statement_form_nesting-laid s.continue_statement n t = refl
    statement_form_nesting-laid (s.return_statement e) n t = rw (maybe_expression_nesting-laid e _ _) refl

    pub part_nesting-laid : (x : PartTree) (n t : ℕ) → part_nesting (laid_part set n t x) ≡ part_nesting x
    part_nesting-laid (s.local d) n t = rw (declaration_nesting-laid d _ _) refl
    part_nesting-laid (s.run x) n t = rw (statement_nesting-laid x _ _) refl

    pub parts_nesting-laid : (x : PartTrees) (n t : ℕ) → parts_nesting (laid_parts set n t x) ≡ parts_nesting x
    parts_nesting-laid s.no_parts n t = refl
    parts_nesting-laid (s.then_part x xs) n t = rw (parts_nesting-laid xs _ _, part_nesting-laid x _ _) refl

    pub section_nesting-laid : (x : SectionTree) (n t : ℕ) → section_nesting (laid_section set n t x) ≡ section_nesting x
    section_nesting-laid (s.section k labels body) n t = rw (statements_nesting-laid body _ _, labels_nesting-laid labels _ _) refl

    pub sections_nesting-laid : (x : SectionTrees) (n t : ℕ) → sections_nesting (laid_sections set n t x) ≡ sections_nesting x
    sections_nesting-laid s.no_sections n t = refl
    sections_nesting-laid (s.then_section x xs) n t = rw (sections_nesting-laid xs _ _, section_nesting-laid x _ _) refl

  pub function_nesting-laid : (x : FunctionTree) (n t : ℕ) → function_nesting (laid_function set n t x) ≡ function_nesting x
  function_nesting-laid (s.function word b d body) n t = rw (declarator_nesting-laid d _ _, statement_nesting-laid body _ _, base_nesting-laid b _ _) refl
