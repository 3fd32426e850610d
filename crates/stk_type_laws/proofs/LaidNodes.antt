-- A tree that is laid out has as many nodes as before.
use Rattle.std.proofs.Common.{◌≡◌, ℕ, ◌+◌, refl, arith}
use Rattle.stk_tree.specs.declared.node.Node.{Node}
use Rattle.stk_tree.specs.Syntax.{BaseTree, BaseFormTree, MemberTree, MemberTrees, EnumrTree, EnumrTrees, DeclrTree, DeclrTrees, TailTree, DimensionTree, DimensionTrees, ParamTree, ParamTrees, TypeNameTree, InitTree, MaybeInitTree, ItemTree, ItemTrees, DesigTree, DesigTrees, ExprTree, ExprTrees, MaybeExprTree, ExprFormTree}
use Rattle.stk_tree.specs.Syntax.{DeclarationTree, StartTree, LabelTree, LabelTrees, StmtTree, StmtTrees, MaybeStmtTree, StmtFormTree, PartTree, PartTrees, SectionTree, SectionTrees}
use Rattle.stk_tree.specs.Syntax as s
use Rattle.stk_tree.specs.Nodes.{base_form_nodes, base_nodes, declaration_nodes, declarator_nodes, declarators_nodes, designator_nodes, designators_nodes, dimension_nodes, dimensions_nodes, enumerator_nodes, enumerators_nodes, expression_form_nodes, expression_nodes, expressions_nodes, initialiser_nodes, item_nodes, items_nodes, label_nodes, labels_nodes, maybe_expression_nodes, maybe_initialiser_nodes, maybe_statement_nodes, member_nodes, members_nodes, parameter_nodes, parameters_nodes, part_nodes, parts_nodes, section_nodes, sections_nodes, start_nodes, statement_form_nodes, statement_nodes, statements_nodes, tail_nodes, type_name_nodes}
use Rattle.stk_tree.specs.Layout.{laid_base, laid_base_form, laid_member, laid_members, laid_enumerator, laid_enumerators, laid_declarator, laid_declarators, laid_tail, laid_dimension, laid_dimensions, laid_parameter, laid_parameters, laid_type_name, laid_initialiser, laid_maybe_initialiser, laid_item, laid_items, laid_designator, laid_designators, laid_expression, laid_expressions, laid_maybe_expression, laid_expression_form, laid_declaration, laid_start, laid_label, laid_labels, laid_statement, laid_statements, laid_maybe_statement, laid_statement_form, laid_part, laid_parts, laid_section, laid_sections}

pub add : {a b c d : ℕ} → a ≡ b → c ≡ d → a + c ≡ b + d
add p q = omega (arith, p, q)

next : {a b : ℕ} → a ≡ b → a + 1 ≡ b + 1
next p = omega (arith, p)

module _ (set : ℕ → ℕ → ℕ → Node) where
  mutual
    pub base_same : (x : BaseTree) (n t : ℕ) → base_nodes (laid_base set n t x) ≡ base_nodes x
    base_same (s.base node f) n t = next (base_form_same f _ _)

    base_form_same : (x : BaseFormTree) (n t : ℕ) → base_form_nodes (laid_base_form set n t x) ≡ base_form_nodes x
    base_form_same (s.words ws) n t = refl
    base_form_same (s.struct_ref tag) n t = refl
    base_form_same (s.struct_def tag ms) n t = members_same ms _ _
    base_form_same (s.enum_ref tag) n t = refl
    base_form_same (s.enum_def tag es comma) n t = enumerators_same es _ _
    base_form_same (s.named at) n t = refl

    member_same : (x : MemberTree) (n t : ℕ) → member_nodes (laid_member set n t x) ≡ member_nodes x
    member_same (s.member b ds) n t = add (base_same b _ _) (declarators_same ds _ _)

    members_same : (x : MemberTrees) (n t : ℕ) → members_nodes (laid_members set n t x) ≡ members_nodes x
    members_same s.no_members n t = refl
    members_same (s.then_member y ys) n t = add (member_same y _ _) (members_same ys _ _)

    enumerator_same : (x : EnumrTree) (n t : ℕ) → enumerator_nodes (laid_enumerator set n t x) ≡ enumerator_nodes x
    enumerator_same (s.enumerator at e) n t = maybe_expression_same e _ _

    enumerators_same : (x : EnumrTrees) (n t : ℕ) → enumerators_nodes (laid_enumerators set n t x) ≡ enumerators_nodes x
    enumerators_same s.no_enumerators n t = refl
    enumerators_same (s.then_enumerator y ys) n t = add (enumerator_same y _ _) (enumerators_same ys _ _)

    pub declarator_same : (x : DeclrTree) (n t : ℕ) → declarator_nodes (laid_declarator set n t x) ≡ declarator_nodes x
    declarator_same (s.declarator node count at y i) n t = next (add (tail_same y _ _) (maybe_initialiser_same i _ _))

    pub declarators_same : (x : DeclrTrees) (n t : ℕ) → declarators_nodes (laid_declarators set n t x) ≡ declarators_nodes x
    declarators_same s.no_declarators n t = refl
    declarators_same (s.then_declarator y ys) n t = add (declarator_same y _ _) (declarators_same ys _ _)

    pub tail_same : (x : TailTree) (n t : ℕ) → tail_nodes (laid_tail set n t x) ≡ tail_nodes x
    tail_same (s.arrays ds) n t = dimensions_same ds _ _
    tail_same s.unspecified n t = refl
    tail_same s.void_parameters n t = refl
    tail_same (s.with_parameters ps more) n t = parameters_same ps _ _

    dimension_same : (x : DimensionTree) (n t : ℕ) → dimension_nodes (laid_dimension set n t x) ≡ dimension_nodes x
    dimension_same s.open_dimension n t = refl
    dimension_same (s.sized e) n t = expression_same e _ _

    dimensions_same : (x : DimensionTrees) (n t : ℕ) → dimensions_nodes (laid_dimensions set n t x) ≡ dimensions_nodes x
    dimensions_same s.no_dimensions n t = refl
    dimensions_same (s.then_dimension y ys) n t = add (dimension_same y _ _) (dimensions_same ys _ _)

    pub parameter_same : (x : ParamTree) (n t : ℕ) → parameter_nodes (laid_parameter set n t x) ≡ parameter_nodes x
    parameter_same (s.parameter node b d) n t = next (add (base_same b _ _) (declarator_same d _ _))

    pub parameters_same : (x : ParamTrees) (n t : ℕ) → parameters_nodes (laid_parameters set n t x) ≡ parameters_nodes x
    parameters_same s.no_parameters n t = refl
    parameters_same (s.then_parameter y ys) n t = add (parameter_same y _ _) (parameters_same ys _ _)

    pub type_name_same : (x : TypeNameTree) (n t : ℕ) → type_name_nodes (laid_type_name set n t x) ≡ type_name_nodes x
    type_name_same (s.type_name node b count ds) n t = next (add (base_same b _ _) (dimensions_same ds _ _))

    pub initialiser_same : (x : InitTree) (n t : ℕ) → initialiser_nodes (laid_initialiser set n t x) ≡ initialiser_nodes x
    initialiser_same (s.plain e) n t = expression_same e _ _
    initialiser_same (s.braces items comma) n t = items_same items _ _

    pub maybe_initialiser_same : (x : MaybeInitTree) (n t : ℕ) → maybe_initialiser_nodes (laid_maybe_initialiser set n t x) ≡ maybe_initialiser_nodes x
    maybe_initialiser_same s.no_initialiser n t = refl
    maybe_initialiser_same (s.some_initialiser i) n t = initialiser_same i _ _

    pub item_same : (x : ItemTree) (n t : ℕ) → item_nodes (laid_item set n t x) ≡ item_nodes x
    item_same (s.item ds i) n t = add (designators_same ds _ _) (initialiser_same i _ _)

    pub items_same : (x : ItemTrees) (n t : ℕ) → items_nodes (laid_items set n t x) ≡ items_nodes x
    items_same s.no_items n t = refl
    items_same (s.then_item y ys) n t = add (item_same y _ _) (items_same ys _ _)

    designator_same : (x : DesigTree) (n t : ℕ) → designator_nodes (laid_designator set n t x) ≡ designator_nodes x
    designator_same (s.dot_designator at) n t = refl
    designator_same (s.at_designator e) n t = expression_same e _ _

    pub designators_same : (x : DesigTrees) (n t : ℕ) → designators_nodes (laid_designators set n t x) ≡ designators_nodes x
    designators_same s.no_designators n t = refl
    designators_same (s.then_designator y ys) n t = add (designator_same y _ _) (designators_same ys _ _)

    pub expression_same : (x : ExprTree) (n t : ℕ) → expression_nodes (laid_expression set n t x) ≡ expression_nodes x
    expression_same (s.expression node f) n t = next (expression_form_same f _ _)

    pub expressions_same : (x : ExprTrees) (n t : ℕ) → expressions_nodes (laid_expressions set n t x) ≡ expressions_nodes x
    expressions_same s.no_expressions n t = refl
    expressions_same (s.then_expression y ys) n t = add (expression_same y _ _) (expressions_same ys _ _)

    pub maybe_expression_same : (x : MaybeExprTree) (n t : ℕ) → maybe_expression_nodes (laid_maybe_expression set n t x) ≡ maybe_expression_nodes x
    maybe_expression_same s.no_expression n t = refl
    maybe_expression_same (s.some_expression e) n t = expression_same e _ _

    pub expression_form_same : (x : ExprFormTree) (n t : ℕ) → expression_form_nodes (laid_expression_form set n t x) ≡ expression_form_nodes x
    expression_form_same (s.name at) n t = refl
    expression_form_same (s.number at) n t = refl
    expression_form_same (s.character at) n t = refl
    expression_form_same (s.text parts) n t = refl
    expression_form_same (s.paren e) n t = expression_same e _ _
    expression_form_same (s.index a b) n t = add (expression_same a _ _) (expression_same b _ _)
    expression_form_same (s.call f args) n t = add (expression_same f _ _) (expressions_same args _ _)
    expression_form_same (s.dot e at) n t = expression_same e _ _
    expression_form_same (s.arrow e at) n t = expression_same e _ _
    expression_form_same (s.step op e) n t = expression_same e _ _
    expression_form_same (s.unary op e) n t = expression_same e _ _
    expression_form_same (s.size_expression e) n t = expression_same e _ _
    expression_form_same (s.size_name y) n t = type_name_same y _ _
    expression_form_same (s.cast y e) n t = add (type_name_same y _ _) (expression_same e _ _)
    expression_form_same (s.binary op a b) n t = add (expression_same a _ _) (expression_same b _ _)
    expression_form_same (s.choice a b c) n t = add (add (expression_same a _ _) (expression_same b _ _)) (expression_same c _ _)
    expression_form_same (s.assign op a b) n t = add (expression_same a _ _) (expression_same b _ _)

  pub declaration_same : (x : DeclarationTree) (n t : ℕ) → declaration_nodes (laid_declaration set n t x) ≡ declaration_nodes x
  declaration_same (s.declaration word b ds) n t = add (base_same b _ _) (declarators_same ds _ _)

  pub start_same : (x : StartTree) (n t : ℕ) → start_nodes (laid_start set n t x) ≡ start_nodes x
  start_same (s.start_declaration d) n t = declaration_same d _ _
  start_same (s.start_expression e) n t = maybe_expression_same e _ _

  label_same : (x : LabelTree) (n t : ℕ) → label_nodes (laid_label set n t x) ≡ label_nodes x
  label_same s.default_label n t = refl
  label_same (s.case_label e) n t = expression_same e _ _

  pub labels_same : (x : LabelTrees) (n t : ℕ) → labels_nodes (laid_labels set n t x) ≡ labels_nodes x
  labels_same s.no_labels n t = refl
  labels_same (s.then_label y ys) n t = add (label_same y _ _) (labels_same ys _ _)

  mutual
    pub statement_same : (x : StmtTree) (n t : ℕ) → statement_nodes (laid_statement set n t x) ≡ statement_nodes x
    statement_same (s.statement node f) n t = next (statement_form_same f _ _)

    pub statements_same : (x : StmtTrees) (n t : ℕ) → statements_nodes (laid_statements set n t x) ≡ statements_nodes x
    statements_same s.no_statements n t = refl
    statements_same (s.then_statement y ys) n t = add (statement_same y _ _) (statements_same ys _ _)

    pub maybe_statement_same : (x : MaybeStmtTree) (n t : ℕ) → maybe_statement_nodes (laid_maybe_statement set n t x) ≡ maybe_statement_nodes x
    maybe_statement_same s.no_statement n t = refl
    maybe_statement_same (s.some_statement y) n t = statement_same y _ _

    pub statement_form_same : (x : StmtFormTree) (n t : ℕ) → statement_form_nodes (laid_statement_form set n t x) ≡ statement_form_nodes x
    statement_form_same (s.block ps) n t = parts_same ps _ _
    statement_form_same (s.expression_statement e) n t = maybe_expression_same e _ _
    statement_form_same (s.if_statement e y other) n t = add (add (expression_same e _ _) (statement_same y _ _)) (maybe_statement_same other _ _)
    statement_form_same (s.switch_statement e ys) n t = add (expression_same e _ _) (sections_same ys _ _)
    statement_form_same (s.while_statement e y) n t = add (expression_same e _ _) (statement_same y _ _)
    statement_form_same (s.do_statement y e) n t = add (statement_same y _ _) (expression_same e _ _)
    statement_form_same (s.for_statement first test step y) n t = add (add (add (start_same first _ _) (maybe_expression_same test _ _)) (maybe_expression_same step _ _)) (statement_same y _ _)
    statement_form_same s.break_statement n t = refl
    statement_form_same s.continue_statement n t = refl
    statement_form_same (s.return_statement e) n t = maybe_expression_same e _ _

    pub part_same : (x : PartTree) (n t : ℕ) → part_nodes (laid_part set n t x) ≡ part_nodes x
    part_same (s.local d) n t = declaration_same d _ _
    part_same (s.run y) n t = statement_same y _ _

    pub parts_same : (x : PartTrees) (n t : ℕ) → parts_nodes (laid_parts set n t x) ≡ parts_nodes x
    parts_same s.no_parts n t = refl
    parts_same (s.then_part y ys) n t = add (part_same y _ _) (parts_same ys _ _)

    pub section_same : (x : SectionTree) (n t : ℕ) → section_nodes (laid_section set n t x) ≡ section_nodes x
    section_same (s.section node labels body) n t = next (add (labels_same labels _ _) (statements_same body _ _))

    pub sections_same : (x : SectionTrees) (n t : ℕ) → sections_nodes (laid_sections set n t x) ≡ sections_nodes x
    sections_same s.no_sections n t = refl
    sections_same (s.then_section y ys) n t = add (section_same y _ _) (sections_same ys _ _)
