-- A layout doesn't change whether a tree is well placed.
use Rattle.std.proofs.Common.{◌≡◌, ℕ, ◌+◌, Bool, true, false, not, Some, None, refl, ap}
use Rattle.stk_tree.specs.declared.node.Node.{Node}
use Rattle.stk_tree.specs.Syntax.{BaseFormTree, BaseTree, DeclarationTree, DeclrTree, DeclrTrees, DesigTree, DesigTrees, DimensionTree, DimensionTrees, EnumrTree, EnumrTrees, ExprFormTree, ExprTree, ExprTrees, FunctionTree, InitTree, ItemTree, ItemTrees, LabelTree, LabelTrees, MaybeExprTree, MaybeInitTree, MemberTree, MemberTrees, ParamTree, ParamTrees, PartTree, PartTrees, SectionTree, SectionTrees, StartTree, StmtFormTree, StmtTree, StmtTrees, TailTree, TypeNameTree}
use Rattle.stk_tree.specs.Syntax as s
use Rattle.stk_tree.specs.Nodes.{section_nodes}
use Rattle.stk_tree.specs.Placed.{arguments_placed, base_form_placed, base_placed, binary_level, comma_placed, constant_placed, declarator_placed, declarators_placed, designator_placed, designators_placed, dimension_placed, dimensions_placed, ends_open, enumerator_placed, enumerators_placed, expression_form_placed, expression_placed, file_declarators, file_placed, form_ends_open, form_level, function_declarator, function_placed, has_arrays, has_initialiser, has_name, initialiser_placed, is_unbraced, is_block, is_empty_declarator, is_empty_tail, is_void, is_void_parameter, item_placed, items_placed, label_placed, labels_placed, local_declarators, local_placed, lone_void, may_precede, maybe_initialiser_placed, member_declarator, member_declarators, member_placed, members_placed, optional_placed, parameter_declarator, parameter_placed, parameters_placed, part_placed, parts_placed, section_placed, sections_placed, some_declarators, some_dimensions, some_enumerators, some_labels, some_members, some_parameters, some_statements, start_placed, statement_form_placed, statement_placed, statements_placed, step_level, tail_placed, type_name_placed}
use Rattle.stk_tree.specs.Layout.{laid_base, laid_base_form, laid_declaration, laid_declarator, laid_declarators, laid_designator, laid_designators, laid_dimension, laid_dimensions, laid_enumerator, laid_enumerators, laid_expression, laid_expression_form, laid_expressions, laid_function, laid_initialiser, laid_item, laid_items, laid_label, laid_labels, laid_maybe_expression, laid_maybe_initialiser, laid_member, laid_members, laid_parameter, laid_parameters, laid_part, laid_parts, laid_section, laid_sections, laid_start, laid_statement, laid_statement_form, laid_statements, laid_tail, laid_type_name, section_width}

module _ (set : ℕ → ℕ → ℕ → Node) where
  pub form_level-laid : (x : ExprFormTree) (n t : ℕ) → form_level (laid_expression_form set n t x) ≡ form_level x
  form_level-laid (s.name at) n t = refl
  form_level-laid (s.number at) n t = refl
  form_level-laid (s.character at) n t = refl
  form_level-laid (s.text parts) n t = refl
  form_level-laid (s.paren e) n t = refl
  form_level-laid (s.index a b) n t = refl
  form_level-laid (s.call f args) n t = refl
  form_level-laid (s.dot e at) n t = refl
  form_level-laid (s.arrow e at) n t = refl
  form_level-laid (s.step op e) n t = refl
  form_level-laid (s.unary op e) n t = refl
  form_level-laid (s.size_expression e) n t = refl
  form_level-laid (s.size_name x) n t = refl
  form_level-laid (s.cast x e) n t = refl
  form_level-laid (s.binary op a b) n t = refl
  form_level-laid (s.choice a b c) n t = refl
  form_level-laid (s.assign op a b) n t = refl

  some_dimensions-laid : (x : DimensionTrees) (n t : ℕ) → some_dimensions (laid_dimensions set n t x) ≡ some_dimensions x
  some_dimensions-laid s.no_dimensions n t = refl
  some_dimensions-laid (s.then_dimension x xs) n t = refl

  some_declarators-laid : (x : DeclrTrees) (n t : ℕ) → some_declarators (laid_declarators set n t x) ≡ some_declarators x
  some_declarators-laid s.no_declarators n t = refl
  some_declarators-laid (s.then_declarator x xs) n t = refl

  some_members-laid : (x : MemberTrees) (n t : ℕ) → some_members (laid_members set n t x) ≡ some_members x
  some_members-laid s.no_members n t = refl
  some_members-laid (s.then_member x xs) n t = refl

  some_enumerators-laid : (x : EnumrTrees) (n t : ℕ) → some_enumerators (laid_enumerators set n t x) ≡ some_enumerators x
  some_enumerators-laid s.no_enumerators n t = refl
  some_enumerators-laid (s.then_enumerator x xs) n t = refl

  some_parameters-laid : (x : ParamTrees) (n t : ℕ) → some_parameters (laid_parameters set n t x) ≡ some_parameters x
  some_parameters-laid s.no_parameters n t = refl
  some_parameters-laid (s.then_parameter x xs) n t = refl

  comma_placed-laid : (comma : Bool) (x : ItemTrees) (n t : ℕ) → comma_placed comma (laid_items set n t x) ≡ comma_placed comma x
  comma_placed-laid true s.no_items n t = refl
  comma_placed-laid true (s.then_item x xs) n t = refl
  comma_placed-laid false x n t = refl

  pub is_unbraced-laid : (x : BaseTree) (n t : ℕ) → is_unbraced (laid_base set n t x) ≡ is_unbraced x
  is_unbraced-laid (s.base k (s.words ws)) n t = refl
  is_unbraced-laid (s.base k (s.struct_ref tag)) n t = refl
  is_unbraced-laid (s.base k (s.struct_def tag ms)) n t = refl
  is_unbraced-laid (s.base k (s.enum_ref tag)) n t = refl
  is_unbraced-laid (s.base k (s.enum_def tag es comma)) n t = refl
  is_unbraced-laid (s.base k (s.named at)) n t = refl

  is_void-laid : (x : BaseTree) (n t : ℕ) → is_void (laid_base set n t x) ≡ is_void x
  is_void-laid (s.base k (s.words ws)) n t = refl
  is_void-laid (s.base k (s.struct_ref tag)) n t = refl
  is_void-laid (s.base k (s.struct_def tag ms)) n t = refl
  is_void-laid (s.base k (s.enum_ref tag)) n t = refl
  is_void-laid (s.base k (s.enum_def tag es comma)) n t = refl
  is_void-laid (s.base k (s.named at)) n t = refl

  has_name-laid : (x : DeclrTree) (n t : ℕ) → has_name (laid_declarator set n t x) ≡ has_name x
  has_name-laid (s.declarator k count None q i) n t = refl
  has_name-laid (s.declarator k count (Some at) q i) n t = refl

  has_arrays-laid : (x : DeclrTree) (n t : ℕ) → has_arrays (laid_declarator set n t x) ≡ has_arrays x
  has_arrays-laid (s.declarator k count at (s.arrays ds) i) n t = refl
  has_arrays-laid (s.declarator k count at s.unspecified i) n t = refl
  has_arrays-laid (s.declarator k count at s.void_parameters i) n t = refl
  has_arrays-laid (s.declarator k count at (s.with_parameters ps more) i) n t = refl

  has_initialiser-laid : (x : DeclrTree) (n t : ℕ) → has_initialiser (laid_declarator set n t x) ≡ has_initialiser x
  has_initialiser-laid (s.declarator k count at q s.no_initialiser) n t = refl
  has_initialiser-laid (s.declarator k count at q (s.some_initialiser i)) n t = refl

  is_empty_tail-laid : (x : TailTree) (n t : ℕ) → is_empty_tail (laid_tail set n t x) ≡ is_empty_tail x
  is_empty_tail-laid (s.arrays ds) n t = ap not (some_dimensions-laid ds n t)
  is_empty_tail-laid s.unspecified n t = refl
  is_empty_tail-laid s.void_parameters n t = refl
  is_empty_tail-laid (s.with_parameters ps more) n t = refl

  is_empty_declarator-laid : (x : DeclrTree) (n t : ℕ) → is_empty_declarator (laid_declarator set n t x) ≡ is_empty_declarator x
  is_empty_declarator-laid (s.declarator k count None q s.no_initialiser) n t = rw (is_empty_tail-laid q _ _) refl
  is_empty_declarator-laid (s.declarator k count None q (s.some_initialiser i)) n t = rw (is_empty_tail-laid q _ _) refl
  is_empty_declarator-laid (s.declarator k count (Some at) q s.no_initialiser) n t = rw (is_empty_tail-laid q _ _) refl
  is_empty_declarator-laid (s.declarator k count (Some at) q (s.some_initialiser i)) n t = rw (is_empty_tail-laid q _ _) refl

  member_declarator-laid : (x : DeclrTree) (n t : ℕ) → member_declarator (laid_declarator set n t x) ≡ member_declarator x
  member_declarator-laid x n t = rw (has_name-laid x n t, has_arrays-laid x n t, has_initialiser-laid x n t) refl

  member_declarators-laid : (x : DeclrTrees) (n t : ℕ) → member_declarators (laid_declarators set n t x) ≡ member_declarators x
  member_declarators-laid s.no_declarators n t = refl
  member_declarators-laid (s.then_declarator x xs) n t = rw (member_declarator-laid x _ _, member_declarators-laid xs _ _) refl

  parameter_declarator-laid : (x : DeclrTree) (n t : ℕ) → parameter_declarator (laid_declarator set n t x) ≡ parameter_declarator x
  parameter_declarator-laid x n t = rw (has_arrays-laid x n t, has_initialiser-laid x n t) refl

  local_declarators-laid : (x : DeclrTrees) (n t : ℕ) → local_declarators (laid_declarators set n t x) ≡ local_declarators x
  local_declarators-laid s.no_declarators n t = refl
  local_declarators-laid (s.then_declarator x xs) n t = rw (has_name-laid x _ _, has_arrays-laid x _ _, local_declarators-laid xs _ _) refl

  file_declarators-laid : (x : DeclrTrees) (n t : ℕ) → file_declarators (laid_declarators set n t x) ≡ file_declarators x
  file_declarators-laid s.no_declarators n t = refl
  file_declarators-laid (s.then_declarator x xs) n t = rw (has_name-laid x _ _, file_declarators-laid xs _ _) refl

  pub function_declarator-laid : (x : DeclrTree) (n t : ℕ) → function_declarator (laid_declarator set n t x) ≡ function_declarator x
  function_declarator-laid x n t = rw (has_name-laid x n t, has_arrays-laid x n t, has_initialiser-laid x n t) refl

  is_void_parameter-laid : (x : ParamTree) (n t : ℕ) → is_void_parameter (laid_parameter set n t x) ≡ is_void_parameter x
  is_void_parameter-laid (s.parameter k b d) n t = rw (is_void-laid b _ _, is_empty_declarator-laid d _ _) refl

  lone_void-laid : (x : ParamTrees) (more : Bool) (n t : ℕ) → lone_void (laid_parameters set n t x) more ≡ lone_void x more
  lone_void-laid s.no_parameters more n t = refl
  lone_void-laid (s.then_parameter x s.no_parameters) more n t = rw (is_void_parameter-laid x _ _) refl
  lone_void-laid (s.then_parameter x (s.then_parameter y ys)) more n t = refl

  some_labels-laid : (x : LabelTrees) (n t : ℕ) → some_labels (laid_labels set n t x) ≡ some_labels x
  some_labels-laid s.no_labels n t = refl
  some_labels-laid (s.then_label x xs) n t = refl

  some_statements-laid : (x : StmtTrees) (n t : ℕ) → some_statements (laid_statements set n t x) ≡ some_statements x
  some_statements-laid s.no_statements n t = refl
  some_statements-laid (s.then_statement x xs) n t = refl

  may_precede-laid : (x : SectionTree) (xs : SectionTrees) (n t m u : ℕ) → may_precede (laid_section set n t x) (laid_sections set m u xs) ≡ may_precede x xs
  may_precede-laid (s.section k ls body) s.no_sections n t m u = refl
  may_precede-laid (s.section k ls body) (s.then_section y ys) n t m u = some_statements-laid body _ _

  is_block-laid : (x : StmtTree) (n t : ℕ) → is_block (laid_statement set n t x) ≡ is_block x
  is_block-laid (s.statement k (s.block ps)) n t = refl
  is_block-laid (s.statement k (s.expression_statement e)) n t = refl
  is_block-laid (s.statement k (s.if_statement e x other)) n t = refl
  is_block-laid (s.statement k (s.switch_statement e xs)) n t = refl
  is_block-laid (s.statement k (s.while_statement e x)) n t = refl
  is_block-laid (s.statement k (s.do_statement x e)) n t = refl
  is_block-laid (s.statement k (s.for_statement first test step x)) n t = refl
  is_block-laid (s.statement k s.break_statement) n t = refl
  is_block-laid (s.statement k s.continue_statement) n t = refl
  is_block-laid (s.statement k (s.return_statement e)) n t = refl

  mutual
    ends_open-laid : (x : StmtTree) (n t : ℕ) → ends_open (laid_statement set n t x) ≡ ends_open x
    ends_open-laid (s.statement k f) n t = form_ends_open-laid f n t

    form_ends_open-laid : (x : StmtFormTree) (n t : ℕ) → form_ends_open (laid_statement_form set n t x) ≡ form_ends_open x
    form_ends_open-laid (s.block ps) n t = refl
    form_ends_open-laid (s.expression_statement e) n t = refl
    form_ends_open-laid (s.if_statement e x s.no_statement) n t = refl
    form_ends_open-laid (s.if_statement e x (s.some_statement y)) n t = ends_open-laid y _ _
    form_ends_open-laid (s.switch_statement e xs) n t = refl
    form_ends_open-laid (s.while_statement e x) n t = ends_open-laid x _ _
    form_ends_open-laid (s.do_statement x e) n t = refl
    form_ends_open-laid (s.for_statement first test step x) n t = ends_open-laid x _ _
    form_ends_open-laid s.break_statement n t = refl
    form_ends_open-laid s.continue_statement n t = refl
    form_ends_open-laid (s.return_statement e) n t = refl

  mutual
    pub base_placed-laid : (x : BaseTree) (n t : ℕ) → base_placed (laid_base set n t x) ≡ base_placed x
    base_placed-laid (s.base k f) n t = rw (base_form_placed-laid f _ _) refl

    pub base_form_placed-laid : (x : BaseFormTree) (n t : ℕ) → base_form_placed (laid_base_form set n t x) ≡ base_form_placed x
    base_form_placed-laid (s.words ws) n t = refl
    base_form_placed-laid (s.struct_ref tag) n t = refl
    base_form_placed-laid (s.struct_def tag ms) n t = rw (members_placed-laid ms _ _, some_members-laid ms _ _) refl
    base_form_placed-laid (s.enum_ref tag) n t = refl
    base_form_placed-laid (s.enum_def tag es comma) n t = rw (enumerators_placed-laid es _ _, some_enumerators-laid es _ _) refl
    base_form_placed-laid (s.named at) n t = refl

    pub member_placed-laid : (x : MemberTree) (n t : ℕ) → member_placed (laid_member set n t x) ≡ member_placed x
    member_placed-laid (s.member b ds) n t = rw (member_declarators-laid ds _ _, declarators_placed-laid ds _ _, some_declarators-laid ds _ _, base_placed-laid b _ _) refl

    pub members_placed-laid : (x : MemberTrees) (n t : ℕ) → members_placed (laid_members set n t x) ≡ members_placed x
    members_placed-laid s.no_members n t = refl
    members_placed-laid (s.then_member x xs) n t = rw (members_placed-laid xs _ _, member_placed-laid x _ _) refl

    pub enumerator_placed-laid : (x : EnumrTree) (n t : ℕ) → enumerator_placed (laid_enumerator set n t x) ≡ enumerator_placed x
    enumerator_placed-laid (s.enumerator at e) n t = rw (constant_placed-laid e _ _) refl

    pub enumerators_placed-laid : (x : EnumrTrees) (n t : ℕ) → enumerators_placed (laid_enumerators set n t x) ≡ enumerators_placed x
    enumerators_placed-laid s.no_enumerators n t = refl
    enumerators_placed-laid (s.then_enumerator x xs) n t = rw (enumerators_placed-laid xs _ _, enumerator_placed-laid x _ _) refl

    pub constant_placed-laid : (x : MaybeExprTree) (n t : ℕ) → constant_placed (laid_maybe_expression set n t x) ≡ constant_placed x
    constant_placed-laid s.no_expression n t = refl
    constant_placed-laid (s.some_expression e) n t = rw (expression_placed-laid 3 e _ _) refl

    pub declarator_placed-laid : (x : DeclrTree) (n t : ℕ) → declarator_placed (laid_declarator set n t x) ≡ declarator_placed x
    declarator_placed-laid (s.declarator k count at q i) n t = rw (maybe_initialiser_placed-laid i _ _, tail_placed-laid q _ _) refl

    pub declarators_placed-laid : (x : DeclrTrees) (n t : ℕ) → declarators_placed (laid_declarators set n t x) ≡ declarators_placed x
    declarators_placed-laid s.no_declarators n t = refl
    declarators_placed-laid (s.then_declarator x xs) n t = rw (declarators_placed-laid xs _ _, declarator_placed-laid x _ _) refl

    pub tail_placed-laid : (x : TailTree) (n t : ℕ) → tail_placed (laid_tail set n t x) ≡ tail_placed x
    tail_placed-laid (s.arrays ds) n t = rw (dimensions_placed-laid ds _ _) refl
    tail_placed-laid s.unspecified n t = refl
    tail_placed-laid s.void_parameters n t = refl
    tail_placed-laid (s.with_parameters ps more) n t = rw (some_parameters-laid ps _ _, lone_void-laid ps more _ _, parameters_placed-laid ps _ _) refl

    pub dimension_placed-laid : (x : DimensionTree) (n t : ℕ) → dimension_placed (laid_dimension set n t x) ≡ dimension_placed x
    dimension_placed-laid s.open_dimension n t = refl
    dimension_placed-laid (s.sized e) n t = rw (expression_placed-laid 3 e _ _) refl

    pub dimensions_placed-laid : (x : DimensionTrees) (n t : ℕ) → dimensions_placed (laid_dimensions set n t x) ≡ dimensions_placed x
    dimensions_placed-laid s.no_dimensions n t = refl
    dimensions_placed-laid (s.then_dimension x xs) n t = rw (dimensions_placed-laid xs _ _, dimension_placed-laid x _ _) refl

    pub parameter_placed-laid : (x : ParamTree) (n t : ℕ) → parameter_placed (laid_parameter set n t x) ≡ parameter_placed x
    parameter_placed-laid (s.parameter k b d) n t = rw (parameter_declarator-laid d _ _, declarator_placed-laid d _ _, base_placed-laid b _ _, is_unbraced-laid b _ _) refl

    pub parameters_placed-laid : (x : ParamTrees) (n t : ℕ) → parameters_placed (laid_parameters set n t x) ≡ parameters_placed x
    parameters_placed-laid s.no_parameters n t = refl
    parameters_placed-laid (s.then_parameter x xs) n t = rw (parameters_placed-laid xs _ _, parameter_placed-laid x _ _) refl

    pub type_name_placed-laid : (x : TypeNameTree) (n t : ℕ) → type_name_placed (laid_type_name set n t x) ≡ type_name_placed x
    type_name_placed-laid (s.type_name k b count ds) n t = rw (dimensions_placed-laid ds _ _, base_placed-laid b _ _, is_unbraced-laid b _ _) refl

    pub initialiser_placed-laid : (x : InitTree) (n t : ℕ) → initialiser_placed (laid_initialiser set n t x) ≡ initialiser_placed x
    initialiser_placed-laid (s.plain e) n t = rw (expression_placed-laid 2 e _ _) refl
    initialiser_placed-laid (s.braces is comma) n t = rw (items_placed-laid is _ _, comma_placed-laid comma is _ _) refl

    pub maybe_initialiser_placed-laid : (x : MaybeInitTree) (n t : ℕ) → maybe_initialiser_placed (laid_maybe_initialiser set n t x) ≡ maybe_initialiser_placed x
    maybe_initialiser_placed-laid s.no_initialiser n t = refl
    maybe_initialiser_placed-laid (s.some_initialiser i) n t = rw (initialiser_placed-laid i _ _) refl

    pub item_placed-laid : (x : ItemTree) (n t : ℕ) → item_placed (laid_item set n t x) ≡ item_placed x
    item_placed-laid (s.item ds i) n t = rw (designators_placed-laid ds _ _, initialiser_placed-laid i _ _) refl

    pub items_placed-laid : (x : ItemTrees) (n t : ℕ) → items_placed (laid_items set n t x) ≡ items_placed x
    items_placed-laid s.no_items n t = refl
    items_placed-laid (s.then_item x xs) n t = rw (items_placed-laid xs _ _, item_placed-laid x _ _) refl

    pub designator_placed-laid : (x : DesigTree) (n t : ℕ) → designator_placed (laid_designator set n t x) ≡ designator_placed x
    designator_placed-laid (s.dot_designator at) n t = refl
    designator_placed-laid (s.at_designator e) n t = rw (expression_placed-laid 3 e _ _) refl

    pub designators_placed-laid : (x : DesigTrees) (n t : ℕ) → designators_placed (laid_designators set n t x) ≡ designators_placed x
    designators_placed-laid s.no_designators n t = refl
    designators_placed-laid (s.then_designator x xs) n t = rw (designators_placed-laid xs _ _, designator_placed-laid x _ _) refl

    pub expression_placed-laid : (least : ℕ) (x : ExprTree) (n t : ℕ) → expression_placed least (laid_expression set n t x) ≡ expression_placed least x
    expression_placed-laid least (s.expression k f) n t = rw (form_level-laid f _ _, expression_form_placed-laid f _ _) refl

    pub arguments_placed-laid : (x : ExprTrees) (n t : ℕ) → arguments_placed (laid_expressions set n t x) ≡ arguments_placed x
    arguments_placed-laid s.no_expressions n t = refl
    arguments_placed-laid (s.then_expression x xs) n t = rw (expression_placed-laid 2 x _ _, arguments_placed-laid xs _ _) refl

    pub expression_form_placed-laid : (x : ExprFormTree) (n t : ℕ) → expression_form_placed (laid_expression_form set n t x) ≡ expression_form_placed x
    expression_form_placed-laid (s.name at) n t = refl
    expression_form_placed-laid (s.number at) n t = refl
    expression_form_placed-laid (s.character at) n t = refl
    expression_form_placed-laid (s.text parts) n t = refl
    expression_form_placed-laid (s.paren e) n t = rw (expression_placed-laid 1 e _ _) refl
    expression_form_placed-laid (s.index a b) n t = rw (expression_placed-laid 16 a _ _, expression_placed-laid 1 b _ _) refl
    expression_form_placed-laid (s.call f args) n t = rw (expression_placed-laid 16 f _ _, arguments_placed-laid args _ _) refl
    expression_form_placed-laid (s.dot e at) n t = rw (expression_placed-laid 16 e _ _) refl
    expression_form_placed-laid (s.arrow e at) n t = rw (expression_placed-laid 16 e _ _) refl
    expression_form_placed-laid (s.step op e) n t = rw (expression_placed-laid (step_level op) e _ _) refl
    expression_form_placed-laid (s.unary op e) n t = rw (expression_placed-laid 14 e _ _) refl
    expression_form_placed-laid (s.size_expression e) n t = rw (expression_placed-laid 15 e _ _) refl
    expression_form_placed-laid (s.size_name q) n t = rw (type_name_placed-laid q _ _) refl
    expression_form_placed-laid (s.cast q e) n t = rw (expression_placed-laid 14 e _ _, type_name_placed-laid q _ _) refl
    expression_form_placed-laid (s.binary op a b) n t = rw (expression_placed-laid (binary_level op) a _ _, expression_placed-laid (binary_level op + 1) b _ _) refl
    expression_form_placed-laid (s.choice a b c) n t = rw (expression_placed-laid 4 a _ _, expression_placed-laid 1 b _ _, expression_placed-laid 3 c _ _) refl
    expression_form_placed-laid (s.assign op a b) n t = rw (expression_placed-laid 15 a _ _, expression_placed-laid 2 b _ _) refl

  pub optional_placed-laid : (x : MaybeExprTree) (n t : ℕ) → optional_placed (laid_maybe_expression set n t x) ≡ optional_placed x
  optional_placed-laid s.no_expression n t = refl
  optional_placed-laid (s.some_expression e) n t = rw (expression_placed-laid 1 e _ _) refl

  pub local_placed-laid : (x : DeclarationTree) (n t : ℕ) → local_placed (laid_declaration set n t x) ≡ local_placed x
  local_placed-laid (s.declaration word b ds) n t = rw (declarators_placed-laid ds _ _, local_declarators-laid ds _ _, some_declarators-laid ds _ _, base_placed-laid b _ _, is_unbraced-laid b _ _) refl

  pub file_placed-laid : (x : DeclarationTree) (n t : ℕ) → file_placed (laid_declaration set n t x) ≡ file_placed x
  file_placed-laid (s.declaration word b ds) n t = rw (declarators_placed-laid ds _ _, file_declarators-laid ds _ _, base_placed-laid b _ _) refl

  pub start_placed-laid : (x : StartTree) (n t : ℕ) → start_placed (laid_start set n t x) ≡ start_placed x
  start_placed-laid (s.start_declaration d) n t = rw (local_placed-laid d _ _) refl
  start_placed-laid (s.start_expression e) n t = rw (optional_placed-laid e _ _) refl

  pub label_placed-laid : (x : LabelTree) (n t : ℕ) → label_placed (laid_label set n t x) ≡ label_placed x
  label_placed-laid s.default_label n t = refl
  label_placed-laid (s.case_label e) n t = rw (expression_placed-laid 3 e _ _) refl

  pub labels_placed-laid : (x : LabelTrees) (n t : ℕ) → labels_placed (laid_labels set n t x) ≡ labels_placed x
  labels_placed-laid s.no_labels n t = refl
  labels_placed-laid (s.then_label x xs) n t = rw (labels_placed-laid xs _ _, label_placed-laid x _ _) refl

  mutual
    pub statement_placed-laid : (x : StmtTree) (n t : ℕ) → statement_placed (laid_statement set n t x) ≡ statement_placed x
    statement_placed-laid (s.statement k f) n t = rw (statement_form_placed-laid f _ _) refl

    pub statements_placed-laid : (x : StmtTrees) (n t : ℕ) → statements_placed (laid_statements set n t x) ≡ statements_placed x
    statements_placed-laid s.no_statements n t = refl
    statements_placed-laid (s.then_statement x xs) n t = rw (statements_placed-laid xs _ _, statement_placed-laid x _ _) refl

    pub statement_form_placed-laid : (x : StmtFormTree) (n t : ℕ) → statement_form_placed (laid_statement_form set n t x) ≡ statement_form_placed x
    statement_form_placed-laid (s.block ps) n t = parts_placed-laid ps _ _
    statement_form_placed-laid (s.expression_statement e) n t = optional_placed-laid e _ _
    statement_form_placed-laid (s.if_statement e x s.no_statement) n t = rw (expression_placed-laid 1 e _ _, statement_placed-laid x _ _) refl
    statement_form_placed-laid (s.if_statement e x (s.some_statement y)) n t = rw (expression_placed-laid 1 e _ _, statement_placed-laid x _ _, ends_open-laid x _ _, statement_placed-laid y _ _) refl
    statement_form_placed-laid (s.switch_statement e xs) n t = rw (expression_placed-laid 1 e _ _, sections_placed-laid xs _ _) refl
    statement_form_placed-laid (s.while_statement e x) n t = rw (expression_placed-laid 1 e _ _, statement_placed-laid x _ _) refl
    statement_form_placed-laid (s.do_statement x e) n t = rw (statement_placed-laid x _ _, expression_placed-laid 1 e _ _) refl
    statement_form_placed-laid (s.for_statement first test step x) n t = rw (start_placed-laid first n (t + 2), optional_placed-laid test _ _, optional_placed-laid step _ _, statement_placed-laid x _ _) refl
    statement_form_placed-laid s.break_statement n t = refl
    statement_form_placed-laid s.continue_statement n t = refl
    statement_form_placed-laid (s.return_statement e) n t = optional_placed-laid e _ _

    pub part_placed-laid : (x : PartTree) (n t : ℕ) → part_placed (laid_part set n t x) ≡ part_placed x
    part_placed-laid (s.local d) n t = rw (local_placed-laid d _ _) refl
    part_placed-laid (s.run x) n t = rw (statement_placed-laid x _ _) refl

    pub parts_placed-laid : (x : PartTrees) (n t : ℕ) → parts_placed (laid_parts set n t x) ≡ parts_placed x
    parts_placed-laid s.no_parts n t = refl
    parts_placed-laid (s.then_part x xs) n t = rw (parts_placed-laid xs _ _, part_placed-laid x _ _) refl

    pub section_placed-laid : (x : SectionTree) (n t : ℕ) → section_placed (laid_section set n t x) ≡ section_placed x
    section_placed-laid (s.section k labels body) n t = rw (statements_placed-laid body _ _, labels_placed-laid labels _ _, some_labels-laid labels _ _) refl

    pub sections_placed-laid : (x : SectionTrees) (n t : ℕ) → sections_placed (laid_sections set n t x) ≡ sections_placed x
    sections_placed-laid s.no_sections n t = refl
    sections_placed-laid (s.then_section x xs) n t = rw (may_precede-laid x xs n t (n + section_nodes x) (t + section_width x), section_placed-laid x _ _, sections_placed-laid xs _ _) refl

  pub function_placed-laid : (x : FunctionTree) (n t : ℕ) → function_placed (laid_function set n t x) ≡ function_placed x
  function_placed-laid (s.function word b d body) n t = rw (function_declarator-laid d _ _, declarator_placed-laid d _ _, statement_placed-laid body _ _, base_placed-laid b _ _, is_block-laid body _ _, is_unbraced-laid b _ _) refl
