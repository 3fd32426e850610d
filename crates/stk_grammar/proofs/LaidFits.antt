-- A layout doesn't change whether a tree fits the typedef names.
use Rattle.std.proofs.Common.{◌≡◌, ℕ, Bool, refl}
use Rattle.stk_base.specs.declared.span.Span.{Span}
use Rattle.stk_tree.specs.declared.node.Node.{Node}
use Rattle.stk_tree.specs.Syntax.{BaseFormTree, BaseTree, DeclrTree, DeclrTrees, DesigTree, DesigTrees, DimensionTree, DimensionTrees, EnumrTree, EnumrTrees, ExprFormTree, ExprTree, ExprTrees, InitTree, ItemTree, ItemTrees, MaybeExprTree, MaybeInitTree, MemberTree, MemberTrees, ParamTree, ParamTrees, TailTree, TypeNameTree}
use Rattle.stk_tree.specs.Syntax as s
use Rattle.stk_tree.specs.Layout.{laid_base, laid_base_form, laid_declarator, laid_declarators, laid_designator, laid_designators, laid_dimension, laid_dimensions, laid_enumerator, laid_enumerators, laid_expression, laid_expression_form, laid_expressions, laid_initialiser, laid_item, laid_items, laid_maybe_expression, laid_maybe_initialiser, laid_member, laid_members, laid_parameter, laid_parameters, laid_tail, laid_type_name}
use Rattle.stk_tree.specs.Fits.{base_fits, base_form_fits, declarator_fits, declarators_fits, designator_fits, designators_fits, dimension_fits, dimensions_fits, enumerator_fits, enumerators_fits, expression_fits, expression_form_fits, expressions_fits, initialiser_fits, item_fits, items_fits, maybe_expression_fits, maybe_initialiser_fits, member_fits, members_fits, parameter_fits, parameters_fits, tail_fits, type_name_fits}

module _ (set : ℕ → ℕ → ℕ → Node) where
  mutual
    pub base_fits-laid : (named : Span → Bool) (x : BaseTree) (n t : ℕ) → base_fits named (laid_base set n t x) ≡ base_fits named x
    base_fits-laid named (s.base k f) n t = rw (base_form_fits-laid named f _ _) refl

    pub base_form_fits-laid : (named : Span → Bool) (x : BaseFormTree) (n t : ℕ) → base_form_fits named (laid_base_form set n t x) ≡ base_form_fits named x
    base_form_fits-laid named (s.words ws) n t = refl
    base_form_fits-laid named (s.struct_ref tag) n t = refl
    base_form_fits-laid named (s.struct_def tag ms) n t = rw (members_fits-laid named ms _ _) refl
    base_form_fits-laid named (s.enum_ref tag) n t = refl
    base_form_fits-laid named (s.enum_def tag es comma) n t = rw (enumerators_fits-laid named es _ _) refl
    base_form_fits-laid named (s.named at) n t = refl

    pub member_fits-laid : (named : Span → Bool) (x : MemberTree) (n t : ℕ) → member_fits named (laid_member set n t x) ≡ member_fits named x
    member_fits-laid named (s.member b ds) n t = rw (declarators_fits-laid named ds _ _, base_fits-laid named b _ _) refl

    pub members_fits-laid : (named : Span → Bool) (x : MemberTrees) (n t : ℕ) → members_fits named (laid_members set n t x) ≡ members_fits named x
    members_fits-laid named s.no_members n t = refl
    members_fits-laid named (s.then_member x xs) n t = rw (members_fits-laid named xs _ _, member_fits-laid named x _ _) refl

    pub enumerator_fits-laid : (named : Span → Bool) (x : EnumrTree) (n t : ℕ) → enumerator_fits named (laid_enumerator set n t x) ≡ enumerator_fits named x
    enumerator_fits-laid named (s.enumerator at e) n t = rw (maybe_expression_fits-laid named e _ _) refl

    pub enumerators_fits-laid : (named : Span → Bool) (x : EnumrTrees) (n t : ℕ) → enumerators_fits named (laid_enumerators set n t x) ≡ enumerators_fits named x
    enumerators_fits-laid named s.no_enumerators n t = refl
    enumerators_fits-laid named (s.then_enumerator x xs) n t = rw (enumerators_fits-laid named xs _ _, enumerator_fits-laid named x _ _) refl

    pub declarator_fits-laid : (named : Span → Bool) (x : DeclrTree) (n t : ℕ) → declarator_fits named (laid_declarator set n t x) ≡ declarator_fits named x
    declarator_fits-laid named (s.declarator k count at q i) n t = rw (maybe_initialiser_fits-laid named i _ _, tail_fits-laid named q _ _) refl

    pub declarators_fits-laid : (named : Span → Bool) (x : DeclrTrees) (n t : ℕ) → declarators_fits named (laid_declarators set n t x) ≡ declarators_fits named x
    declarators_fits-laid named s.no_declarators n t = refl
    declarators_fits-laid named (s.then_declarator x xs) n t = rw (declarators_fits-laid named xs _ _, declarator_fits-laid named x _ _) refl

    pub tail_fits-laid : (named : Span → Bool) (x : TailTree) (n t : ℕ) → tail_fits named (laid_tail set n t x) ≡ tail_fits named x
    tail_fits-laid named (s.arrays ds) n t = rw (dimensions_fits-laid named ds _ _) refl
    tail_fits-laid named s.unspecified n t = refl
    tail_fits-laid named s.void_parameters n t = refl
    tail_fits-laid named (s.with_parameters ps more) n t = rw (parameters_fits-laid named ps _ _) refl

    pub dimension_fits-laid : (named : Span → Bool) (x : DimensionTree) (n t : ℕ) → dimension_fits named (laid_dimension set n t x) ≡ dimension_fits named x
    dimension_fits-laid named s.open_dimension n t = refl
    dimension_fits-laid named (s.sized e) n t = rw (expression_fits-laid named e _ _) refl

    pub dimensions_fits-laid : (named : Span → Bool) (x : DimensionTrees) (n t : ℕ) → dimensions_fits named (laid_dimensions set n t x) ≡ dimensions_fits named x
    dimensions_fits-laid named s.no_dimensions n t = refl
    dimensions_fits-laid named (s.then_dimension x xs) n t = rw (dimensions_fits-laid named xs _ _, dimension_fits-laid named x _ _) refl

    pub parameter_fits-laid : (named : Span → Bool) (x : ParamTree) (n t : ℕ) → parameter_fits named (laid_parameter set n t x) ≡ parameter_fits named x
    parameter_fits-laid named (s.parameter k b d) n t = rw (declarator_fits-laid named d _ _, base_fits-laid named b _ _) refl

    pub parameters_fits-laid : (named : Span → Bool) (x : ParamTrees) (n t : ℕ) → parameters_fits named (laid_parameters set n t x) ≡ parameters_fits named x
    parameters_fits-laid named s.no_parameters n t = refl
    parameters_fits-laid named (s.then_parameter x xs) n t = rw (parameters_fits-laid named xs _ _, parameter_fits-laid named x _ _) refl

    pub type_name_fits-laid : (named : Span → Bool) (x : TypeNameTree) (n t : ℕ) → type_name_fits named (laid_type_name set n t x) ≡ type_name_fits named x
    type_name_fits-laid named (s.type_name k b count ds) n t = rw (dimensions_fits-laid named ds _ _, base_fits-laid named b _ _) refl

    pub initialiser_fits-laid : (named : Span → Bool) (x : InitTree) (n t : ℕ) → initialiser_fits named (laid_initialiser set n t x) ≡ initialiser_fits named x
    initialiser_fits-laid named (s.plain e) n t = rw (expression_fits-laid named e _ _) refl
    initialiser_fits-laid named (s.braces is comma) n t = rw (items_fits-laid named is _ _) refl

    pub maybe_initialiser_fits-laid : (named : Span → Bool) (x : MaybeInitTree) (n t : ℕ) → maybe_initialiser_fits named (laid_maybe_initialiser set n t x) ≡ maybe_initialiser_fits named x
    maybe_initialiser_fits-laid named s.no_initialiser n t = refl
    maybe_initialiser_fits-laid named (s.some_initialiser i) n t = rw (initialiser_fits-laid named i _ _) refl

    pub item_fits-laid : (named : Span → Bool) (x : ItemTree) (n t : ℕ) → item_fits named (laid_item set n t x) ≡ item_fits named x
    item_fits-laid named (s.item ds i) n t = rw (initialiser_fits-laid named i _ _, designators_fits-laid named ds _ _) refl

    pub items_fits-laid : (named : Span → Bool) (x : ItemTrees) (n t : ℕ) → items_fits named (laid_items set n t x) ≡ items_fits named x
    items_fits-laid named s.no_items n t = refl
    items_fits-laid named (s.then_item x xs) n t = rw (items_fits-laid named xs _ _, item_fits-laid named x _ _) refl

    pub designator_fits-laid : (named : Span → Bool) (x : DesigTree) (n t : ℕ) → designator_fits named (laid_designator set n t x) ≡ designator_fits named x
    designator_fits-laid named (s.dot_designator at) n t = refl
    designator_fits-laid named (s.at_designator e) n t = rw (expression_fits-laid named e _ _) refl

    pub designators_fits-laid : (named : Span → Bool) (x : DesigTrees) (n t : ℕ) → designators_fits named (laid_designators set n t x) ≡ designators_fits named x
    designators_fits-laid named s.no_designators n t = refl
    designators_fits-laid named (s.then_designator x xs) n t = rw (designators_fits-laid named xs _ _, designator_fits-laid named x _ _) refl

    pub expression_fits-laid : (named : Span → Bool) (x : ExprTree) (n t : ℕ) → expression_fits named (laid_expression set n t x) ≡ expression_fits named x
    expression_fits-laid named (s.expression k f) n t = rw (expression_form_fits-laid named f _ _) refl

    pub expressions_fits-laid : (named : Span → Bool) (x : ExprTrees) (n t : ℕ) → expressions_fits named (laid_expressions set n t x) ≡ expressions_fits named x
    expressions_fits-laid named s.no_expressions n t = refl
    expressions_fits-laid named (s.then_expression x xs) n t = rw (expressions_fits-laid named xs _ _, expression_fits-laid named x _ _) refl

    pub maybe_expression_fits-laid : (named : Span → Bool) (x : MaybeExprTree) (n t : ℕ) → maybe_expression_fits named (laid_maybe_expression set n t x) ≡ maybe_expression_fits named x
    maybe_expression_fits-laid named s.no_expression n t = refl
    maybe_expression_fits-laid named (s.some_expression e) n t = rw (expression_fits-laid named e _ _) refl

    pub expression_form_fits-laid : (named : Span → Bool) (x : ExprFormTree) (n t : ℕ) → expression_form_fits named (laid_expression_form set n t x) ≡ expression_form_fits named x
    expression_form_fits-laid named (s.name at) n t = refl
    expression_form_fits-laid named (s.number at) n t = refl
    expression_form_fits-laid named (s.character at) n t = refl
    expression_form_fits-laid named (s.text parts) n t = refl
    expression_form_fits-laid named (s.paren e) n t = rw (expression_fits-laid named e _ _) refl
    expression_form_fits-laid named (s.index a b) n t = rw (expression_fits-laid named a _ _, expression_fits-laid named b _ _) refl
    expression_form_fits-laid named (s.call f args) n t = rw (expressions_fits-laid named args _ _, expression_fits-laid named f _ _) refl
    expression_form_fits-laid named (s.dot e at) n t = rw (expression_fits-laid named e _ _) refl
    expression_form_fits-laid named (s.arrow e at) n t = rw (expression_fits-laid named e _ _) refl
    expression_form_fits-laid named (s.step op e) n t = rw (expression_fits-laid named e _ _) refl
    expression_form_fits-laid named (s.unary op e) n t = rw (expression_fits-laid named e _ _) refl
    expression_form_fits-laid named (s.size_expression e) n t = rw (expression_fits-laid named e _ _) refl
    expression_form_fits-laid named (s.size_name q) n t = rw (type_name_fits-laid named q _ _) refl
    expression_form_fits-laid named (s.cast q e) n t = rw (expression_fits-laid named e _ _, type_name_fits-laid named q _ _) refl
    expression_form_fits-laid named (s.binary op a b) n t = rw (expression_fits-laid named a _ _, expression_fits-laid named b _ _) refl
    expression_form_fits-laid named (s.choice a b c) n t = rw (expression_fits-laid named a _ _, expression_fits-laid named b _ _, expression_fits-laid named c _ _) refl
    expression_form_fits-laid named (s.assign op a b) n t = rw (expression_fits-laid named a _ _, expression_fits-laid named b _ _) refl
