-- A layout sets the records of nodes and nothing else.
use Rattle.std.proofs.Common.{◌≡◌, ℕ, refl}
use Rattle.stk_tree.specs.declared.node.Node.{Node}
use Rattle.stk_tree.specs.Syntax.{BaseFormTree, BaseTree, DeclrTree, DeclrTrees, DesigTree, DesigTrees, DimensionTree, DimensionTrees, EnumrTree, EnumrTrees, ExprFormTree, ExprTree, ExprTrees, InitTree, ItemTree, ItemTrees, MaybeExprTree, MaybeInitTree, MemberTree, MemberTrees, ParamTree, ParamTrees, TailTree, TypeNameTree}
use Rattle.stk_tree.specs.Syntax as s
use Rattle.stk_tree.specs.Layout.{laid_base, laid_base_form, laid_declarator, laid_declarators, laid_designator, laid_designators, laid_dimension, laid_dimensions, laid_enumerator, laid_enumerators, laid_expression, laid_expression_form, laid_expressions, laid_initialiser, laid_item, laid_items, laid_maybe_expression, laid_maybe_initialiser, laid_member, laid_members, laid_parameter, laid_parameters, laid_tail, laid_type_name}
use Rattle.stk_tree.specs.Unlaid.{unlaid_base, unlaid_base_form, unlaid_declarator, unlaid_declarators, unlaid_designator, unlaid_designators, unlaid_dimension, unlaid_dimensions, unlaid_enumerator, unlaid_enumerators, unlaid_expression, unlaid_expression_form, unlaid_expressions, unlaid_initialiser, unlaid_item, unlaid_items, unlaid_maybe_expression, unlaid_maybe_initialiser, unlaid_member, unlaid_members, unlaid_parameter, unlaid_parameters, unlaid_tail, unlaid_type_name}

module _ (set : ℕ → ℕ → ℕ → Node) where
  mutual
    pub unlaid_base-laid : (x : BaseTree) (n t : ℕ) → unlaid_base (laid_base set n t x) ≡ unlaid_base x
    unlaid_base-laid (s.base node f) n t = rw (unlaid_base_form-laid f _ _) refl

    pub unlaid_base_form-laid : (x : BaseFormTree) (n t : ℕ) → unlaid_base_form (laid_base_form set n t x) ≡ unlaid_base_form x
    unlaid_base_form-laid (s.words ws) n t = refl
    unlaid_base_form-laid (s.struct_ref tag) n t = refl
    unlaid_base_form-laid (s.struct_def tag ms) n t = rw (unlaid_members-laid ms _ _) refl
    unlaid_base_form-laid (s.enum_ref tag) n t = refl
    unlaid_base_form-laid (s.enum_def tag es comma) n t = rw (unlaid_enumerators-laid es _ _) refl
    unlaid_base_form-laid (s.named at) n t = refl

    pub unlaid_member-laid : (x : MemberTree) (n t : ℕ) → unlaid_member (laid_member set n t x) ≡ unlaid_member x
    unlaid_member-laid (s.member b ds) n t = rw (unlaid_declarators-laid ds _ _, unlaid_base-laid b _ _) refl

    pub unlaid_members-laid : (x : MemberTrees) (n t : ℕ) → unlaid_members (laid_members set n t x) ≡ unlaid_members x
    unlaid_members-laid s.no_members n t = refl
    unlaid_members-laid (s.then_member x xs) n t = rw (unlaid_members-laid xs _ _, unlaid_member-laid x _ _) refl

    pub unlaid_enumerator-laid : (x : EnumrTree) (n t : ℕ) → unlaid_enumerator (laid_enumerator set n t x) ≡ unlaid_enumerator x
    unlaid_enumerator-laid (s.enumerator at e) n t = rw (unlaid_maybe_expression-laid e _ _) refl

    pub unlaid_enumerators-laid : (x : EnumrTrees) (n t : ℕ) → unlaid_enumerators (laid_enumerators set n t x) ≡ unlaid_enumerators x
    unlaid_enumerators-laid s.no_enumerators n t = refl
    unlaid_enumerators-laid (s.then_enumerator x xs) n t = rw (unlaid_enumerators-laid xs _ _, unlaid_enumerator-laid x _ _) refl

    pub unlaid_declarator-laid : (x : DeclrTree) (n t : ℕ) → unlaid_declarator (laid_declarator set n t x) ≡ unlaid_declarator x
    unlaid_declarator-laid (s.declarator node count at x i) n t = rw (unlaid_maybe_initialiser-laid i _ _, unlaid_tail-laid x _ _) refl

    pub unlaid_declarators-laid : (x : DeclrTrees) (n t : ℕ) → unlaid_declarators (laid_declarators set n t x) ≡ unlaid_declarators x
    unlaid_declarators-laid s.no_declarators n t = refl
    unlaid_declarators-laid (s.then_declarator x xs) n t = rw (unlaid_declarators-laid xs _ _, unlaid_declarator-laid x _ _) refl

    pub unlaid_tail-laid : (x : TailTree) (n t : ℕ) → unlaid_tail (laid_tail set n t x) ≡ unlaid_tail x
    unlaid_tail-laid (s.arrays ds) n t = rw (unlaid_dimensions-laid ds _ _) refl
    unlaid_tail-laid s.unspecified n t = refl
    unlaid_tail-laid s.void_parameters n t = refl
    unlaid_tail-laid (s.with_parameters ps more) n t = rw (unlaid_parameters-laid ps _ _) refl

    pub unlaid_dimension-laid : (x : DimensionTree) (n t : ℕ) → unlaid_dimension (laid_dimension set n t x) ≡ unlaid_dimension x
    unlaid_dimension-laid s.open_dimension n t = refl
    unlaid_dimension-laid (s.sized e) n t = rw (unlaid_expression-laid e _ _) refl

    pub unlaid_dimensions-laid : (x : DimensionTrees) (n t : ℕ) → unlaid_dimensions (laid_dimensions set n t x) ≡ unlaid_dimensions x
    unlaid_dimensions-laid s.no_dimensions n t = refl
    unlaid_dimensions-laid (s.then_dimension x xs) n t = rw (unlaid_dimensions-laid xs _ _, unlaid_dimension-laid x _ _) refl

    pub unlaid_parameter-laid : (x : ParamTree) (n t : ℕ) → unlaid_parameter (laid_parameter set n t x) ≡ unlaid_parameter x
    unlaid_parameter-laid (s.parameter node b d) n t = rw (unlaid_declarator-laid d _ _, unlaid_base-laid b _ _) refl

    pub unlaid_parameters-laid : (x : ParamTrees) (n t : ℕ) → unlaid_parameters (laid_parameters set n t x) ≡ unlaid_parameters x
    unlaid_parameters-laid s.no_parameters n t = refl
    unlaid_parameters-laid (s.then_parameter x xs) n t = rw (unlaid_parameters-laid xs _ _, unlaid_parameter-laid x _ _) refl

    pub unlaid_type_name-laid : (x : TypeNameTree) (n t : ℕ) → unlaid_type_name (laid_type_name set n t x) ≡ unlaid_type_name x
    unlaid_type_name-laid (s.type_name node b count ds) n t = rw (unlaid_dimensions-laid ds _ _, unlaid_base-laid b _ _) refl

    pub unlaid_initialiser-laid : (x : InitTree) (n t : ℕ) → unlaid_initialiser (laid_initialiser set n t x) ≡ unlaid_initialiser x
    unlaid_initialiser-laid (s.plain e) n t = rw (unlaid_expression-laid e _ _) refl
    unlaid_initialiser-laid (s.braces is comma) n t = rw (unlaid_items-laid is _ _) refl

    pub unlaid_maybe_initialiser-laid : (x : MaybeInitTree) (n t : ℕ) → unlaid_maybe_initialiser (laid_maybe_initialiser set n t x) ≡ unlaid_maybe_initialiser x
    unlaid_maybe_initialiser-laid s.no_initialiser n t = refl
    unlaid_maybe_initialiser-laid (s.some_initialiser i) n t = rw (unlaid_initialiser-laid i _ _) refl

    pub unlaid_item-laid : (x : ItemTree) (n t : ℕ) → unlaid_item (laid_item set n t x) ≡ unlaid_item x
    unlaid_item-laid (s.item ds i) n t = rw (unlaid_initialiser-laid i _ _, unlaid_designators-laid ds _ _) refl

    pub unlaid_items-laid : (x : ItemTrees) (n t : ℕ) → unlaid_items (laid_items set n t x) ≡ unlaid_items x
    unlaid_items-laid s.no_items n t = refl
    unlaid_items-laid (s.then_item x xs) n t = rw (unlaid_items-laid xs _ _, unlaid_item-laid x _ _) refl

    pub unlaid_designator-laid : (x : DesigTree) (n t : ℕ) → unlaid_designator (laid_designator set n t x) ≡ unlaid_designator x
    unlaid_designator-laid (s.dot_designator at) n t = refl
    unlaid_designator-laid (s.at_designator e) n t = rw (unlaid_expression-laid e _ _) refl

    pub unlaid_designators-laid : (x : DesigTrees) (n t : ℕ) → unlaid_designators (laid_designators set n t x) ≡ unlaid_designators x
    unlaid_designators-laid s.no_designators n t = refl
    unlaid_designators-laid (s.then_designator x xs) n t = rw (unlaid_designators-laid xs _ _, unlaid_designator-laid x _ _) refl

    pub unlaid_expression-laid : (x : ExprTree) (n t : ℕ) → unlaid_expression (laid_expression set n t x) ≡ unlaid_expression x
    unlaid_expression-laid (s.expression node f) n t = rw (unlaid_expression_form-laid f _ _) refl

    pub unlaid_expressions-laid : (x : ExprTrees) (n t : ℕ) → unlaid_expressions (laid_expressions set n t x) ≡ unlaid_expressions x
    unlaid_expressions-laid s.no_expressions n t = refl
    unlaid_expressions-laid (s.then_expression x xs) n t = rw (unlaid_expressions-laid xs _ _, unlaid_expression-laid x _ _) refl

    pub unlaid_maybe_expression-laid : (x : MaybeExprTree) (n t : ℕ) → unlaid_maybe_expression (laid_maybe_expression set n t x) ≡ unlaid_maybe_expression x
    unlaid_maybe_expression-laid s.no_expression n t = refl
    unlaid_maybe_expression-laid (s.some_expression e) n t = rw (unlaid_expression-laid e _ _) refl

    pub unlaid_expression_form-laid : (x : ExprFormTree) (n t : ℕ) → unlaid_expression_form (laid_expression_form set n t x) ≡ unlaid_expression_form x
    unlaid_expression_form-laid (s.name at) n t = refl
    unlaid_expression_form-laid (s.number at) n t = refl
    unlaid_expression_form-laid (s.character at) n t = refl
    unlaid_expression_form-laid (s.text parts) n t = refl
    unlaid_expression_form-laid (s.paren e) n t = rw (unlaid_expression-laid e _ _) refl
    unlaid_expression_form-laid (s.index a b) n t = rw (unlaid_expression-laid a _ _, unlaid_expression-laid b _ _) refl
    unlaid_expression_form-laid (s.call f args) n t = rw (unlaid_expressions-laid args _ _, unlaid_expression-laid f _ _) refl
    unlaid_expression_form-laid (s.dot e at) n t = rw (unlaid_expression-laid e _ _) refl
    unlaid_expression_form-laid (s.arrow e at) n t = rw (unlaid_expression-laid e _ _) refl
    unlaid_expression_form-laid (s.step op e) n t = rw (unlaid_expression-laid e _ _) refl
    unlaid_expression_form-laid (s.unary op e) n t = rw (unlaid_expression-laid e _ _) refl
    unlaid_expression_form-laid (s.size_expression e) n t = rw (unlaid_expression-laid e _ _) refl
    unlaid_expression_form-laid (s.size_name x) n t = rw (unlaid_type_name-laid x _ _) refl
    unlaid_expression_form-laid (s.cast x e) n t = rw (unlaid_expression-laid e _ _, unlaid_type_name-laid x _ _) refl
    unlaid_expression_form-laid (s.binary op a b) n t = rw (unlaid_expression-laid a _ _, unlaid_expression-laid b _ _) refl
    unlaid_expression_form-laid (s.choice a b c) n t = rw (unlaid_expression-laid a _ _, unlaid_expression-laid b _ _, unlaid_expression-laid c _ _) refl
    unlaid_expression_form-laid (s.assign op a b) n t = rw (unlaid_expression-laid a _ _, unlaid_expression-laid b _ _) refl
