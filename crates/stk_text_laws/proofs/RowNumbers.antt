-- The nodes of a tree that is laid out from a number on have that number and those behind it, in the order of its row.
use Rattle.std.proofs.Common.{◌≡◌, ℕ, zero, suc, ◌+◌, ◌<◌, List, [], ◌∷◌, ◌++◌, length, length-append, Some, refl, subst, ◌∙◌, arith}
use Rattle.std.specs.Prelude.{slice_get}
use Rattle.stk_base.specs.declared.span.Span.{Span}
use Rattle.stk_tree.specs.declared.node.Node.{Node}
use Rattle.stk_tree.specs.Syntax.{BaseTree, BaseFormTree, MemberTree, MemberTrees, EnumrTree, EnumrTrees, DeclrTree, DeclrTrees, TailTree, DimensionTree, DimensionTrees, ParamTree, ParamTrees, TypeNameTree, InitTree, MaybeInitTree, ItemTree, ItemTrees, DesigTree, DesigTrees, ExprTree, ExprTrees, MaybeExprTree, ExprFormTree}
use Rattle.stk_tree.specs.Syntax.{DeclarationTree, StartTree, LabelTree, LabelTrees, StmtTree, StmtTrees, MaybeStmtTree, StmtFormTree, PartTree, PartTrees, SectionTree, SectionTrees, FunctionTree, UnitTree}
use Rattle.stk_tree.specs.Syntax as s
use Rattle.stk_tree.specs.Nodes.{base_nodes, base_form_nodes, member_nodes, members_nodes, enumerator_nodes, enumerators_nodes, declarator_nodes, declarators_nodes, tail_nodes, dimension_nodes, dimensions_nodes, parameter_nodes, parameters_nodes, type_name_nodes, initialiser_nodes, maybe_initialiser_nodes, item_nodes, items_nodes, designator_nodes, designators_nodes, expression_nodes, expressions_nodes, maybe_expression_nodes, expression_form_nodes, declaration_nodes, start_nodes, label_nodes, labels_nodes, statement_nodes, statements_nodes, maybe_statement_nodes, statement_form_nodes, part_nodes, parts_nodes, section_nodes, sections_nodes, function_nodes, unit_nodes}
use Rattle.stk_tree.specs.Layout.{node_at, laid_base, laid_base_form, laid_member, laid_members, laid_enumerator, laid_enumerators, laid_declarator, laid_declarators, laid_tail, laid_dimension, laid_dimensions, laid_parameter, laid_parameters, laid_type_name, laid_initialiser, laid_maybe_initialiser, laid_item, laid_items, laid_designator, laid_designators, laid_expression, laid_expressions, laid_maybe_expression, laid_expression_form, laid_declaration, laid_start, laid_label, laid_labels, laid_statement, laid_statements, laid_maybe_statement, laid_statement_form, laid_part, laid_parts, laid_section, laid_sections, laid_function, unit_laid_out}
use Rattle.stk_nodes.specs.Rows.{base_row, base_form_row, member_row, members_row, enumerator_row, enumerators_row, declarator_row, declarators_row, tail_row, dimension_row, dimensions_row, parameter_row, parameters_row, type_name_row, initialiser_row, maybe_initialiser_row, item_row, items_row, designator_row, designators_row, expression_row, expressions_row, maybe_expression_row, expression_form_row, declaration_row, start_row, label_row, labels_row, statement_row, statements_row, maybe_statement_row, statement_form_row, part_row, parts_row, section_row, sections_row, function_row, unit_row}

-- ---- nodes in the order of their numbers

-- nodes have these numbers: the first has n, and each the next one
abbrev Counts : ℕ → List Node → Type 0
Counts n [] = Unit {0}
Counts n (x ∷ xs) = (x.number ≡ n) × Counts (n + 1) xs

-- and the last has the number before m
record Runs (n m : ℕ) (xs : List Node) : Type 0 where
  counts : Counts n xs
  long : n + length xs ≡ m

counts_append : (n m : ℕ) (xs ys : List Node) → n + length xs ≡ m → Counts n xs → Counts m ys → Counts n (xs ++ ys)
counts_append n m [] ys e h k = let same : m ≡ n = omega (arith, e) in subst (λ z. Counts z ys) same k
counts_append n m (x ∷ xs) ys e h k = (h.0, counts_append (n + 1) m xs ys (omega (arith, e)) h.1 k)

joined : (n m p : ℕ) (xs ys : List Node) → Runs n m xs → Runs m p ys → Runs n p (xs ++ ys)
joined n m p xs ys h k = record { counts = counts_append n m xs ys h.long h.counts k.counts; long = omega (arith, h.long, k.long, length-append xs ys) }

moved : (n m p : ℕ) (xs : List Node) → m ≡ p → Runs n m xs → Runs n p xs
moved n m p xs e h = record { counts = h.counts; long = h.long ∙ e }

none : (n m : ℕ) → n ≡ m → Runs n m []
none n m e = record { counts = tt; long = omega (arith, e) }

single : (n : ℕ) (x : Node) → x.number ≡ n → Runs n (n + 1) (x ∷ [])
single n x e = record { counts = (e, tt); long = omega arith }

-- two, three and four parts
pair : (n x y : ℕ) (a b : List Node) → Runs n (n + x) a → Runs (n + x) (n + x + y) b → Runs n (n + (x + y)) (a ++ b)
pair n x y a b p q = moved n (n + x + y) (n + (x + y)) (a ++ b) (omega arith) (joined n (n + x) (n + x + y) a b p q)

triple : (n x y z : ℕ) (a b c : List Node) → Runs n (n + x) a → Runs (n + x) (n + x + y) b → Runs (n + x + y) (n + x + y + z) c → Runs n (n + (x + y + z)) (a ++ (b ++ c))
triple n x y z a b c p q r =
    moved n (n + x + y + z) (n + (x + y + z)) (a ++ (b ++ c)) (omega arith) (joined n (n + x) (n + x + y + z) a (b ++ c) p (joined (n + x) (n + x + y) (n + x + y + z) b c q r))

four : (n x y z w : ℕ) (a b c d : List Node) → Runs n (n + x) a → Runs (n + x) (n + x + y) b → Runs (n + x + y) (n + x + y + z) c → Runs (n + x + y + z) (n + x + y + z + w) d → Runs n (n + (x + y + z + w)) (a ++ (b ++ (c ++ d)))
four n x y z w a b c d p q r o =
    moved n (n + x + y + z + w) (n + (x + y + z + w)) (a ++ (b ++ (c ++ d))) (omega arith)
    (joined n (n + x) (n + x + y + z + w) a (b ++ (c ++ d)) p (joined (n + x) (n + x + y) (n + x + y + z + w) b (c ++ d) q (joined (n + x + y) (n + x + y + z) (n + x + y + z + w) c d r o)))

-- a node behind its part, or behind two
own : (n x : ℕ) (a : List Node) (k : Node) → k.number ≡ n + x → Runs n (n + x) a → Runs n (n + (x + 1)) (a ++ k ∷ [])
own n x a k e p = pair n x 1 a (k ∷ []) p (single (n + x) k e)

behind : (n x y : ℕ) (a b : List Node) (k : Node) → k.number ≡ n + x + y → Runs n (n + x) a → Runs (n + x) (n + x + y) b → Runs n (n + (x + y + 1)) (a ++ (b ++ k ∷ []))
behind n x y a b k e p q = triple n x y 1 a b (k ∷ []) p q (single (n + x + y) k e)

-- the node of each number
pub record IsAt (xs : List Node) (k number : ℕ) : Type 0 where
  pub node : Node
  pub there : slice_get xs k ≡ Some node
  pub same : node.number ≡ number

at : (n : ℕ) (xs : List Node) → Counts n xs → (k : ℕ) → k < length xs → IsAt xs k (n + k)
at n [] h k less = absurd (omega arith)
at n (x ∷ xs) h zero less = record { node = x; there = refl; same = omega (arith, h.0) }
at n (x ∷ xs) h (suc k) less =
    let rest = at (n + 1) xs h.1 k (omega arith) in
    record { node = rest.node; there = rest.there; same = omega (arith, rest.same) }

-- ---- trees

module _ (spans : List Span) where
  mutual
    base_runs : (x : BaseTree) (n t : ℕ) → Runs n (n + base_nodes x) (base_row (laid_base (node_at spans) n t x))
    base_runs (s.base k f) n t = own n (base_form_nodes f) _ _ refl (base_form_runs f n _)

    base_form_runs : (x : BaseFormTree) (n t : ℕ) → Runs n (n + base_form_nodes x) (base_form_row (laid_base_form (node_at spans) n t x))
    base_form_runs (s.words ws) n t = none n _ (omega arith)
    base_form_runs (s.struct_ref tag) n t = none n _ (omega arith)
    base_form_runs (s.struct_def tag ms) n t = members_runs ms n _
    base_form_runs (s.enum_ref tag) n t = none n _ (omega arith)
    base_form_runs (s.enum_def tag es comma) n t = enumerators_runs es n _
    base_form_runs (s.named at) n t = none n _ (omega arith)

    member_runs : (x : MemberTree) (n t : ℕ) → Runs n (n + member_nodes x) (member_row (laid_member (node_at spans) n t x))
    member_runs (s.member b ds) n t = pair n (base_nodes b) (declarators_nodes ds) _ _ (base_runs b n _) (declarators_runs ds (n + base_nodes b) _)

    members_runs : (x : MemberTrees) (n t : ℕ) → Runs n (n + members_nodes x) (members_row (laid_members (node_at spans) n t x))
    members_runs s.no_members n t = none n _ (omega arith)
    members_runs (s.then_member x xs) n t = pair n (member_nodes x) (members_nodes xs) _ _ (member_runs x n _) (members_runs xs (n + member_nodes x) _)

    enumerator_runs : (x : EnumrTree) (n t : ℕ) → Runs n (n + enumerator_nodes x) (enumerator_row (laid_enumerator (node_at spans) n t x))
    enumerator_runs (s.enumerator at e) n t = maybe_expression_runs e n _

    enumerators_runs : (x : EnumrTrees) (n t : ℕ) → Runs n (n + enumerators_nodes x) (enumerators_row (laid_enumerators (node_at spans) n t x))
    enumerators_runs s.no_enumerators n t = none n _ (omega arith)
    enumerators_runs (s.then_enumerator x xs) n t = pair n (enumerator_nodes x) (enumerators_nodes xs) _ _ (enumerator_runs x n _) (enumerators_runs xs (n + enumerator_nodes x) _)

    declarator_runs : (x : DeclrTree) (n t : ℕ) → Runs n (n + declarator_nodes x) (declarator_row (laid_declarator (node_at spans) n t x))
    declarator_runs (s.declarator k count at x i) n t = behind n (tail_nodes x) (maybe_initialiser_nodes i) _ _ _ refl (tail_runs x n _) (maybe_initialiser_runs i (n + tail_nodes x) _)

    declarators_runs : (x : DeclrTrees) (n t : ℕ) → Runs n (n + declarators_nodes x) (declarators_row (laid_declarators (node_at spans) n t x))
    declarators_runs s.no_declarators n t = none n _ (omega arith)
    declarators_runs (s.then_declarator x xs) n t = pair n (declarator_nodes x) (declarators_nodes xs) _ _ (declarator_runs x n _) (declarators_runs xs (n + declarator_nodes x) _)

    tail_runs : (x : TailTree) (n t : ℕ) → Runs n (n + tail_nodes x) (tail_row (laid_tail (node_at spans) n t x))
    tail_runs (s.arrays ds) n t = dimensions_runs ds n _
    tail_runs s.unspecified n t = none n _ (omega arith)
    tail_runs s.void_parameters n t = none n _ (omega arith)
    tail_runs (s.with_parameters ps more) n t = parameters_runs ps n _

    dimension_runs : (x : DimensionTree) (n t : ℕ) → Runs n (n + dimension_nodes x) (dimension_row (laid_dimension (node_at spans) n t x))
    dimension_runs s.open_dimension n t = none n _ (omega arith)
    dimension_runs (s.sized e) n t = expression_runs e n _

    dimensions_runs : (x : DimensionTrees) (n t : ℕ) → Runs n (n + dimensions_nodes x) (dimensions_row (laid_dimensions (node_at spans) n t x))
    dimensions_runs s.no_dimensions n t = none n _ (omega arith)
    dimensions_runs (s.then_dimension x xs) n t = pair n (dimension_nodes x) (dimensions_nodes xs) _ _ (dimension_runs x n _) (dimensions_runs xs (n + dimension_nodes x) _)

    parameter_runs : (x : ParamTree) (n t : ℕ) → Runs n (n + parameter_nodes x) (parameter_row (laid_parameter (node_at spans) n t x))
    parameter_runs (s.parameter k b d) n t = behind n (base_nodes b) (declarator_nodes d) _ _ _ refl (base_runs b n _) (declarator_runs d (n + base_nodes b) _)

    parameters_runs : (x : ParamTrees) (n t : ℕ) → Runs n (n + parameters_nodes x) (parameters_row (laid_parameters (node_at spans) n t x))
    parameters_runs s.no_parameters n t = none n _ (omega arith)
    parameters_runs (s.then_parameter x xs) n t = pair n (parameter_nodes x) (parameters_nodes xs) _ _ (parameter_runs x n _) (parameters_runs xs (n + parameter_nodes x) _)

    type_name_runs : (x : TypeNameTree) (n t : ℕ) → Runs n (n + type_name_nodes x) (type_name_row (laid_type_name (node_at spans) n t x))
    type_name_runs (s.type_name k b count ds) n t = behind n (base_nodes b) (dimensions_nodes ds) _ _ _ refl (base_runs b n _) (dimensions_runs ds (n + base_nodes b) _)

    initialiser_runs : (x : InitTree) (n t : ℕ) → Runs n (n + initialiser_nodes x) (initialiser_row (laid_initialiser (node_at spans) n t x))
    initialiser_runs (s.plain e) n t = expression_runs e n _
    initialiser_runs (s.braces is comma) n t = items_runs is n _

    maybe_initialiser_runs : (x : MaybeInitTree) (n t : ℕ) → Runs n (n + maybe_initialiser_nodes x) (maybe_initialiser_row (laid_maybe_initialiser (node_at spans) n t x))
    maybe_initialiser_runs s.no_initialiser n t = none n _ (omega arith)
    maybe_initialiser_runs (s.some_initialiser i) n t = initialiser_runs i n _

    item_runs : (x : ItemTree) (n t : ℕ) → Runs n (n + item_nodes x) (item_row (laid_item (node_at spans) n t x))
    item_runs (s.item ds i) n t = pair n (designators_nodes ds) (initialiser_nodes i) _ _ (designators_runs ds n _) (initialiser_runs i (n + designators_nodes ds) _)

    items_runs : (x : ItemTrees) (n t : ℕ) → Runs n (n + items_nodes x) (items_row (laid_items (node_at spans) n t x))
    items_runs s.no_items n t = none n _ (omega arith)
    items_runs (s.then_item x xs) n t = pair n (item_nodes x) (items_nodes xs) _ _ (item_runs x n _) (items_runs xs (n + item_nodes x) _)

    designator_runs : (x : DesigTree) (n t : ℕ) → Runs n (n + designator_nodes x) (designator_row (laid_designator (node_at spans) n t x))
    designator_runs (s.dot_designator at) n t = none n _ (omega arith)
    designator_runs (s.at_designator e) n t = expression_runs e n _

    designators_runs : (x : DesigTrees) (n t : ℕ) → Runs n (n + designators_nodes x) (designators_row (laid_designators (node_at spans) n t x))
    designators_runs s.no_designators n t = none n _ (omega arith)
    designators_runs (s.then_designator x xs) n t = pair n (designator_nodes x) (designators_nodes xs) _ _ (designator_runs x n _) (designators_runs xs (n + designator_nodes x) _)

    expression_runs : (x : ExprTree) (n t : ℕ) → Runs n (n + expression_nodes x) (expression_row (laid_expression (node_at spans) n t x))
    expression_runs (s.expression k f) n t = own n (expression_form_nodes f) _ _ refl (expression_form_runs f n _)

    expressions_runs : (x : ExprTrees) (n t : ℕ) → Runs n (n + expressions_nodes x) (expressions_row (laid_expressions (node_at spans) n t x))
    expressions_runs s.no_expressions n t = none n _ (omega arith)
    expressions_runs (s.then_expression x xs) n t = pair n (expression_nodes x) (expressions_nodes xs) _ _ (expression_runs x n _) (expressions_runs xs (n + expression_nodes x) _)

    maybe_expression_runs : (x : MaybeExprTree) (n t : ℕ) → Runs n (n + maybe_expression_nodes x) (maybe_expression_row (laid_maybe_expression (node_at spans) n t x))
    maybe_expression_runs s.no_expression n t = none n _ (omega arith)
    maybe_expression_runs (s.some_expression e) n t = expression_runs e n _

    expression_form_runs : (x : ExprFormTree) (n t : ℕ) → Runs n (n + expression_form_nodes x) (expression_form_row (laid_expression_form (node_at spans) n t x))
    expression_form_runs (s.name at) n t = none n _ (omega arith)
    expression_form_runs (s.number at) n t = none n _ (omega arith)
    expression_form_runs (s.character at) n t = none n _ (omega arith)
    expression_form_runs (s.text parts) n t = none n _ (omega arith)
    expression_form_runs (s.paren e) n t = expression_runs e n _
    expression_form_runs (s.index a b) n t = pair n (expression_nodes a) (expression_nodes b) _ _ (expression_runs a n _) (expression_runs b (n + expression_nodes a) _)
    expression_form_runs (s.call f args) n t = pair n (expression_nodes f) (expressions_nodes args) _ _ (expression_runs f n _) (expressions_runs args (n + expression_nodes f) _)
    expression_form_runs (s.dot e at) n t = expression_runs e n _
    expression_form_runs (s.arrow e at) n t = expression_runs e n _
    expression_form_runs (s.step op e) n t = expression_runs e n _
    expression_form_runs (s.unary op e) n t = expression_runs e n _
    expression_form_runs (s.size_expression e) n t = expression_runs e n _
    expression_form_runs (s.size_name x) n t = type_name_runs x n _
    expression_form_runs (s.cast x e) n t = pair n (type_name_nodes x) (expression_nodes e) _ _ (type_name_runs x n _) (expression_runs e (n + type_name_nodes x) _)
    expression_form_runs (s.binary op a b) n t = pair n (expression_nodes a) (expression_nodes b) _ _ (expression_runs a n _) (expression_runs b (n + expression_nodes a) _)
    expression_form_runs (s.choice a b c) n t =
        triple n (expression_nodes a) (expression_nodes b) (expression_nodes c) _ _ _ (expression_runs a n _) (expression_runs b (n + expression_nodes a) _) (expression_runs c (n + expression_nodes a + expression_nodes b) _)
    expression_form_runs (s.assign op a b) n t = pair n (expression_nodes a) (expression_nodes b) _ _ (expression_runs a n _) (expression_runs b (n + expression_nodes a) _)

  declaration_runs : (x : DeclarationTree) (n t : ℕ) → Runs n (n + declaration_nodes x) (declaration_row (laid_declaration (node_at spans) n t x))
  declaration_runs (s.declaration word b ds) n t = pair n (base_nodes b) (declarators_nodes ds) _ _ (base_runs b n _) (declarators_runs ds (n + base_nodes b) _)

  start_runs : (x : StartTree) (n t : ℕ) → Runs n (n + start_nodes x) (start_row (laid_start (node_at spans) n t x))
  start_runs (s.start_declaration d) n t = declaration_runs d n _
  start_runs (s.start_expression e) n t = maybe_expression_runs e n _

  label_runs : (x : LabelTree) (n t : ℕ) → Runs n (n + label_nodes x) (label_row (laid_label (node_at spans) n t x))
  label_runs s.default_label n t = none n _ (omega arith)
  label_runs (s.case_label e) n t = expression_runs e n _

  labels_runs : (x : LabelTrees) (n t : ℕ) → Runs n (n + labels_nodes x) (labels_row (laid_labels (node_at spans) n t x))
  labels_runs s.no_labels n t = none n _ (omega arith)
  labels_runs (s.then_label x xs) n t = pair n (label_nodes x) (labels_nodes xs) _ _ (label_runs x n _) (labels_runs xs (n + label_nodes x) _)

  mutual
    statement_runs : (x : StmtTree) (n t : ℕ) → Runs n (n + statement_nodes x) (statement_row (laid_statement (node_at spans) n t x))
    statement_runs (s.statement k f) n t = own n (statement_form_nodes f) _ _ refl (statement_form_runs f n _)

    statements_runs : (x : StmtTrees) (n t : ℕ) → Runs n (n + statements_nodes x) (statements_row (laid_statements (node_at spans) n t x))
    statements_runs s.no_statements n t = none n _ (omega arith)
    statements_runs (s.then_statement x xs) n t = pair n (statement_nodes x) (statements_nodes xs) _ _ (statement_runs x n _) (statements_runs xs (n + statement_nodes x) _)

    maybe_statement_runs : (x : MaybeStmtTree) (n t : ℕ) → Runs n (n + maybe_statement_nodes x) (maybe_statement_row (laid_maybe_statement (node_at spans) n t x))
    maybe_statement_runs s.no_statement n t = none n _ (omega arith)
    maybe_statement_runs (s.some_statement x) n t = statement_runs x n _

    statement_form_runs : (x : StmtFormTree) (n t : ℕ) → Runs n (n + statement_form_nodes x) (statement_form_row (laid_statement_form (node_at spans) n t x))
    statement_form_runs (s.block ps) n t = parts_runs ps n _
    statement_form_runs (s.expression_statement e) n t = maybe_expression_runs e n _
    statement_form_runs (s.if_statement e x y) n t =
        triple n (expression_nodes e) (statement_nodes x) (maybe_statement_nodes y) _ _ _ (expression_runs e n _) (statement_runs x (n + expression_nodes e) _) (maybe_statement_runs y (n + expression_nodes e + statement_nodes x) _)
    statement_form_runs (s.switch_statement e xs) n t = pair n (expression_nodes e) (sections_nodes xs) _ _ (expression_runs e n _) (sections_runs xs (n + expression_nodes e) _)
    statement_form_runs (s.while_statement e x) n t = pair n (expression_nodes e) (statement_nodes x) _ _ (expression_runs e n _) (statement_runs x (n + expression_nodes e) _)
    statement_form_runs (s.do_statement x e) n t = pair n (statement_nodes x) (expression_nodes e) _ _ (statement_runs x n _) (expression_runs e (n + statement_nodes x) _)
    statement_form_runs (s.for_statement first test step x) n t =
        four n (start_nodes first) (maybe_expression_nodes test) (maybe_expression_nodes step) (statement_nodes x) _ _ _ _ (start_runs first n _) (maybe_expression_runs test (n + start_nodes first) _)
        (maybe_expression_runs step (n + start_nodes first + maybe_expression_nodes test) _) (statement_runs x (n + start_nodes first + maybe_expression_nodes test + maybe_expression_nodes step) _)
    statement_form_runs s.break_statement n t = none n _ (omega arith)
    statement_form_runs s.continue_statement n t = none n _ (omega arith)
    statement_form_runs (s.return_statement e) n t = maybe_expression_runs e n _

    part_runs : (x : PartTree) (n t : ℕ) → Runs n (n + part_nodes x) (part_row (laid_part (node_at spans) n t x))
    part_runs (s.local d) n t = declaration_runs d n _
    part_runs (s.run x) n t = statement_runs x n _

    parts_runs : (x : PartTrees) (n t : ℕ) → Runs n (n + parts_nodes x) (parts_row (laid_parts (node_at spans) n t x))
    parts_runs s.no_parts n t = none n _ (omega arith)
    parts_runs (s.then_part x xs) n t = pair n (part_nodes x) (parts_nodes xs) _ _ (part_runs x n _) (parts_runs xs (n + part_nodes x) _)

    section_runs : (x : SectionTree) (n t : ℕ) → Runs n (n + section_nodes x) (section_row (laid_section (node_at spans) n t x))
    section_runs (s.section k ls body) n t = behind n (labels_nodes ls) (statements_nodes body) _ _ _ refl (labels_runs ls n _) (statements_runs body (n + labels_nodes ls) _)

    sections_runs : (x : SectionTrees) (n t : ℕ) → Runs n (n + sections_nodes x) (sections_row (laid_sections (node_at spans) n t x))
    sections_runs s.no_sections n t = none n _ (omega arith)
    sections_runs (s.then_section x xs) n t = pair n (section_nodes x) (sections_nodes xs) _ _ (section_runs x n _) (sections_runs xs (n + section_nodes x) _)

  function_runs : (x : FunctionTree) (n t : ℕ) → Runs n (n + function_nodes x) (function_row (laid_function (node_at spans) n t x))
  function_runs (s.function word b d body) n t =
      triple n (base_nodes b) (declarator_nodes d) (statement_nodes body) _ _ _ (base_runs b n _) (declarator_runs d (n + base_nodes b) _) (statement_runs body (n + base_nodes b + declarator_nodes d) _)

  unit_runs : (x : UnitTree) → Runs 0 (0 + unit_nodes x) (unit_row (unit_laid_out spans x))
  unit_runs (s.empty_unit k) = single 0 _ refl
  unit_runs (s.declares k d) = own 0 (declaration_nodes d) _ _ (omega arith) (declaration_runs d 0 _)
  unit_runs (s.defines k f) = own 0 (function_nodes f) _ _ (omega arith) (function_runs f 0 _)

  -- the node of each number of a unit that is laid out stands in its row where the number says
  pub node_of_number : (x : UnitTree) (k : ℕ) → k < unit_nodes x → IsAt (unit_row (unit_laid_out spans x)) k k
  node_of_number x k less =
      let runs = unit_runs x in
      let found = at 0 (unit_row (unit_laid_out spans x)) runs.counts k (omega (arith, runs.long)) in
      record { node = found.node; there = found.there; same = omega (arith, found.same) }
