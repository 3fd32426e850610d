-- The layout of a tree: the tree with the record of each node set. Nodes are numbered from 0, children from left to
-- right, then their parent. A node covers its tokens, from the first byte of the first to the end of the last; a node
-- that prints no token has the empty span where the next token begins.
use Rattle.std.specs.Prelude.{ℕ, zero, suc, ◌+◌, List, get_or, length}
use Rattle.stk_base.specs.declared.span.Span.{Span}
use Rattle.stk_tree.specs.declared.node.Node.{Node}
use Rattle.stk_tree.specs.declared.expression.StepOp.{StepOp}
use Rattle.stk_tree.specs.declared.expression.StepOp.TheVariants.{IncBefore, DecBefore, IncAfter, DecAfter}
use Rattle.stk_tree.specs.Syntax.{BaseTree, BaseFormTree, MemberTree, MemberTrees, EnumrTree, EnumrTrees, DeclrTree, DeclrTrees, TailTree, DimensionTree, DimensionTrees, ParamTree, ParamTrees, TypeNameTree, InitTree, MaybeInitTree, ItemTree, ItemTrees, DesigTree, DesigTrees, ExprTree, ExprTrees, MaybeExprTree, ExprFormTree}
use Rattle.stk_tree.specs.Syntax.{DeclarationTree, StartTree, LabelTree, LabelTrees, StmtTree, StmtTrees, MaybeStmtTree, StmtFormTree, PartTree, PartTrees, SectionTree, SectionTrees, FunctionTree, UnitTree}
use Rattle.stk_tree.specs.Syntax as s
use Rattle.stk_tree.specs.Nodes.{base_form_nodes, base_nodes, declaration_nodes, declarator_nodes, designator_nodes, designators_nodes, dimension_nodes, dimensions_nodes, enumerator_nodes, expression_form_nodes, expression_nodes, function_nodes, item_nodes, label_nodes, labels_nodes, maybe_expression_nodes, maybe_initialiser_nodes, member_nodes, parameter_nodes, part_nodes, section_nodes, start_nodes, statement_form_nodes, statement_nodes, statements_nodes, tail_nodes, type_name_nodes}
use Rattle.stk_tree.specs.Tokens.{base_form_tokens, base_tokens, declaration_tokens, declarator_tokens, designator_tokens, designators_tokens, dimension_tokens, dimensions_tokens, enumerator_tokens, expression_form_tokens, expression_tokens, function_tokens, initial_tokens, item_tokens, label_tokens, labels_tokens, member_tokens, optional_tokens, optional_word, parameter_tokens, part_tokens, path_end, section_tokens, start_tokens, statement_form_tokens, statement_tokens, statements_tokens, storage_tokens, tail_tokens, type_name_tokens}

-- the first byte and the end of the token t; 0 where there is no such token
abbrev pub span_at : List Span → ℕ → Span
span_at spans t = get_or spans t (record { from = 0; to = 0 })

-- what is covered by so many tokens from the token t on: by none, the empty span where the token t begins
abbrev pub covered : List Span → ℕ → ℕ → Span
covered spans t zero = record { from = (span_at spans t).from; to = (span_at spans t).from }
covered spans t (suc k) = record { from = (span_at spans t).from; to = (span_at spans (t + k)).to }

-- the node n, which covers so many tokens from the token t on
abbrev pub node_at : List Span → ℕ → ℕ → ℕ → Node
node_at spans n t count = record { number = n; span = covered spans t count }

-- such a node of a part of a unit, which has no number yet: it has the number 0
abbrev pub unnumbered_at : List Span → ℕ → ℕ → ℕ → Node
unnumbered_at spans n t count = record { number = 0; span = covered spans t count }

-- how many tokens of an operator stand before its operand
abbrev pub before_operand : StepOp → ℕ
before_operand IncBefore = 1
before_operand DecBefore = 1
before_operand IncAfter = 0
before_operand DecAfter = 0

-- how many tokens a tree prints
abbrev pub base_width : BaseTree → ℕ
base_width x = length (base_tokens x)

abbrev pub member_width : MemberTree → ℕ
member_width x = length (member_tokens x)

abbrev pub enumerator_width : EnumrTree → ℕ
enumerator_width x = length (enumerator_tokens x)

abbrev pub declarator_width : DeclrTree → ℕ
declarator_width x = length (declarator_tokens x)

abbrev pub tail_width : TailTree → ℕ
tail_width x = length (tail_tokens x)

abbrev pub initial_width : MaybeInitTree → ℕ
initial_width x = length (initial_tokens x)

abbrev pub dimension_width : DimensionTree → ℕ
dimension_width x = length (dimension_tokens x)

abbrev pub dimensions_width : DimensionTrees → ℕ
dimensions_width x = length (dimensions_tokens x)

abbrev pub parameter_width : ParamTree → ℕ
parameter_width x = length (parameter_tokens x)

abbrev pub type_name_width : TypeNameTree → ℕ
type_name_width x = length (type_name_tokens x)

abbrev pub item_width : ItemTree → ℕ
item_width x = length (item_tokens x)

abbrev pub designators_width : DesigTrees → ℕ
designators_width x = length (designators_tokens x)

abbrev pub designator_width : DesigTree → ℕ
designator_width x = length (designator_tokens x)

abbrev pub expression_width : ExprTree → ℕ
expression_width x = length (expression_tokens x)

abbrev pub optional_width : MaybeExprTree → ℕ
optional_width x = length (optional_tokens x)

abbrev pub declaration_width : DeclarationTree → ℕ
declaration_width x = length (declaration_tokens x)

abbrev pub start_width : StartTree → ℕ
start_width x = length (start_tokens x)

abbrev pub label_width : LabelTree → ℕ
label_width x = length (label_tokens x)

abbrev pub labels_width : LabelTrees → ℕ
labels_width x = length (labels_tokens x)

abbrev pub statement_width : StmtTree → ℕ
statement_width x = length (statement_tokens x)

abbrev pub statements_width : StmtTrees → ℕ
statements_width x = length (statements_tokens x)

abbrev pub part_width : PartTree → ℕ
part_width x = length (part_tokens x)

abbrev pub section_width : SectionTree → ℕ
section_width x = length (section_tokens x)

abbrev pub function_width : FunctionTree → ℕ
function_width x = length (function_tokens x)

-- In each definition below n is the number of the first free node, and t the first token of the tree. `set` makes the
-- record of a node from its number, its first token and how many tokens it covers.
module _ (set : ℕ → ℕ → ℕ → Node) where
  abbrev mutual
    pub laid_base : ℕ → ℕ → BaseTree → BaseTree
    laid_base n t (s.base node f) = s.base (set (n + base_form_nodes f) t (length (base_form_tokens f))) (laid_base_form n t f)

    pub laid_base_form : ℕ → ℕ → BaseFormTree → BaseFormTree
    laid_base_form n t (s.words ws) = s.words ws
    laid_base_form n t (s.struct_ref tag) = s.struct_ref tag
    laid_base_form n t (s.struct_def tag ms) = s.struct_def tag (laid_members n (t + length (optional_word tag) + 2) ms)
    laid_base_form n t (s.enum_ref tag) = s.enum_ref tag
    laid_base_form n t (s.enum_def tag es comma) = s.enum_def tag (laid_enumerators n (t + length (optional_word tag) + 2) es) comma
    laid_base_form n t (s.named at) = s.named at

    pub laid_member : ℕ → ℕ → MemberTree → MemberTree
    laid_member n t (s.member b ds) = s.member (laid_base n t b) (laid_declarators (n + base_nodes b) (t + base_width b) ds)

    pub laid_members : ℕ → ℕ → MemberTrees → MemberTrees
    laid_members n t s.no_members = s.no_members
    laid_members n t (s.then_member x xs) = s.then_member (laid_member n t x) (laid_members (n + member_nodes x) (t + member_width x) xs)

    pub laid_enumerator : ℕ → ℕ → EnumrTree → EnumrTree
    laid_enumerator n t (s.enumerator at e) = s.enumerator at (laid_maybe_expression n (t + 2) e)

    pub laid_enumerators : ℕ → ℕ → EnumrTrees → EnumrTrees
    laid_enumerators n t s.no_enumerators = s.no_enumerators
    laid_enumerators n t (s.then_enumerator x xs) = s.then_enumerator (laid_enumerator n t x) (laid_enumerators (n + enumerator_nodes x) (t + enumerator_width x + 1) xs)

    pub laid_declarator : ℕ → ℕ → DeclrTree → DeclrTree
    laid_declarator n t (s.declarator node count at x i) =
        s.declarator (set (n + tail_nodes x + maybe_initialiser_nodes i) t (count + length (optional_word at) + tail_width x + initial_width i)) count at
        (laid_tail n (t + count + length (optional_word at)) x)
        (laid_maybe_initialiser (n + tail_nodes x) (t + count + length (optional_word at) + tail_width x + 1) i)

    pub laid_declarators : ℕ → ℕ → DeclrTrees → DeclrTrees
    laid_declarators n t s.no_declarators = s.no_declarators
    laid_declarators n t (s.then_declarator x xs) = s.then_declarator (laid_declarator n t x) (laid_declarators (n + declarator_nodes x) (t + declarator_width x + 1) xs)

    pub laid_tail : ℕ → ℕ → TailTree → TailTree
    laid_tail n t (s.arrays ds) = s.arrays (laid_dimensions n t ds)
    laid_tail n t s.unspecified = s.unspecified
    laid_tail n t s.void_parameters = s.void_parameters
    laid_tail n t (s.with_parameters ps more) = s.with_parameters (laid_parameters n (t + 1) ps) more

    pub laid_dimension : ℕ → ℕ → DimensionTree → DimensionTree
    laid_dimension n t s.open_dimension = s.open_dimension
    laid_dimension n t (s.sized e) = s.sized (laid_expression n (t + 1) e)

    pub laid_dimensions : ℕ → ℕ → DimensionTrees → DimensionTrees
    laid_dimensions n t s.no_dimensions = s.no_dimensions
    laid_dimensions n t (s.then_dimension x xs) = s.then_dimension (laid_dimension n t x) (laid_dimensions (n + dimension_nodes x) (t + dimension_width x) xs)

    pub laid_parameter : ℕ → ℕ → ParamTree → ParamTree
    laid_parameter n t (s.parameter node b d) =
        s.parameter (set (n + base_nodes b + declarator_nodes d) t (base_width b + declarator_width d))
        (laid_base n t b) (laid_declarator (n + base_nodes b) (t + base_width b) d)

    pub laid_parameters : ℕ → ℕ → ParamTrees → ParamTrees
    laid_parameters n t s.no_parameters = s.no_parameters
    laid_parameters n t (s.then_parameter x xs) = s.then_parameter (laid_parameter n t x) (laid_parameters (n + parameter_nodes x) (t + parameter_width x + 1) xs)

    pub laid_type_name : ℕ → ℕ → TypeNameTree → TypeNameTree
    laid_type_name n t (s.type_name node b count ds) =
        s.type_name (set (n + base_nodes b + dimensions_nodes ds) t (base_width b + count + dimensions_width ds))
        (laid_base n t b) count (laid_dimensions (n + base_nodes b) (t + base_width b + count) ds)

    pub laid_initialiser : ℕ → ℕ → InitTree → InitTree
    laid_initialiser n t (s.plain e) = s.plain (laid_expression n t e)
    laid_initialiser n t (s.braces is comma) = s.braces (laid_items n (t + 1) is) comma

    pub laid_maybe_initialiser : ℕ → ℕ → MaybeInitTree → MaybeInitTree
    laid_maybe_initialiser n t s.no_initialiser = s.no_initialiser
    laid_maybe_initialiser n t (s.some_initialiser i) = s.some_initialiser (laid_initialiser n t i)

    pub laid_item : ℕ → ℕ → ItemTree → ItemTree
    laid_item n t (s.item ds i) = s.item (laid_designators n t ds) (laid_initialiser (n + designators_nodes ds) (t + designators_width ds + length (path_end ds)) i)

    pub laid_items : ℕ → ℕ → ItemTrees → ItemTrees
    laid_items n t s.no_items = s.no_items
    laid_items n t (s.then_item x xs) = s.then_item (laid_item n t x) (laid_items (n + item_nodes x) (t + item_width x + 1) xs)

    pub laid_designator : ℕ → ℕ → DesigTree → DesigTree
    laid_designator n t (s.dot_designator at) = s.dot_designator at
    laid_designator n t (s.at_designator e) = s.at_designator (laid_expression n (t + 1) e)

    pub laid_designators : ℕ → ℕ → DesigTrees → DesigTrees
    laid_designators n t s.no_designators = s.no_designators
    laid_designators n t (s.then_designator x xs) = s.then_designator (laid_designator n t x) (laid_designators (n + designator_nodes x) (t + designator_width x) xs)

    pub laid_expression : ℕ → ℕ → ExprTree → ExprTree
    laid_expression n t (s.expression node f) = s.expression (set (n + expression_form_nodes f) t (length (expression_form_tokens f))) (laid_expression_form n t f)

    pub laid_expressions : ℕ → ℕ → ExprTrees → ExprTrees
    laid_expressions n t s.no_expressions = s.no_expressions
    laid_expressions n t (s.then_expression x xs) = s.then_expression (laid_expression n t x) (laid_expressions (n + expression_nodes x) (t + expression_width x + 1) xs)

    pub laid_maybe_expression : ℕ → ℕ → MaybeExprTree → MaybeExprTree
    laid_maybe_expression n t s.no_expression = s.no_expression
    laid_maybe_expression n t (s.some_expression e) = s.some_expression (laid_expression n t e)

    pub laid_expression_form : ℕ → ℕ → ExprFormTree → ExprFormTree
    laid_expression_form n t (s.name at) = s.name at
    laid_expression_form n t (s.number at) = s.number at
    laid_expression_form n t (s.character at) = s.character at
    laid_expression_form n t (s.text parts) = s.text parts
    laid_expression_form n t (s.paren e) = s.paren (laid_expression n (t + 1) e)
    laid_expression_form n t (s.index a b) = s.index (laid_expression n t a) (laid_expression (n + expression_nodes a) (t + expression_width a + 1) b)
    laid_expression_form n t (s.call f args) = s.call (laid_expression n t f) (laid_expressions (n + expression_nodes f) (t + expression_width f + 1) args)
    laid_expression_form n t (s.dot e at) = s.dot (laid_expression n t e) at
    laid_expression_form n t (s.arrow e at) = s.arrow (laid_expression n t e) at
    laid_expression_form n t (s.step op e) = s.step op (laid_expression n (t + before_operand op) e)
    laid_expression_form n t (s.unary op e) = s.unary op (laid_expression n (t + 1) e)
    laid_expression_form n t (s.size_expression e) = s.size_expression (laid_expression n (t + 1) e)
    laid_expression_form n t (s.size_name x) = s.size_name (laid_type_name n (t + 2) x)
    laid_expression_form n t (s.cast x e) = s.cast (laid_type_name n (t + 1) x) (laid_expression (n + type_name_nodes x) (t + type_name_width x + 2) e)
    laid_expression_form n t (s.binary op a b) = s.binary op (laid_expression n t a) (laid_expression (n + expression_nodes a) (t + expression_width a + 1) b)
    laid_expression_form n t (s.choice a b c) =
        s.choice (laid_expression n t a)
        (laid_expression (n + expression_nodes a) (t + expression_width a + 1) b)
        (laid_expression (n + expression_nodes a + expression_nodes b) (t + expression_width a + expression_width b + 2) c)
    laid_expression_form n t (s.assign op a b) = s.assign op (laid_expression n t a) (laid_expression (n + expression_nodes a) (t + expression_width a + 1) b)

  abbrev pub laid_declaration : ℕ → ℕ → DeclarationTree → DeclarationTree
  laid_declaration n t (s.declaration word b ds) =
      s.declaration word (laid_base n (t + length (storage_tokens word)) b)
      (laid_declarators (n + base_nodes b) (t + length (storage_tokens word) + base_width b) ds)

  abbrev pub laid_start : ℕ → ℕ → StartTree → StartTree
  laid_start n t (s.start_declaration d) = s.start_declaration (laid_declaration n t d)
  laid_start n t (s.start_expression e) = s.start_expression (laid_maybe_expression n t e)

  abbrev pub laid_label : ℕ → ℕ → LabelTree → LabelTree
  laid_label n t s.default_label = s.default_label
  laid_label n t (s.case_label e) = s.case_label (laid_expression n (t + 1) e)

  abbrev pub laid_labels : ℕ → ℕ → LabelTrees → LabelTrees
  laid_labels n t s.no_labels = s.no_labels
  laid_labels n t (s.then_label x xs) = s.then_label (laid_label n t x) (laid_labels (n + label_nodes x) (t + label_width x) xs)

  abbrev mutual
    pub laid_statement : ℕ → ℕ → StmtTree → StmtTree
    laid_statement n t (s.statement node f) = s.statement (set (n + statement_form_nodes f) t (length (statement_form_tokens f))) (laid_statement_form n t f)

    pub laid_statements : ℕ → ℕ → StmtTrees → StmtTrees
    laid_statements n t s.no_statements = s.no_statements
    laid_statements n t (s.then_statement x xs) = s.then_statement (laid_statement n t x) (laid_statements (n + statement_nodes x) (t + statement_width x) xs)

    pub laid_maybe_statement : ℕ → ℕ → MaybeStmtTree → MaybeStmtTree
    laid_maybe_statement n t s.no_statement = s.no_statement
    laid_maybe_statement n t (s.some_statement x) = s.some_statement (laid_statement n t x)

    pub laid_statement_form : ℕ → ℕ → StmtFormTree → StmtFormTree
    laid_statement_form n t (s.block ps) = s.block (laid_parts n (t + 1) ps)
    laid_statement_form n t (s.expression_statement e) = s.expression_statement (laid_maybe_expression n t e)
    laid_statement_form n t (s.if_statement e x other) =
        s.if_statement (laid_expression n (t + 2) e)
        (laid_statement (n + expression_nodes e) (t + expression_width e + 3) x)
        (laid_maybe_statement (n + expression_nodes e + statement_nodes x) (t + expression_width e + statement_width x + 4) other)
    laid_statement_form n t (s.switch_statement e xs) = s.switch_statement (laid_expression n (t + 2) e) (laid_sections (n + expression_nodes e) (t + expression_width e + 4) xs)
    laid_statement_form n t (s.while_statement e x) = s.while_statement (laid_expression n (t + 2) e) (laid_statement (n + expression_nodes e) (t + expression_width e + 3) x)
    laid_statement_form n t (s.do_statement x e) = s.do_statement (laid_statement n (t + 1) x) (laid_expression (n + statement_nodes x) (t + statement_width x + 3) e)
    laid_statement_form n t (s.for_statement first test step x) =
        s.for_statement (laid_start n (t + 2) first)
        (laid_maybe_expression (n + start_nodes first) (t + start_width first + 2) test)
        (laid_maybe_expression (n + start_nodes first + maybe_expression_nodes test) (t + start_width first + optional_width test + 3) step)
        (laid_statement (n + start_nodes first + maybe_expression_nodes test + maybe_expression_nodes step) (t + start_width first + optional_width test + optional_width step + 4) x)
    laid_statement_form n t s.break_statement = s.break_statement
    laid_statement_form n t s.continue_statement = s.continue_statement
    laid_statement_form n t (s.return_statement e) = s.return_statement (laid_maybe_expression n (t + 1) e)

    pub laid_part : ℕ → ℕ → PartTree → PartTree
    laid_part n t (s.local d) = s.local (laid_declaration n t d)
    laid_part n t (s.run x) = s.run (laid_statement n t x)

    pub laid_parts : ℕ → ℕ → PartTrees → PartTrees
    laid_parts n t s.no_parts = s.no_parts
    laid_parts n t (s.then_part x xs) = s.then_part (laid_part n t x) (laid_parts (n + part_nodes x) (t + part_width x) xs)

    pub laid_section : ℕ → ℕ → SectionTree → SectionTree
    laid_section n t (s.section node labels body) =
        s.section (set (n + labels_nodes labels + statements_nodes body) t (labels_width labels + statements_width body))
        (laid_labels n t labels) (laid_statements (n + labels_nodes labels) (t + labels_width labels) body)

    pub laid_sections : ℕ → ℕ → SectionTrees → SectionTrees
    laid_sections n t s.no_sections = s.no_sections
    laid_sections n t (s.then_section x xs) = s.then_section (laid_section n t x) (laid_sections (n + section_nodes x) (t + section_width x) xs)

  abbrev pub laid_function : ℕ → ℕ → FunctionTree → FunctionTree
  laid_function n t (s.function word b d body) =
      s.function word (laid_base n (t + length (storage_tokens word)) b)
      (laid_declarator (n + base_nodes b) (t + length (storage_tokens word) + base_width b) d)
      (laid_statement (n + base_nodes b + declarator_nodes d) (t + length (storage_tokens word) + base_width b + declarator_width d) body)

-- a unit from the node 0 and the token 0 on
abbrev pub unit_laid_out : List Span → UnitTree → UnitTree
unit_laid_out spans (s.empty_unit node) = s.empty_unit (node_at spans 0 0 1)
unit_laid_out spans (s.declares node d) = s.declares (node_at spans (declaration_nodes d) 0 (declaration_width d)) (laid_declaration (node_at spans) 0 0 d)
unit_laid_out spans (s.defines node f) = s.defines (node_at spans (function_nodes f) 0 (function_width f)) (laid_function (node_at spans) 0 0 f)
