-- Which trees are well placed: each part stands where the grammar allows it, so far as no name is needed to tell.
use Rattle.std.specs.Prelude.{ℕ, ◌+◌, Bool, true, false, not, ◌&&◌, List, [], ◌∷◌, Option, Some, None, nat_eq, nat_le}
use Rattle.stk_tree.specs.Levels.{comma_level, assignment_level, conditional_level, logical_or_level, logical_and_level, or_level, xor_level, and_level, equality_level, relational_level, shift_level, additive_level, multiplicative_level, cast_level, unary_level, postfix_level, primary_level}
use Rattle.stk_tree.specs.declared.fixed.Fixed.{Fixed}
use Rattle.stk_tree.specs.declared.fixed.Fixed.TheVariants as fixed
use Rattle.stk_tree.specs.declared.declaration.Storage.{Storage}
use Rattle.stk_tree.specs.declared.declaration.Storage.TheVariants.{Static}
use Rattle.stk_tree.specs.declared.expression.StepOp.{StepOp}
use Rattle.stk_tree.specs.declared.expression.StepOp.TheVariants.{IncBefore, DecBefore, IncAfter, DecAfter}
use Rattle.stk_tree.specs.declared.expression.BinaryOp.{BinaryOp}
use Rattle.stk_tree.specs.declared.expression.BinaryOp.TheVariants as binary
use Rattle.stk_tree.specs.Syntax.{BaseTree, BaseFormTree, MemberTree, MemberTrees, EnumrTree, EnumrTrees, DeclrTree, DeclrTrees, TailTree, DimensionTree, DimensionTrees, ParamTree, ParamTrees, TypeNameTree, InitTree, MaybeInitTree, ItemTree, ItemTrees, DesigTree, DesigTrees, ExprTree, ExprTrees, MaybeExprTree, ExprFormTree}
use Rattle.stk_tree.specs.Syntax.{DeclarationTree, StartTree, LabelTree, LabelTrees, StmtTree, StmtTrees, MaybeStmtTree, StmtFormTree, PartTree, PartTrees, SectionTree, SectionTrees, FunctionTree, UnitTree}
use Rattle.stk_tree.specs.Syntax as s

-- the level of a binary operator (C11 6.5.5 to 6.5.14, 6.5.17)
abbrev pub binary_level : BinaryOp → ℕ
binary_level binary.Comma = comma_level
binary_level binary.OrElse = logical_or_level
binary_level binary.AndAlso = logical_and_level
binary_level binary.Or = or_level
binary_level binary.Xor = xor_level
binary_level binary.And = and_level
binary_level binary.Eq = equality_level
binary_level binary.Ne = equality_level
binary_level binary.Lt = relational_level
binary_level binary.Gt = relational_level
binary_level binary.Le = relational_level
binary_level binary.Ge = relational_level
binary_level binary.Left = shift_level
binary_level binary.Right = shift_level
binary_level binary.Add = additive_level
binary_level binary.Sub = additive_level
binary_level binary.Mul = multiplicative_level
binary_level binary.Div = multiplicative_level
binary_level binary.Rem = multiplicative_level

-- the level of `++` and `--`: unary before the operand, postfix after it (C11 6.5.3.1, 6.5.2.4)
abbrev pub step_level : StepOp → ℕ
step_level IncBefore = unary_level
step_level DecBefore = unary_level
step_level IncAfter = postfix_level
step_level DecAfter = postfix_level

-- the level of an expression, from 1, which binds the weakest, to 17 (C11 6.5)
abbrev pub form_level : ExprFormTree → ℕ
form_level (s.name at) = primary_level
form_level (s.number at) = primary_level
form_level (s.character at) = primary_level
form_level (s.text parts) = primary_level
form_level (s.paren e) = primary_level
form_level (s.index a b) = postfix_level
form_level (s.call f args) = postfix_level
form_level (s.dot e at) = postfix_level
form_level (s.arrow e at) = postfix_level
form_level (s.step op e) = step_level op
form_level (s.unary op e) = unary_level
form_level (s.size_expression e) = unary_level
form_level (s.size_name t) = unary_level
form_level (s.cast t e) = cast_level
form_level (s.binary op a b) = binary_level op
form_level (s.choice a b c) = conditional_level
form_level (s.assign op a b) = assignment_level

-- the words of the basic types (C11 6.7.2)
abbrev pub is_basic : Fixed → Bool
is_basic fixed.Void = true
is_basic fixed.Char = true
is_basic fixed.Short = true
is_basic fixed.Int = true
is_basic fixed.Long = true
is_basic fixed.Signed = true
is_basic fixed.Unsigned = true
is_basic fixed.Bool = true
is_basic other = false

abbrev pub all_basic : List Fixed → Bool
all_basic [] = true
all_basic (w ∷ ws) = is_basic w && all_basic ws

-- one or more basic words
abbrev pub basic_words : List Fixed → Bool
basic_words [] = false
basic_words (w ∷ ws) = is_basic w && all_basic ws

abbrev pub is_filled : {X : Type 0} → List X → Bool
is_filled [] = false
is_filled (x ∷ xs) = true

-- a base without braces
abbrev pub is_unbraced : BaseTree → Bool
is_unbraced (s.base n (s.struct_def tag ms)) = false
is_unbraced (s.base n (s.enum_def tag es comma)) = false
is_unbraced (s.base n other) = true

-- the one word `void`
abbrev pub lone_void_word : List Fixed → Bool
lone_void_word (fixed.Void ∷ []) = true
lone_void_word other = false

abbrev pub is_void : BaseTree → Bool
is_void (s.base n (s.words ws)) = lone_void_word ws
is_void (s.base n other) = false

abbrev pub has_name : DeclrTree → Bool
has_name (s.declarator n count None t i) = false
has_name (s.declarator n count (Some at) t i) = true

-- with array parts after the name, or with nothing
abbrev pub has_arrays : DeclrTree → Bool
has_arrays (s.declarator n count at (s.arrays ds) i) = true
has_arrays (s.declarator n count at other i) = false

abbrev pub has_initialiser : DeclrTree → Bool
has_initialiser (s.declarator n count at t s.no_initialiser) = false
has_initialiser (s.declarator n count at t (s.some_initialiser i)) = true

abbrev pub some_dimensions : DimensionTrees → Bool
some_dimensions s.no_dimensions = false
some_dimensions (s.then_dimension x xs) = true

-- nothing after the name
abbrev pub is_empty_tail : TailTree → Bool
is_empty_tail (s.arrays ds) = not (some_dimensions ds)
is_empty_tail other = false

-- nothing at all: no `*`, no name, no array part
abbrev pub is_empty_declarator : DeclrTree → Bool
is_empty_declarator (s.declarator n count at t i) =
    nat_eq count 0 && not (has_name (s.declarator n count at t i)) && is_empty_tail t && not (has_initialiser (s.declarator n count at t i))

-- in the list of a member: `* .. name arrays`
abbrev pub member_declarator : DeclrTree → Bool
member_declarator d = has_name d && has_arrays d && not (has_initialiser d)

abbrev pub member_declarators : DeclrTrees → Bool
member_declarators s.no_declarators = true
member_declarators (s.then_declarator x xs) = member_declarator x && member_declarators xs

-- in a parameter: `* .. [name] arrays`
abbrev pub parameter_declarator : DeclrTree → Bool
parameter_declarator d = has_arrays d && not (has_initialiser d)

-- in a local declaration: `* .. name arrays [= init]`
abbrev pub local_declarators : DeclrTrees → Bool
local_declarators s.no_declarators = true
local_declarators (s.then_declarator x xs) = has_name x && has_arrays x && local_declarators xs

-- at file scope: `* .. name (arrays or parameters) [= init]`
abbrev pub file_declarators : DeclrTrees → Bool
file_declarators s.no_declarators = true
file_declarators (s.then_declarator x xs) = has_name x && file_declarators xs

-- at the head of a function: `* .. name parameters`
abbrev pub function_declarator : DeclrTree → Bool
function_declarator d = has_name d && not (has_arrays d) && not (has_initialiser d)

abbrev pub some_declarators : DeclrTrees → Bool
some_declarators s.no_declarators = false
some_declarators (s.then_declarator x xs) = true

abbrev pub some_members : MemberTrees → Bool
some_members s.no_members = false
some_members (s.then_member x xs) = true

abbrev pub some_enumerators : EnumrTrees → Bool
some_enumerators s.no_enumerators = false
some_enumerators (s.then_enumerator x xs) = true

abbrev pub some_items : ItemTrees → Bool
some_items s.no_items = false
some_items (s.then_item x xs) = true

-- a comma before the brace only after an item
abbrev pub comma_placed : Bool → ItemTrees → Bool
comma_placed true is = some_items is
comma_placed false is = true

-- a lone `void`
abbrev pub is_void_parameter : ParamTree → Bool
is_void_parameter (s.parameter n b d) = is_void b && is_empty_declarator d

-- one lone `void`, which `(void)` says in another way
abbrev pub lone_void : ParamTrees → Bool → Bool
lone_void (s.then_parameter x s.no_parameters) more = not more && is_void_parameter x
lone_void other more = false

abbrev pub some_parameters : ParamTrees → Bool
some_parameters s.no_parameters = false
some_parameters (s.then_parameter x xs) = true

abbrev mutual
  pub base_placed : BaseTree → Bool
  base_placed (s.base n f) = base_form_placed f

  pub base_form_placed : BaseFormTree → Bool
  base_form_placed (s.words ws) = basic_words ws
  base_form_placed (s.struct_ref tag) = true
  base_form_placed (s.struct_def tag ms) = some_members ms && members_placed ms
  base_form_placed (s.enum_ref tag) = true
  base_form_placed (s.enum_def tag es comma) = some_enumerators es && enumerators_placed es
  base_form_placed (s.named at) = true

  pub member_placed : MemberTree → Bool
  member_placed (s.member b ds) = base_placed b && some_declarators ds && member_declarators ds && declarators_placed ds

  pub members_placed : MemberTrees → Bool
  members_placed s.no_members = true
  members_placed (s.then_member x xs) = member_placed x && members_placed xs

  pub enumerator_placed : EnumrTree → Bool
  enumerator_placed (s.enumerator at e) = constant_placed e

  pub enumerators_placed : EnumrTrees → Bool
  enumerators_placed s.no_enumerators = true
  enumerators_placed (s.then_enumerator x xs) = enumerator_placed x && enumerators_placed xs

  -- a conditional expression that may be missing
  pub constant_placed : MaybeExprTree → Bool
  constant_placed s.no_expression = true
  constant_placed (s.some_expression e) = expression_placed conditional_level e

  -- what a declarator holds, wherever it stands
  pub declarator_placed : DeclrTree → Bool
  declarator_placed (s.declarator n count at t i) = tail_placed t && maybe_initialiser_placed i

  pub declarators_placed : DeclrTrees → Bool
  declarators_placed s.no_declarators = true
  declarators_placed (s.then_declarator x xs) = declarator_placed x && declarators_placed xs

  pub tail_placed : TailTree → Bool
  tail_placed (s.arrays ds) = dimensions_placed ds
  tail_placed s.unspecified = true
  tail_placed s.void_parameters = true
  tail_placed (s.with_parameters ps more) = some_parameters ps && not (lone_void ps more) && parameters_placed ps

  pub dimension_placed : DimensionTree → Bool
  dimension_placed s.open_dimension = true
  dimension_placed (s.sized e) = expression_placed conditional_level e

  pub dimensions_placed : DimensionTrees → Bool
  dimensions_placed s.no_dimensions = true
  dimensions_placed (s.then_dimension x xs) = dimension_placed x && dimensions_placed xs

  pub parameter_placed : ParamTree → Bool
  parameter_placed (s.parameter n b d) = is_unbraced b && base_placed b && parameter_declarator d && declarator_placed d

  pub parameters_placed : ParamTrees → Bool
  parameters_placed s.no_parameters = true
  parameters_placed (s.then_parameter x xs) = parameter_placed x && parameters_placed xs

  pub type_name_placed : TypeNameTree → Bool
  type_name_placed (s.type_name n b count ds) = is_unbraced b && base_placed b && dimensions_placed ds

  pub initialiser_placed : InitTree → Bool
  initialiser_placed (s.plain e) = expression_placed assignment_level e
  initialiser_placed (s.braces is comma) = comma_placed comma is && items_placed is

  pub maybe_initialiser_placed : MaybeInitTree → Bool
  maybe_initialiser_placed s.no_initialiser = true
  maybe_initialiser_placed (s.some_initialiser i) = initialiser_placed i

  pub item_placed : ItemTree → Bool
  item_placed (s.item ds i) = designators_placed ds && initialiser_placed i

  pub items_placed : ItemTrees → Bool
  items_placed s.no_items = true
  items_placed (s.then_item x xs) = item_placed x && items_placed xs

  pub designator_placed : DesigTree → Bool
  designator_placed (s.dot_designator at) = true
  designator_placed (s.at_designator e) = expression_placed conditional_level e

  pub designators_placed : DesigTrees → Bool
  designators_placed s.no_designators = true
  designators_placed (s.then_designator x xs) = designator_placed x && designators_placed xs

  -- an expression in a place that asks for the level `least`
  pub expression_placed : ℕ → ExprTree → Bool
  expression_placed least (s.expression n f) = nat_le least (form_level f) && expression_form_placed f

  -- the arguments of a call: no `,` outside parentheses
  pub arguments_placed : ExprTrees → Bool
  arguments_placed s.no_expressions = true
  arguments_placed (s.then_expression x xs) = expression_placed assignment_level x && arguments_placed xs

  pub expression_form_placed : ExprFormTree → Bool
  expression_form_placed (s.name at) = true
  expression_form_placed (s.number at) = true
  expression_form_placed (s.character at) = true
  expression_form_placed (s.text parts) = is_filled parts
  expression_form_placed (s.paren e) = expression_placed comma_level e
  expression_form_placed (s.index a b) = expression_placed postfix_level a && expression_placed comma_level b
  expression_form_placed (s.call f args) = expression_placed postfix_level f && arguments_placed args
  expression_form_placed (s.dot e at) = expression_placed postfix_level e
  expression_form_placed (s.arrow e at) = expression_placed postfix_level e
  expression_form_placed (s.step op e) = expression_placed (step_level op) e
  expression_form_placed (s.unary op e) = expression_placed cast_level e
  expression_form_placed (s.size_expression e) = expression_placed unary_level e
  expression_form_placed (s.size_name t) = type_name_placed t
  expression_form_placed (s.cast t e) = type_name_placed t && expression_placed cast_level e
  expression_form_placed (s.binary op a b) = expression_placed (binary_level op) a && expression_placed (binary_level op + 1) b
  expression_form_placed (s.choice a b c) = expression_placed logical_or_level a && expression_placed comma_level b && expression_placed conditional_level c
  expression_form_placed (s.assign op a b) = expression_placed unary_level a && expression_placed assignment_level b

-- an expression that may be missing
abbrev pub optional_placed : MaybeExprTree → Bool
optional_placed s.no_expression = true
optional_placed (s.some_expression e) = expression_placed comma_level e

-- `static`, or no storage word
abbrev pub local_storage : Option Storage → Bool
local_storage None = true
local_storage (Some Static) = true
local_storage (Some other) = false

-- in a block or a `for`
abbrev pub local_placed : DeclarationTree → Bool
local_placed (s.declaration word b ds) = local_storage word && is_unbraced b && base_placed b && some_declarators ds && local_declarators ds && declarators_placed ds

-- at file scope
abbrev pub file_placed : DeclarationTree → Bool
file_placed (s.declaration word b ds) = base_placed b && file_declarators ds && declarators_placed ds

abbrev pub start_placed : StartTree → Bool
start_placed (s.start_declaration d) = local_placed d
start_placed (s.start_expression e) = optional_placed e

abbrev pub label_placed : LabelTree → Bool
label_placed s.default_label = true
label_placed (s.case_label e) = expression_placed conditional_level e

abbrev pub labels_placed : LabelTrees → Bool
labels_placed s.no_labels = true
labels_placed (s.then_label x xs) = label_placed x && labels_placed xs

abbrev pub some_labels : LabelTrees → Bool
some_labels s.no_labels = false
some_labels (s.then_label x xs) = true

abbrev pub some_statements : StmtTrees → Bool
some_statements s.no_statements = false
some_statements (s.then_statement x xs) = true

-- only the last section may be without statements
abbrev pub may_precede : SectionTree → SectionTrees → Bool
may_precede x s.no_sections = true
may_precede (s.section n ls body) (s.then_section y ys) = some_statements body

-- a statement that ends with an `if` without `else`, to which a following `else` would belong (C11 6.8.4.1)
abbrev mutual
  pub ends_open : StmtTree → Bool
  ends_open (s.statement n f) = form_ends_open f

  pub form_ends_open : StmtFormTree → Bool
  form_ends_open (s.if_statement e x s.no_statement) = true
  form_ends_open (s.if_statement e x (s.some_statement y)) = ends_open y
  form_ends_open (s.while_statement e x) = ends_open x
  form_ends_open (s.for_statement first test step x) = ends_open x
  form_ends_open other = false

abbrev mutual
  pub statement_placed : StmtTree → Bool
  statement_placed (s.statement n f) = statement_form_placed f

  pub statements_placed : StmtTrees → Bool
  statements_placed s.no_statements = true
  statements_placed (s.then_statement x xs) = statement_placed x && statements_placed xs

  pub statement_form_placed : StmtFormTree → Bool
  statement_form_placed (s.block ps) = parts_placed ps
  statement_form_placed (s.expression_statement e) = optional_placed e
  statement_form_placed (s.if_statement e x s.no_statement) = expression_placed comma_level e && statement_placed x
  statement_form_placed (s.if_statement e x (s.some_statement y)) = expression_placed comma_level e && statement_placed x && not (ends_open x) && statement_placed y
  statement_form_placed (s.switch_statement e xs) = expression_placed comma_level e && sections_placed xs
  statement_form_placed (s.while_statement e x) = expression_placed comma_level e && statement_placed x
  statement_form_placed (s.do_statement x e) = statement_placed x && expression_placed comma_level e
  statement_form_placed (s.for_statement first test step x) = start_placed first && optional_placed test && optional_placed step && statement_placed x
  statement_form_placed s.break_statement = true
  statement_form_placed s.continue_statement = true
  statement_form_placed (s.return_statement e) = optional_placed e

  pub part_placed : PartTree → Bool
  part_placed (s.local d) = local_placed d
  part_placed (s.run x) = statement_placed x

  pub parts_placed : PartTrees → Bool
  parts_placed s.no_parts = true
  parts_placed (s.then_part x xs) = part_placed x && parts_placed xs

  -- one label or more
  pub section_placed : SectionTree → Bool
  section_placed (s.section n labels body) = some_labels labels && labels_placed labels && statements_placed body

  pub sections_placed : SectionTrees → Bool
  sections_placed s.no_sections = true
  sections_placed (s.then_section x xs) = may_precede x xs && section_placed x && sections_placed xs

abbrev pub is_block : StmtTree → Bool
is_block (s.statement n (s.block ps)) = true
is_block (s.statement n other) = false

abbrev pub function_placed : FunctionTree → Bool
function_placed (s.function word b d body) =
    is_unbraced b && base_placed b && function_declarator d && declarator_placed d && is_block body && statement_placed body

abbrev pub unit_placed : UnitTree → Bool
unit_placed (s.empty_unit n) = true
unit_placed (s.declares n d) = file_placed d
unit_placed (s.defines n f) = function_placed f
