-- The tokens that a tree prints, as the grammar of C writes them (C11 6.5, 6.7, 6.8, 6.9).
use Rattle.std.specs.Prelude.{ℕ, Bool, true, false, replicate, List, [], ◌∷◌, ◌++◌, map, Option, Some, None}
use Rattle.stk_base.specs.declared.span.Span.{Span}
use Rattle.stk_base.specs.declared.token.Class.TheVariants.{Word, Number, Character, Text}
use Rattle.stk_tree.specs.declared.fixed.Fixed.{Fixed}
use Rattle.stk_tree.specs.declared.fixed.Fixed.TheVariants as fixed
use Rattle.stk_tree.specs.declared.fixed.Lexeme.{Lexeme}
use Rattle.stk_tree.specs.declared.fixed.Lexeme.TheVariants.{Leaf, Fixed as Token}
use Rattle.stk_tree.specs.declared.declaration.Storage.{Storage}
use Rattle.stk_tree.specs.declared.declaration.Storage.TheVariants.{Typedef, Extern, Static}
use Rattle.stk_tree.specs.declared.expression.StepOp.{StepOp}
use Rattle.stk_tree.specs.declared.expression.StepOp.TheVariants as step
use Rattle.stk_tree.specs.declared.expression.UnaryOp.{UnaryOp}
use Rattle.stk_tree.specs.declared.expression.UnaryOp.TheVariants as unary
use Rattle.stk_tree.specs.declared.expression.BinaryOp.{BinaryOp}
use Rattle.stk_tree.specs.declared.expression.BinaryOp.TheVariants as binary
use Rattle.stk_tree.specs.declared.expression.AssignOp.{AssignOp}
use Rattle.stk_tree.specs.declared.expression.AssignOp.TheVariants as assign
use Rattle.stk_tree.specs.Syntax.{BaseTree, BaseFormTree, MemberTree, MemberTrees, EnumrTree, EnumrTrees, DeclrTree, DeclrTrees, TailTree, DimensionTree, DimensionTrees, ParamTree, ParamTrees, TypeNameTree, InitTree, MaybeInitTree, ItemTree, ItemTrees, DesigTree, DesigTrees, ExprTree, ExprTrees, MaybeExprTree, ExprFormTree}
use Rattle.stk_tree.specs.Syntax.{DeclarationTree, StartTree, LabelTree, LabelTrees, StmtTree, StmtTrees, MaybeStmtTree, StmtFormTree, PartTree, PartTrees, SectionTree, SectionTrees, FunctionTree, UnitTree}
use Rattle.stk_tree.specs.Syntax as s

-- a token whose text stands in the input: a word, a number, a character constant
abbrev pub word : Span → List Lexeme
word at = Leaf Word at ∷ []

-- string literals in a row
abbrev pub texts : List Span → List Lexeme
texts parts = map (Leaf Text) parts

-- reserved words in a row
abbrev pub reserved : List Fixed → List Lexeme
reserved ws = map Token ws

-- how many `*`
abbrev pub stars : ℕ → List Lexeme
stars n = replicate n (Token fixed.Star)

-- a name that may be missing
abbrev pub optional_word : Option Span → List Lexeme
optional_word None = []
optional_word (Some at) = word at

-- the storage word, which may be missing
abbrev pub storage_tokens : Option Storage → List Lexeme
storage_tokens None = []
storage_tokens (Some Typedef) = Token fixed.Typedef ∷ []
storage_tokens (Some Extern) = Token fixed.Extern ∷ []
storage_tokens (Some Static) = Token fixed.Static ∷ []

-- the comma that may stand before a closing brace
abbrev pub last_comma : Bool → List Lexeme
last_comma true = Token fixed.Comma ∷ []
last_comma false = []

-- the `, ...` that may end a parameter list
abbrev pub more_tokens : Bool → List Lexeme
more_tokens true = Token fixed.Comma ∷ Token fixed.Ellipsis ∷ []
more_tokens false = []

-- the punctuator of a unary operator
abbrev pub unary_punctuator : UnaryOp → Fixed
unary_punctuator unary.Address = fixed.Ampersand
unary_punctuator unary.Deref = fixed.Star
unary_punctuator unary.Plus = fixed.Plus
unary_punctuator unary.Minus = fixed.Minus
unary_punctuator unary.Flip = fixed.Tilde
unary_punctuator unary.Not = fixed.Exclamation

-- the punctuator of a binary operator
abbrev pub binary_punctuator : BinaryOp → Fixed
binary_punctuator binary.Comma = fixed.Comma
binary_punctuator binary.OrElse = fixed.OrOr
binary_punctuator binary.AndAlso = fixed.AndAnd
binary_punctuator binary.Or = fixed.Pipe
binary_punctuator binary.Xor = fixed.Caret
binary_punctuator binary.And = fixed.Ampersand
binary_punctuator binary.Eq = fixed.EqualEqual
binary_punctuator binary.Ne = fixed.NotEqual
binary_punctuator binary.Lt = fixed.Less
binary_punctuator binary.Gt = fixed.Greater
binary_punctuator binary.Le = fixed.LessEqual
binary_punctuator binary.Ge = fixed.GreaterEqual
binary_punctuator binary.Left = fixed.LeftShift
binary_punctuator binary.Right = fixed.RightShift
binary_punctuator binary.Add = fixed.Plus
binary_punctuator binary.Sub = fixed.Minus
binary_punctuator binary.Mul = fixed.Star
binary_punctuator binary.Div = fixed.Slash
binary_punctuator binary.Rem = fixed.Percent

-- the punctuator of an assignment operator
abbrev pub assign_punctuator : AssignOp → Fixed
assign_punctuator assign.Plain = fixed.Assign
assign_punctuator assign.Mul = fixed.StarAssign
assign_punctuator assign.Div = fixed.SlashAssign
assign_punctuator assign.Rem = fixed.PercentAssign
assign_punctuator assign.Add = fixed.PlusAssign
assign_punctuator assign.Sub = fixed.MinusAssign
assign_punctuator assign.Left = fixed.LeftShiftAssign
assign_punctuator assign.Right = fixed.RightShiftAssign
assign_punctuator assign.And = fixed.AmpersandAssign
assign_punctuator assign.Xor = fixed.CaretAssign
assign_punctuator assign.Or = fixed.PipeAssign

-- an operand with `++` or `--` before or after it
abbrev pub step_tokens : StepOp → List Lexeme → List Lexeme
step_tokens step.IncBefore e = Token fixed.PlusPlus ∷ e
step_tokens step.DecBefore e = Token fixed.MinusMinus ∷ e
step_tokens step.IncAfter e = e ++ (Token fixed.PlusPlus ∷ [])
step_tokens step.DecAfter e = e ++ (Token fixed.MinusMinus ∷ [])

-- the `=` after designators, where there are any
abbrev pub path_end : DesigTrees → List Lexeme
path_end s.no_designators = []
path_end (s.then_designator d ds) = Token fixed.Assign ∷ []

abbrev mutual
  -- a base
  pub base_tokens : BaseTree → List Lexeme
  base_tokens (s.base n f) = base_form_tokens f

  pub base_form_tokens : BaseFormTree → List Lexeme
  base_form_tokens (s.words ws) = reserved ws
  base_form_tokens (s.struct_ref tag) = Token fixed.Struct ∷ word tag
  base_form_tokens (s.struct_def tag ms) = Token fixed.Struct ∷ optional_word tag ++ Token fixed.LeftBrace ∷ members_tokens ms ++ Token fixed.RightBrace ∷ []
  base_form_tokens (s.enum_ref tag) = Token fixed.Enum ∷ word tag
  base_form_tokens (s.enum_def tag es comma) = Token fixed.Enum ∷ optional_word tag ++ Token fixed.LeftBrace ∷ enumerators_tokens es ++ last_comma comma ++ Token fixed.RightBrace ∷ []
  base_form_tokens (s.named at) = word at

  -- the members of one base, and the members of a `struct`
  pub member_tokens : MemberTree → List Lexeme
  member_tokens (s.member b ds) = base_tokens b ++ declarators_tokens ds ++ Token fixed.Semicolon ∷ []

  pub members_tokens : MemberTrees → List Lexeme
  members_tokens s.no_members = []
  members_tokens (s.then_member x xs) = member_tokens x ++ members_tokens xs

  -- an enumerator, and enumerators with a comma between each two
  pub enumerator_tokens : EnumrTree → List Lexeme
  enumerator_tokens (s.enumerator at e) = word at ++ value_tokens e

  pub enumerators_tokens : EnumrTrees → List Lexeme
  enumerators_tokens s.no_enumerators = []
  enumerators_tokens (s.then_enumerator x xs) = enumerator_tokens x ++ more_enumerators xs

  pub more_enumerators : EnumrTrees → List Lexeme
  more_enumerators s.no_enumerators = []
  more_enumerators (s.then_enumerator x xs) = Token fixed.Comma ∷ enumerator_tokens x ++ more_enumerators xs

  -- the value that may be given to an enumerator
  pub value_tokens : MaybeExprTree → List Lexeme
  value_tokens s.no_expression = []
  value_tokens (s.some_expression e) = Token fixed.Assign ∷ expression_tokens e

  -- a declarator with its initialiser, and declarators with a comma between each two
  pub declarator_tokens : DeclrTree → List Lexeme
  declarator_tokens (s.declarator n count at t i) = stars count ++ optional_word at ++ tail_tokens t ++ initial_tokens i

  pub declarators_tokens : DeclrTrees → List Lexeme
  declarators_tokens s.no_declarators = []
  declarators_tokens (s.then_declarator x xs) = declarator_tokens x ++ more_declarators xs

  pub more_declarators : DeclrTrees → List Lexeme
  more_declarators s.no_declarators = []
  more_declarators (s.then_declarator x xs) = Token fixed.Comma ∷ declarator_tokens x ++ more_declarators xs

  -- the initialiser that may follow a declarator
  pub initial_tokens : MaybeInitTree → List Lexeme
  initial_tokens s.no_initialiser = []
  initial_tokens (s.some_initialiser i) = Token fixed.Assign ∷ initialiser_tokens i

  -- what follows the name of a declarator
  pub tail_tokens : TailTree → List Lexeme
  tail_tokens (s.arrays ds) = dimensions_tokens ds
  tail_tokens s.unspecified = Token fixed.LeftParen ∷ Token fixed.RightParen ∷ []
  tail_tokens s.void_parameters = Token fixed.LeftParen ∷ Token fixed.Void ∷ Token fixed.RightParen ∷ []
  tail_tokens (s.with_parameters ps more) = Token fixed.LeftParen ∷ parameters_tokens ps ++ more_tokens more ++ Token fixed.RightParen ∷ []

  -- an array part, and array parts in a row
  pub dimension_tokens : DimensionTree → List Lexeme
  dimension_tokens s.open_dimension = Token fixed.LeftBracket ∷ Token fixed.RightBracket ∷ []
  dimension_tokens (s.sized e) = Token fixed.LeftBracket ∷ expression_tokens e ++ Token fixed.RightBracket ∷ []

  pub dimensions_tokens : DimensionTrees → List Lexeme
  dimensions_tokens s.no_dimensions = []
  dimensions_tokens (s.then_dimension x xs) = dimension_tokens x ++ dimensions_tokens xs

  -- a parameter, and parameters with a comma between each two
  pub parameter_tokens : ParamTree → List Lexeme
  parameter_tokens (s.parameter n b d) = base_tokens b ++ declarator_tokens d

  pub parameters_tokens : ParamTrees → List Lexeme
  parameters_tokens s.no_parameters = []
  parameters_tokens (s.then_parameter x xs) = parameter_tokens x ++ more_parameters xs

  pub more_parameters : ParamTrees → List Lexeme
  more_parameters s.no_parameters = []
  more_parameters (s.then_parameter x xs) = Token fixed.Comma ∷ parameter_tokens x ++ more_parameters xs

  -- a type name
  pub type_name_tokens : TypeNameTree → List Lexeme
  type_name_tokens (s.type_name n b count ds) = base_tokens b ++ stars count ++ dimensions_tokens ds

  -- an initialiser
  pub initialiser_tokens : InitTree → List Lexeme
  initialiser_tokens (s.plain e) = expression_tokens e
  initialiser_tokens (s.braces is comma) = Token fixed.LeftBrace ∷ items_tokens is ++ last_comma comma ++ Token fixed.RightBrace ∷ []

  -- an item of an initialiser's braces, and items with a comma between each two
  pub item_tokens : ItemTree → List Lexeme
  item_tokens (s.item ds i) = designators_tokens ds ++ path_end ds ++ initialiser_tokens i

  pub items_tokens : ItemTrees → List Lexeme
  items_tokens s.no_items = []
  items_tokens (s.then_item x xs) = item_tokens x ++ more_items xs

  pub more_items : ItemTrees → List Lexeme
  more_items s.no_items = []
  more_items (s.then_item x xs) = Token fixed.Comma ∷ item_tokens x ++ more_items xs

  -- a designator, and designators in a row
  pub designator_tokens : DesigTree → List Lexeme
  designator_tokens (s.dot_designator at) = Token fixed.Dot ∷ word at
  designator_tokens (s.at_designator e) = Token fixed.LeftBracket ∷ expression_tokens e ++ Token fixed.RightBracket ∷ []

  pub designators_tokens : DesigTrees → List Lexeme
  designators_tokens s.no_designators = []
  designators_tokens (s.then_designator x xs) = designator_tokens x ++ designators_tokens xs

  -- an expression, and expressions with a comma between each two
  pub expression_tokens : ExprTree → List Lexeme
  expression_tokens (s.expression n f) = expression_form_tokens f

  pub expressions_tokens : ExprTrees → List Lexeme
  expressions_tokens s.no_expressions = []
  expressions_tokens (s.then_expression x xs) = expression_tokens x ++ more_expressions xs

  pub more_expressions : ExprTrees → List Lexeme
  more_expressions s.no_expressions = []
  more_expressions (s.then_expression x xs) = Token fixed.Comma ∷ expression_tokens x ++ more_expressions xs

  pub expression_form_tokens : ExprFormTree → List Lexeme
  expression_form_tokens (s.name at) = word at
  expression_form_tokens (s.number at) = Leaf Number at ∷ []
  expression_form_tokens (s.character at) = Leaf Character at ∷ []
  expression_form_tokens (s.text parts) = texts parts
  expression_form_tokens (s.paren e) = Token fixed.LeftParen ∷ expression_tokens e ++ Token fixed.RightParen ∷ []
  expression_form_tokens (s.index a b) = expression_tokens a ++ Token fixed.LeftBracket ∷ expression_tokens b ++ Token fixed.RightBracket ∷ []
  expression_form_tokens (s.call f args) = expression_tokens f ++ Token fixed.LeftParen ∷ expressions_tokens args ++ Token fixed.RightParen ∷ []
  expression_form_tokens (s.dot e at) = expression_tokens e ++ Token fixed.Dot ∷ word at
  expression_form_tokens (s.arrow e at) = expression_tokens e ++ Token fixed.Arrow ∷ word at
  expression_form_tokens (s.step op e) = step_tokens op (expression_tokens e)
  expression_form_tokens (s.unary op e) = Token (unary_punctuator op) ∷ expression_tokens e
  expression_form_tokens (s.size_expression e) = Token fixed.Sizeof ∷ expression_tokens e
  expression_form_tokens (s.size_name t) = Token fixed.Sizeof ∷ Token fixed.LeftParen ∷ type_name_tokens t ++ Token fixed.RightParen ∷ []
  expression_form_tokens (s.cast t e) = Token fixed.LeftParen ∷ type_name_tokens t ++ Token fixed.RightParen ∷ expression_tokens e
  expression_form_tokens (s.binary op a b) = expression_tokens a ++ Token (binary_punctuator op) ∷ expression_tokens b
  expression_form_tokens (s.choice a b c) = expression_tokens a ++ Token fixed.Question ∷ expression_tokens b ++ Token fixed.Colon ∷ expression_tokens c
  expression_form_tokens (s.assign op a b) = expression_tokens a ++ Token (assign_punctuator op) ∷ expression_tokens b

-- an expression that may be missing
abbrev pub optional_tokens : MaybeExprTree → List Lexeme
optional_tokens s.no_expression = []
optional_tokens (s.some_expression e) = expression_tokens e

-- a declaration
abbrev pub declaration_tokens : DeclarationTree → List Lexeme
declaration_tokens (s.declaration word b ds) = storage_tokens word ++ base_tokens b ++ declarators_tokens ds ++ Token fixed.Semicolon ∷ []

-- the first part of a `for`, with its semicolon
abbrev pub start_tokens : StartTree → List Lexeme
start_tokens (s.start_declaration d) = declaration_tokens d
start_tokens (s.start_expression e) = optional_tokens e ++ Token fixed.Semicolon ∷ []

-- a label, and labels in a row
abbrev pub label_tokens : LabelTree → List Lexeme
label_tokens s.default_label = Token fixed.Default ∷ Token fixed.Colon ∷ []
label_tokens (s.case_label e) = Token fixed.Case ∷ expression_tokens e ++ Token fixed.Colon ∷ []

abbrev pub labels_tokens : LabelTrees → List Lexeme
labels_tokens s.no_labels = []
labels_tokens (s.then_label x xs) = label_tokens x ++ labels_tokens xs

abbrev mutual
  -- a statement, and statements in a row
  pub statement_tokens : StmtTree → List Lexeme
  statement_tokens (s.statement n f) = statement_form_tokens f

  pub statements_tokens : StmtTrees → List Lexeme
  statements_tokens s.no_statements = []
  statements_tokens (s.then_statement x xs) = statement_tokens x ++ statements_tokens xs

  -- the `else` that an `if` may have
  pub else_tokens : MaybeStmtTree → List Lexeme
  else_tokens s.no_statement = []
  else_tokens (s.some_statement x) = Token fixed.Else ∷ statement_tokens x

  pub statement_form_tokens : StmtFormTree → List Lexeme
  statement_form_tokens (s.block ps) = Token fixed.LeftBrace ∷ parts_tokens ps ++ Token fixed.RightBrace ∷ []
  statement_form_tokens (s.expression_statement e) = optional_tokens e ++ Token fixed.Semicolon ∷ []
  statement_form_tokens (s.if_statement e x other) = Token fixed.If ∷ Token fixed.LeftParen ∷ expression_tokens e ++ Token fixed.RightParen ∷ statement_tokens x ++ else_tokens other
  statement_form_tokens (s.switch_statement e xs) = Token fixed.Switch ∷ Token fixed.LeftParen ∷ expression_tokens e ++ Token fixed.RightParen ∷ Token fixed.LeftBrace ∷ sections_tokens xs ++ Token fixed.RightBrace ∷ []
  statement_form_tokens (s.while_statement e x) = Token fixed.While ∷ Token fixed.LeftParen ∷ expression_tokens e ++ Token fixed.RightParen ∷ statement_tokens x
  statement_form_tokens (s.do_statement x e) = Token fixed.Do ∷ statement_tokens x ++ Token fixed.While ∷ Token fixed.LeftParen ∷ expression_tokens e ++ Token fixed.RightParen ∷ Token fixed.Semicolon ∷ []
  statement_form_tokens (s.for_statement first test step x) = Token fixed.For ∷ Token fixed.LeftParen ∷ start_tokens first ++ optional_tokens test ++ Token fixed.Semicolon ∷ optional_tokens step ++ Token fixed.RightParen ∷ statement_tokens x
  statement_form_tokens s.break_statement = Token fixed.Break ∷ Token fixed.Semicolon ∷ []
  statement_form_tokens s.continue_statement = Token fixed.Continue ∷ Token fixed.Semicolon ∷ []
  statement_form_tokens (s.return_statement e) = Token fixed.Return ∷ optional_tokens e ++ Token fixed.Semicolon ∷ []

  -- a part of a block, and parts in a row
  pub part_tokens : PartTree → List Lexeme
  part_tokens (s.local d) = declaration_tokens d
  part_tokens (s.run x) = statement_tokens x

  pub parts_tokens : PartTrees → List Lexeme
  parts_tokens s.no_parts = []
  parts_tokens (s.then_part x xs) = part_tokens x ++ parts_tokens xs

  -- a section of a `switch`, and sections in a row
  pub section_tokens : SectionTree → List Lexeme
  section_tokens (s.section n labels body) = labels_tokens labels ++ statements_tokens body

  pub sections_tokens : SectionTrees → List Lexeme
  sections_tokens s.no_sections = []
  sections_tokens (s.then_section x xs) = section_tokens x ++ sections_tokens xs

-- a function definition
abbrev pub function_tokens : FunctionTree → List Lexeme
function_tokens (s.function word b d body) = storage_tokens word ++ base_tokens b ++ declarator_tokens d ++ statement_tokens body

-- a unit
abbrev pub unit_tokens : UnitTree → List Lexeme
unit_tokens (s.empty_unit n) = Token fixed.Semicolon ∷ []
unit_tokens (s.declares n d) = declaration_tokens d
unit_tokens (s.defines n f) = function_tokens f
