-- The expressions, local declarators, statements and sections of a function, in the order of their nodes, each with its
-- form and how it is evaluated. The lists of conditions, candidates and keys, what a loop may change, and the weight
-- are read off them. Not evaluated are the operand of `sizeof`, the size of an array, a case label and a designator
-- (C11 6.5.3.4p2, 6.7.6.2, 6.8.4.2p3, 6.7.9p7); the initialiser of a `static` object isn't even typed, so its nodes
-- aren't among these (C11 6.7.9p4).
use Rattle.std.specs.Prelude.{ℕ, Bool, true, false, if◌then◌else◌, List, [], ◌∷◌, ◌++◌, Option}
use Rattle.stk_base.specs.declared.span.Span.{Span}
use Rattle.stk_ctype.specs.Types.{TypeTree}
use Rattle.stk_tree.specs.declared.expression.UnaryOp.{UnaryOp}
use Rattle.stk_tree.specs.declared.expression.UnaryOp.TheVariants as unary
use Rattle.stk_tree.specs.declared.expression.BinaryOp.{BinaryOp}
use Rattle.stk_tree.specs.declared.expression.BinaryOp.TheVariants as binary
use Rattle.stk_tree.specs.declared.expression.AssignOp.{AssignOp}
use Rattle.stk_tree.specs.declared.expression.AssignOp.TheVariants as assign
use Rattle.stk_tree.specs.Syntax.{ExprTree, ExprTrees, MaybeExprTree, ExprFormTree, InitTree, MaybeInitTree, ItemTree, ItemTrees, DesigTree, DesigTrees, TypeNameTree, DimensionTree, DimensionTrees, TailTree, ParamTree, ParamTrees, DeclrTree, DeclrTrees, DeclarationTree, StartTree, LabelTree, LabelTrees, StmtTree, StmtTrees, MaybeStmtTree, StmtFormTree, PartTree, PartTrees, SectionTree, SectionTrees}
use Rattle.stk_tree.specs.Syntax as s
use Rattle.stk_tree.specs.Parts.{is_static}
use Rattle.stk_meaning.specs.Typings.{Typing, type_in, is_array, declarator_node}

-- how a place is used: its number is read; it is accessed, as a member of it is or as it is written; its address is
-- taken
pub data Use : Type 0 where
  read : Use
  accessed : Use
  taken : Use

-- how an expression is evaluated: its use, whether it is entered as a branch, and whether it is a controlling
-- expression
pub record Role : Type 0 where
  pub use_of : Use
  pub is_arm : Bool
  pub is_test : Bool

-- a node: an expression; a declarator of a local object, with whether it is `static`; a statement, with whether it is
-- entered as a branch; a section
pub data Visit : Type 0 where
  at_expression : ℕ → Role → ExprFormTree → Visit
  at_declarator : ℕ → Bool → Option Span → MaybeInitTree → Visit
  at_statement : ℕ → Bool → StmtFormTree → Visit
  at_section : ℕ → LabelTrees → Visit

-- visits in order; a scope has the declarators of its own locals; what isn't evaluated is marked
pub data Visits : Type 0 where
  no_visit : Visits
  one_visit : Visit → Visits
  both_visits : Visits → Visits → Visits
  scope : List ℕ → Visits → Visits
  unevaluated : Visits → Visits

-- what each visit gives that is evaluated, in order
abbrev pub collected : {A : Type 0} → (Visit → List A) → Visits → List A
collected f no_visit = []
collected f (one_visit x) = f x
collected f (both_visits a b) = collected f a ++ collected f b
collected f (scope ks a) = collected f a
collected f (unevaluated a) = []

-- an operand whose number is read; a place that is accessed and not read; the operand of `&`; a branch; a controlling
-- expression
abbrev pub reading : Role
reading = record { use_of = read; is_arm = false; is_test = false }

abbrev pub accessing : Role
accessing = record { use_of = accessed; is_arm = false; is_test = false }

abbrev pub taking : Role
taking = record { use_of = taken; is_arm = false; is_test = false }

abbrev pub as_arm : Role
as_arm = record { use_of = read; is_arm = true; is_test = false }

abbrev pub as_test : Role
as_test = record { use_of = read; is_arm = false; is_test = true }

-- whether a use of a place of this type accesses it: to read an array is to take the address of its first element (C11
-- 6.3.2.1p3)
abbrev pub accesses : TypeTree → Use → Bool
accesses t read = if is_array t then false else true
accesses t accessed = true
accesses t taken = false

-- the place that a member, or an element of an array, stands in
abbrev pub inner_role : TypeTree → Use → Role
inner_role t u = if accesses t u then accessing else taking

-- what parentheses hold is used as they are, and is no branch of its own
abbrev pub inside : Role → Role
inside role = record { use_of = role.use_of; is_arm = false; is_test = role.is_test }

-- what stands before `[e]`: the array that the element stands in, or a pointer that is read
abbrev pub indexed_role : TypeTree → TypeTree → Use → Role
indexed_role whole t u = if is_array t then inner_role whole u else reading

abbrev pub unary_role : UnaryOp → Role
unary_role unary.Address = taking
unary_role unary.Deref = reading
unary_role unary.Plus = reading
unary_role unary.Minus = reading
unary_role unary.Flip = reading
unary_role unary.Not = reading

-- the left and the right operand of a binary operator
abbrev pub left_role : BinaryOp → Role
left_role binary.Comma = reading
left_role binary.OrElse = as_test
left_role binary.AndAlso = as_test
left_role binary.Or = reading
left_role binary.Xor = reading
left_role binary.And = reading
left_role binary.Eq = reading
left_role binary.Ne = reading
left_role binary.Lt = reading
left_role binary.Gt = reading
left_role binary.Le = reading
left_role binary.Ge = reading
left_role binary.Left = reading
left_role binary.Right = reading
left_role binary.Add = reading
left_role binary.Sub = reading
left_role binary.Mul = reading
left_role binary.Div = reading
left_role binary.Rem = reading

abbrev pub right_role : BinaryOp → Role
right_role binary.Comma = reading
right_role binary.OrElse = as_arm
right_role binary.AndAlso = as_arm
right_role binary.Or = reading
right_role binary.Xor = reading
right_role binary.And = reading
right_role binary.Eq = reading
right_role binary.Ne = reading
right_role binary.Lt = reading
right_role binary.Gt = reading
right_role binary.Le = reading
right_role binary.Ge = reading
right_role binary.Left = reading
right_role binary.Right = reading
right_role binary.Add = reading
right_role binary.Sub = reading
right_role binary.Mul = reading
right_role binary.Div = reading
right_role binary.Rem = reading

-- the left operand of an assignment: a compound one reads it too
abbrev pub assigned_role : AssignOp → Role
assigned_role assign.Plain = accessing
assigned_role assign.Mul = reading
assigned_role assign.Div = reading
assigned_role assign.Rem = reading
assigned_role assign.Add = reading
assigned_role assign.Sub = reading
assigned_role assign.Left = reading
assigned_role assign.Right = reading
assigned_role assign.And = reading
assigned_role assign.Xor = reading
assigned_role assign.Or = reading

-- expressions: operands from left to right, and then the expression itself
abbrev mutual
  pub expression_visits : Typing → Role → ExprTree → Visits
  expression_visits ty role (s.expression n f) = both_visits (form_visits ty n.number role f) (one_visit (at_expression n.number role f))

  pub form_visits : Typing → ℕ → Role → ExprFormTree → Visits
  form_visits ty k role (s.name at) = no_visit
  form_visits ty k role (s.number at) = no_visit
  form_visits ty k role (s.character at) = no_visit
  form_visits ty k role (s.text parts) = no_visit
  form_visits ty k role (s.paren e) = expression_visits ty (inside role) e
  form_visits ty k role (s.index a b) =
      both_visits (expression_visits ty (indexed_role (ty.type_at k) (type_in ty a) role.use_of) a) (expression_visits ty reading b)
  form_visits ty k role (s.call e es) = arguments_visits ty es
  form_visits ty k role (s.dot e at) = expression_visits ty (inner_role (ty.type_at k) role.use_of) e
  form_visits ty k role (s.arrow e at) = expression_visits ty reading e
  form_visits ty k role (s.step op e) = expression_visits ty reading e
  form_visits ty k role (s.unary op e) = expression_visits ty (unary_role op) e
  form_visits ty k role (s.size_expression e) = unevaluated (expression_visits ty reading e)
  form_visits ty k role (s.size_name t) = type_name_visits ty t
  form_visits ty k role (s.cast t e) = both_visits (type_name_visits ty t) (expression_visits ty reading e)
  form_visits ty k role (s.binary op a b) = both_visits (expression_visits ty (left_role op) a) (expression_visits ty (right_role op) b)
  form_visits ty k role (s.choice a b c) =
      both_visits (expression_visits ty as_test a) (both_visits (expression_visits ty as_arm b) (expression_visits ty as_arm c))
  form_visits ty k role (s.assign op a b) = both_visits (expression_visits ty (assigned_role op) a) (expression_visits ty reading b)

  pub arguments_visits : Typing → ExprTrees → Visits
  arguments_visits ty s.no_expressions = no_visit
  arguments_visits ty (s.then_expression e es) = both_visits (expression_visits ty reading e) (arguments_visits ty es)

  -- the sizes of the array parts of a type name
  pub type_name_visits : Typing → TypeNameTree → Visits
  type_name_visits ty (s.type_name n specifiers count ds) = dimensions_visits ty ds

  pub dimensions_visits : Typing → DimensionTrees → Visits
  dimensions_visits ty s.no_dimensions = no_visit
  dimensions_visits ty (s.then_dimension d ds) = both_visits (dimension_visits ty d) (dimensions_visits ty ds)

  pub dimension_visits : Typing → DimensionTree → Visits
  dimension_visits ty s.open_dimension = no_visit
  dimension_visits ty (s.sized e) = unevaluated (expression_visits ty reading e)

-- an expression that may be missing
abbrev pub maybe_visits : Typing → Role → MaybeExprTree → Visits
maybe_visits ty role s.no_expression = no_visit
maybe_visits ty role (s.some_expression e) = expression_visits ty role e

-- initialisers: the items in braces from left to right
abbrev mutual
  pub initialiser_visits : Typing → InitTree → Visits
  initialiser_visits ty (s.plain e) = expression_visits ty reading e
  initialiser_visits ty (s.braces items comma) = items_visits ty items

  pub items_visits : Typing → ItemTrees → Visits
  items_visits ty s.no_items = no_visit
  items_visits ty (s.then_item x xs) = both_visits (item_visits ty x) (items_visits ty xs)

  pub item_visits : Typing → ItemTree → Visits
  item_visits ty (s.item path x) = both_visits (designators_visits ty path) (initialiser_visits ty x)

  pub designators_visits : Typing → DesigTrees → Visits
  designators_visits ty s.no_designators = no_visit
  designators_visits ty (s.then_designator d ds) = both_visits (designator_visits ty d) (designators_visits ty ds)

  pub designator_visits : Typing → DesigTree → Visits
  designator_visits ty (s.dot_designator at) = no_visit
  designator_visits ty (s.at_designator e) = unevaluated (expression_visits ty reading e)

-- what follows the name of a declarator
abbrev mutual
  pub tail_visits : Typing → TailTree → Visits
  tail_visits ty (s.arrays ds) = dimensions_visits ty ds
  tail_visits ty s.unspecified = no_visit
  tail_visits ty s.void_parameters = no_visit
  tail_visits ty (s.with_parameters ps more) = parameters_visits ty ps

  pub parameters_visits : Typing → ParamTrees → Visits
  parameters_visits ty s.no_parameters = no_visit
  parameters_visits ty (s.then_parameter p ps) = both_visits (parameter_visits ty p) (parameters_visits ty ps)

  pub parameter_visits : Typing → ParamTree → Visits
  parameter_visits ty (s.parameter n specifiers d) = head_visits ty d

  -- a declarator of a parameter, or of a function
  pub head_visits : Typing → DeclrTree → Visits
  head_visits ty (s.declarator n count at tail init) = tail_visits ty tail

-- the initialiser of a local object, which isn't evaluated where the object is `static`
abbrev pub initial_visits : Typing → Bool → MaybeInitTree → Visits
initial_visits ty static s.no_initialiser = no_visit
initial_visits ty true (s.some_initialiser x) = no_visit
initial_visits ty false (s.some_initialiser x) = initialiser_visits ty x

abbrev pub declarator_visits : Typing → Bool → DeclrTree → Visits
declarator_visits ty static (s.declarator n count at tail init) = both_visits (tail_visits ty tail) (both_visits (initial_visits ty static init) (one_visit (at_declarator n.number static at init)))

abbrev pub declarators_visits : Typing → Bool → DeclrTrees → Visits
declarators_visits ty static s.no_declarators = no_visit
declarators_visits ty static (s.then_declarator d ds) = both_visits (declarator_visits ty static d) (declarators_visits ty static ds)

abbrev pub declaration_visits : Typing → DeclarationTree → Visits
declaration_visits ty (s.declaration word specifiers ds) = declarators_visits ty (is_static word) ds

-- the declarators of a declaration
abbrev pub declared_by : DeclrTrees → List ℕ
declared_by s.no_declarators = []
declared_by (s.then_declarator d ds) = declarator_node d ∷ declared_by ds

abbrev pub declared_in : DeclarationTree → List ℕ
declared_in (s.declaration word specifiers ds) = declared_by ds

-- those of a block, without the blocks in it
abbrev pub part_declares : PartTree → List ℕ
part_declares (s.local d) = declared_in d
part_declares (s.run x) = []

abbrev pub parts_declare : PartTrees → List ℕ
parts_declare s.no_parts = []
parts_declare (s.then_part p ps) = part_declares p ++ parts_declare ps

-- the first part of a `for` (C11 6.8.5.3)
abbrev pub start_visits : Typing → StartTree → Visits
start_visits ty (s.start_declaration d) = declaration_visits ty d
start_visits ty (s.start_expression e) = maybe_visits ty reading e

abbrev pub start_declares : StartTree → List ℕ
start_declares (s.start_declaration d) = declared_in d
start_declares (s.start_expression e) = []

-- the labels of a section
abbrev pub label_visits : Typing → LabelTree → Visits
label_visits ty s.default_label = no_visit
label_visits ty (s.case_label e) = unevaluated (expression_visits ty reading e)

abbrev pub labels_visits : Typing → LabelTrees → Visits
labels_visits ty s.no_labels = no_visit
labels_visits ty (s.then_label l ls) = both_visits (label_visits ty l) (labels_visits ty ls)

-- statements: their parts in order, and then the statement itself
abbrev mutual
  pub statement_visits : Typing → Bool → StmtTree → Visits
  statement_visits ty arm (s.statement n f) = both_visits (statement_form_visits ty f) (one_visit (at_statement n.number arm f))

  pub statement_form_visits : Typing → StmtFormTree → Visits
  statement_form_visits ty (s.block ps) = scope (parts_declare ps) (parts_visits ty ps)
  statement_form_visits ty (s.expression_statement e) = maybe_visits ty reading e
  statement_form_visits ty (s.if_statement e x y) = both_visits (expression_visits ty as_test e) (both_visits (statement_visits ty true x) (maybe_statement_visits ty y))
  statement_form_visits ty (s.switch_statement e ss) = both_visits (expression_visits ty reading e) (sections_visits ty ss)
  statement_form_visits ty (s.while_statement e x) = both_visits (expression_visits ty as_test e) (statement_visits ty true x)
  statement_form_visits ty (s.do_statement x e) = both_visits (statement_visits ty true x) (expression_visits ty as_test e)
  statement_form_visits ty (s.for_statement first test step x) =
      scope (start_declares first) (both_visits (start_visits ty first) (both_visits (maybe_visits ty as_test test) (both_visits (maybe_visits ty reading step) (statement_visits ty true x))))
  statement_form_visits ty s.break_statement = no_visit
  statement_form_visits ty s.continue_statement = no_visit
  statement_form_visits ty (s.return_statement e) = maybe_visits ty reading e

  pub maybe_statement_visits : Typing → MaybeStmtTree → Visits
  maybe_statement_visits ty s.no_statement = no_visit
  maybe_statement_visits ty (s.some_statement x) = statement_visits ty true x

  pub statements_visits : Typing → StmtTrees → Visits
  statements_visits ty s.no_statements = no_visit
  statements_visits ty (s.then_statement x xs) = both_visits (statement_visits ty false x) (statements_visits ty xs)

  pub parts_visits : Typing → PartTrees → Visits
  parts_visits ty s.no_parts = no_visit
  parts_visits ty (s.then_part p ps) = both_visits (part_visits ty p) (parts_visits ty ps)

  pub part_visits : Typing → PartTree → Visits
  part_visits ty (s.local d) = declaration_visits ty d
  part_visits ty (s.run x) = statement_visits ty false x

  pub sections_visits : Typing → SectionTrees → Visits
  sections_visits ty s.no_sections = no_visit
  sections_visits ty (s.then_section x xs) = both_visits (section_visits ty x) (sections_visits ty xs)

  pub section_visits : Typing → SectionTree → Visits
  section_visits ty (s.section n ls body) = both_visits (labels_visits ty ls) (both_visits (statements_visits ty body) (one_visit (at_section n.number ls)))

-- what a loop evaluates again in each turn: its test, its step and its body; nothing of another statement
abbrev pub turn_visits : Typing → StmtFormTree → Visits
turn_visits ty (s.block ps) = no_visit
turn_visits ty (s.expression_statement e) = no_visit
turn_visits ty (s.if_statement e x y) = no_visit
turn_visits ty (s.switch_statement e ss) = no_visit
turn_visits ty (s.while_statement e x) = both_visits (expression_visits ty as_test e) (statement_visits ty true x)
turn_visits ty (s.do_statement x e) = both_visits (statement_visits ty true x) (expression_visits ty as_test e)
turn_visits ty (s.for_statement first test step x) = both_visits (maybe_visits ty as_test test) (both_visits (maybe_visits ty reading step) (statement_visits ty true x))
turn_visits ty s.break_statement = no_visit
turn_visits ty s.continue_statement = no_visit
turn_visits ty (s.return_statement e) = no_visit
