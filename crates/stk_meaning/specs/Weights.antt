-- The weight of a function: how much the search for its findings may cost. It is a sum of one number a node, one number
-- a memory object, and one number a pair of objects. The table has a line for each form.
use Rattle.std.specs.Prelude.{ℕ, ◌+◌, ◌*◌, ◌==◌, Bool, true, false, ◌&&◌, ◌||◌, if◌then◌else◌, max, count_ones, List, [], ◌∷◌, length, filter, Option, Some, None}
use Rattle.std.specs.List.{list_any}
use Rattle.stk_ctype.specs.Types.{TypeTree, void_type, integer_type, pointer_type, array_type, struct_type, function_type}
use Rattle.stk_tree.specs.declared.expression.UnaryOp.{UnaryOp}
use Rattle.stk_tree.specs.declared.expression.UnaryOp.TheVariants as unary
use Rattle.stk_tree.specs.Syntax.{ExprTree, MaybeExprTree, ExprFormTree, InitTree, MaybeInitTree, LabelTree, LabelTrees, StmtFormTree, FunctionTree}
use Rattle.stk_tree.specs.Syntax as s
use Rattle.stk_tree.specs.Nodes.{function_nodes}
use Rattle.stk_numbers.specs.declared.operators.ArithOp.{ArithOp}
use Rattle.stk_numbers.specs.declared.operators.ArithOp.TheVariants as arith_op
use Rattle.stk_numbers.specs.declared.conditions.Kinds.{Kinds}
use Rattle.stk_numbers.specs.Kinds.{width_of}
use Rattle.stk_type_rules.specs.Types.{is_scalar}
use Rattle.stk_meaning.specs.Typings.{Typing, type_in, stride_in, is_among}
use Rattle.stk_meaning.specs.Operations.{Operator, Operation, in_kind, shift_in, compare_in, move, move_behind, measure, operation_of, step_operation, BinarySort, operates, joins, or_else, and_also, sort_of, assigned_operator}
use Rattle.stk_meaning.specs.Libraries.{Library, absolute_in, copy_bytes, called_library}
use Rattle.stk_meaning.specs.Replacements.{Replaced, replacement}
use Rattle.stk_meaning.specs.Places.{Setting, Target, in_register, in_kept, in_object, unnamed, target_at, target_of, form_target}
use Rattle.stk_meaning.specs.Visits.{Use, read, accessed, taken, Role, Visit, at_expression, at_declarator, at_statement, at_section, Visits, no_visit, one_visit, both_visits, scope, unevaluated, collected, statement_form_visits}
use Rattle.stk_meaning.specs.Keys.{Object, objects_of, setting_of, function_visits}

-- the bits of a value of a type; what is `void` has none
abbrev pub bits_in : TypeTree → ℕ
bits_in void_type = 0
bits_in (integer_type k) = width_of k
bits_in (pointer_type t) = 64
bits_in (array_type t count) = 64
bits_in (struct_type id) = 0
bits_in (function_type f) = 0

-- the bits that an operation works in
abbrev pub operation_bits : Operation → ℕ
operation_bits (in_kind op k) = width_of k
operation_bits (shift_in op k) = width_of k
operation_bits (compare_in op k) = width_of k
operation_bits (move minus size) = 64
operation_bits (move_behind size) = 64
operation_bits (measure size) = 64

-- whether an operator multiplies or divides
abbrev pub is_product : ArithOp → Bool
is_product arith_op.Add = false
is_product arith_op.Sub = false
is_product arith_op.Mul = true
is_product arith_op.Div = true
is_product arith_op.Rem = true
is_product arith_op.And = false
is_product arith_op.Xor = false
is_product arith_op.Or = false

-- an operation whose greatest width is w: sums, bitwise operators and comparisons; products and quotients; shifts;
-- moves of pointers, by the 1 bits of the size; distances
abbrev pub operation_weight : ℕ → Operation → ℕ
operation_weight w (in_kind op k) = if is_product op then 16 * w + 32 * w * w else 32 * w
operation_weight w (shift_in op k) = 48 * w
operation_weight w (compare_in op k) = 32 * w
operation_weight w (move minus size) = 2048 + 2048 * count_ones size
operation_weight w (move_behind size) = 2048 + 2048 * count_ones size
operation_weight w (measure size) = if size == 1 then 1024 else 132096

-- `++` and `--`: 48 a bit on integers, and on pointers as their moves
abbrev pub step_weight : ℕ → Operation → ℕ
step_weight w (in_kind op k) = 48 * w
step_weight w (shift_in op k) = 48 * w
step_weight w (compare_in op k) = 48 * w
step_weight w (move minus size) = 2048 + 2048 * count_ones size
step_weight w (move_behind size) = 2048 + 2048 * count_ones size
step_weight w (measure size) = 2048 + 2048 * count_ones size

-- a binary operator on operands of these widths, in an expression of another
abbrev pub greatest_bits : ℕ → ℕ → ℕ → ℕ
greatest_bits a b c = max a (max b c)

abbrev pub binary_weight : Typing → ℕ → BinarySort → ExprTree → ExprTree → ℕ
binary_weight ty k (operates op) a b =
    let how = operation_of ty op (type_in ty a) (type_in ty b) in
    operation_weight (max (greatest_bits (bits_in (type_in ty a)) (bits_in (type_in ty b)) (bits_in (ty.type_at k))) (operation_bits how)) how
binary_weight ty k joins a b = 0
binary_weight ty k or_else a b = 32 * greatest_bits (bits_in (type_in ty a)) (bits_in (type_in ty b)) (bits_in (ty.type_at k))
binary_weight ty k and_also a b = 32 * greatest_bits (bits_in (type_in ty a)) (bits_in (type_in ty b)) (bits_in (ty.type_at k))

abbrev pub unary_weight : ℕ → UnaryOp → ℕ
unary_weight w unary.Address = 0
unary_weight w unary.Deref = 2048
unary_weight w unary.Plus = 0
unary_weight w unary.Minus = 32 * w
unary_weight w unary.Flip = 32 * w
unary_weight w unary.Not = 32 * w

-- an assignment: 32 a bit, and a compound one its operator too
abbrev pub assigned_weight : Typing → Option Operator → ExprTree → ExprTree → ℕ
assigned_weight ty None a b = 32 * max (bits_in (type_in ty a)) (bits_in (type_in ty b))
assigned_weight ty (Some op) a b =
    let how = operation_of ty op (type_in ty a) (type_in ty b) in
    let w = greatest_bits (bits_in (type_in ty a)) (bits_in (type_in ty b)) (operation_bits how) in
    32 * w + operation_weight w how

-- what each form adds to its node, evaluated or not
abbrev pub form_weight : Typing → ℕ → ExprFormTree → ℕ
form_weight ty k (s.name at) = 0
form_weight ty k (s.number at) = 0
form_weight ty k (s.character at) = 0
form_weight ty k (s.text parts) = 0
form_weight ty k (s.paren e) = 0
form_weight ty k (s.index a b) = 2048 + 2048 * count_ones (stride_in ty (type_in ty a))
form_weight ty k (s.call e es) = 0
form_weight ty k (s.dot e at) = 2048
form_weight ty k (s.arrow e at) = 2048
form_weight ty k (s.step op e) =
    let how = step_operation ty op (type_in ty e) in
    step_weight (max (bits_in (type_in ty e)) (operation_bits how)) how
form_weight ty k (s.unary op e) = unary_weight (max (bits_in (type_in ty e)) (bits_in (ty.type_at k))) op
form_weight ty k (s.size_expression e) = 0
form_weight ty k (s.size_name t) = 0
form_weight ty k (s.cast t e) = 32 * max (bits_in (type_in ty e)) (bits_in (ty.type_at k))
form_weight ty k (s.binary op a b) = binary_weight ty k (sort_of op) a b
form_weight ty k (s.choice a b c) = 32 * max (bits_in (type_in ty a)) (greatest_bits (bits_in (type_in ty b)) (bits_in (type_in ty c)) (bits_in (ty.type_at k)))
form_weight ty k (s.assign op a b) = assigned_weight ty (assigned_operator op) a b

-- ---- kept objects

-- a read of a kept object by its name, and a store to one
abbrev pub read_weight : Typing → ℕ → Use → Target → ℕ
read_weight ty k read (in_register i) = 0
read_weight ty k read (in_kept q) = 32 * bits_in (ty.type_at k)
read_weight ty k read (in_object o) = 0
read_weight ty k read unnamed = 0
read_weight ty k accessed target = 0
read_weight ty k taken target = 0

-- a store: by name to a kept object 16 a bit; one that isn't by name 16 for each kept object
abbrev pub store_weight : ℕ → ℕ → Target → ℕ
store_weight kept w (in_register i) = 0
store_weight kept w (in_kept q) = 16 * w
store_weight kept w (in_object o) = 0
store_weight kept w unnamed = 16 * kept

-- ---- what is evaluated

-- a comparison that has a replacement
abbrev pub replaced_weight : Option Replaced → ℕ
replaced_weight None = 0
replaced_weight (Some found) = 2048

abbrev pub comparison_weight : Operation → Option Replaced → ℕ
comparison_weight (in_kind op k) found = 0
comparison_weight (shift_in op k) found = 0
comparison_weight (compare_in op k) found = replaced_weight found
comparison_weight (move minus size) found = 0
comparison_weight (move_behind size) found = 0
comparison_weight (measure size) found = 0

abbrev pub compared_weight : Typing → BinarySort → ExprTree → ExprTree → ℕ
compared_weight ty (operates op) a b = comparison_weight (operation_of ty op (type_in ty a) (type_in ty b)) (replacement ty a b)
compared_weight ty joins a b = 0
compared_weight ty or_else a b = 0
compared_weight ty and_also a b = 0

-- a call of the library
abbrev pub library_weight : Option Library → ℕ
library_weight None = 0
library_weight (Some (absolute_in k)) = 48 * width_of k
library_weight (Some copy_bytes) = 4096

-- what a form adds only where it is evaluated: for the kept objects, for a call of the library and for a replacement
abbrev pub evaluated_weight : Setting → ℕ → Role → ExprFormTree → ℕ
evaluated_weight g k role (s.name at) = read_weight g.typing k role.use_of (form_target g k (s.name at))
evaluated_weight g k role (s.number at) = 0
evaluated_weight g k role (s.character at) = 0
evaluated_weight g k role (s.text parts) = 0
evaluated_weight g k role (s.paren e) = 0
evaluated_weight g k role (s.index a b) = 0
evaluated_weight g k role (s.call e es) = 16 * length g.kept + library_weight (called_library g.typing e)
evaluated_weight g k role (s.dot e at) = 0
evaluated_weight g k role (s.arrow e at) = 0
evaluated_weight g k role (s.step op e) = store_weight (length g.kept) (bits_in (type_in g.typing e)) (target_of g e)
evaluated_weight g k role (s.unary op e) = 0
evaluated_weight g k role (s.size_expression e) = 0
evaluated_weight g k role (s.size_name t) = 0
evaluated_weight g k role (s.cast t e) = 0
evaluated_weight g k role (s.binary op a b) = compared_weight g.typing (sort_of op) a b
evaluated_weight g k role (s.choice a b c) = 0
evaluated_weight g k role (s.assign op a b) = store_weight (length g.kept) (bits_in (type_in g.typing a)) (target_of g a)

-- ---- declarators and statements

-- an initialiser: of a scalar 32 a bit of the object and of the expression, and the store to a kept object; of an array
-- or a struct 16 for each kept object
abbrev pub scalar_weight : Typing → TypeTree → InitTree → ℕ
scalar_weight ty t (s.plain e) = 32 * max (bits_in t) (bits_in (type_in ty e))
scalar_weight ty t (s.braces items comma) = 32 * bits_in t

abbrev pub initial_weight : Setting → ℕ → TypeTree → MaybeInitTree → ℕ
initial_weight g k t s.no_initialiser = 0
initial_weight g k t (s.some_initialiser x) =
    if is_scalar t then scalar_weight g.typing t x + store_weight (length g.kept) (bits_in t) (target_at g k) else 16 * length g.kept

-- the registers that are assigned anywhere in a statement
abbrev pub form_assigns : Setting → ExprFormTree → List Target
form_assigns g (s.name at) = []
form_assigns g (s.number at) = []
form_assigns g (s.character at) = []
form_assigns g (s.text parts) = []
form_assigns g (s.paren e) = []
form_assigns g (s.index a b) = []
form_assigns g (s.call e es) = []
form_assigns g (s.dot e at) = []
form_assigns g (s.arrow e at) = []
form_assigns g (s.step op e) = target_of g e ∷ []
form_assigns g (s.unary op e) = []
form_assigns g (s.size_expression e) = []
form_assigns g (s.size_name t) = []
form_assigns g (s.cast t e) = []
form_assigns g (s.binary op a b) = []
form_assigns g (s.choice a b c) = []
form_assigns g (s.assign op a b) = target_of g a ∷ []

abbrev pub visit_assigns : Setting → Visit → List Target
visit_assigns g (at_expression k role f) = form_assigns g f
visit_assigns g (at_declarator k static at init) = []
visit_assigns g (at_statement k arm f) = []
visit_assigns g (at_section k ls) = []

abbrev pub is_register_target : ℕ → Target → Bool
is_register_target k (in_register i) = k == i
is_register_target k (in_kept q) = false
is_register_target k (in_object o) = false
is_register_target k unnamed = false

abbrev pub assigned_under : Setting → StmtFormTree → ℕ
assigned_under g f =
    let targets = collected (visit_assigns g) (statement_form_visits g.typing f) in
    length (filter (λ k. list_any (is_register_target k) targets) g.registers)

-- a test
abbrev pub test_weight : Typing → MaybeExprTree → ℕ
test_weight ty s.no_expression = 0
test_weight ty (s.some_expression e) = 32 * bits_in (type_in ty e)

-- a statement: `if`, `switch` and loops 256 for each register assigned in them, and their tests; a loop 16 for each
-- kept object
abbrev pub branch_weight : Setting → StmtFormTree → MaybeExprTree → ℕ
branch_weight g f test = 256 * assigned_under g f + test_weight g.typing test

abbrev pub statement_weight : Setting → StmtFormTree → ℕ
statement_weight g (s.block ps) = 0
statement_weight g (s.expression_statement e) = 0
statement_weight g (s.if_statement e x y) = branch_weight g (s.if_statement e x y) (s.some_expression e)
statement_weight g (s.switch_statement e ss) = branch_weight g (s.switch_statement e ss) s.no_expression
statement_weight g (s.while_statement e x) = branch_weight g (s.while_statement e x) (s.some_expression e) + 16 * length g.kept
statement_weight g (s.do_statement x e) = branch_weight g (s.do_statement x e) (s.some_expression e) + 16 * length g.kept
statement_weight g (s.for_statement first test step x) = branch_weight g (s.for_statement first test step x) test + 16 * length g.kept
statement_weight g s.break_statement = 0
statement_weight g s.continue_statement = 0
statement_weight g (s.return_statement e) = 0

-- the case labels of a section
abbrev pub label_weight : LabelTree → ℕ
label_weight s.default_label = 0
label_weight (s.case_label e) = 1024

abbrev pub labels_weight : LabelTrees → ℕ
labels_weight s.no_labels = 0
labels_weight (s.then_label l ls) = label_weight l + labels_weight ls

-- what a visit adds to its node
abbrev pub visit_weight : Setting → Bool → Visit → ℕ
visit_weight g evaluated (at_expression k role f) = form_weight g.typing k f + (if evaluated then evaluated_weight g k role f else 0)
visit_weight g evaluated (at_declarator k static at init) = if static then 0 else initial_weight g k (g.typing.type_at k) init
visit_weight g evaluated (at_statement k arm f) = statement_weight g f
visit_weight g evaluated (at_section k ls) = labels_weight ls

abbrev pub visits_weight : Setting → Bool → Visits → ℕ
visits_weight g evaluated no_visit = 0
visits_weight g evaluated (one_visit x) = visit_weight g evaluated x
visits_weight g evaluated (both_visits a b) = visits_weight g evaluated a + visits_weight g evaluated b
visits_weight g evaluated (scope ks a) = visits_weight g evaluated a
visits_weight g evaluated (unevaluated a) = visits_weight g false a

-- ---- objects and pairs of them

-- the pairs of a kept object and another object that has a name and a scalar or struct type, each counted once
abbrev pub is_pair : List ℕ → Object → Object → Bool
is_pair kept o p = (is_among o.node kept && p.is_plain) || (is_among p.node kept && o.is_plain)

abbrev pub pairs_among : List ℕ → List Object → ℕ
pairs_among kept [] = 0
pairs_among kept (o ∷ os) = length (filter (is_pair kept o) os) + pairs_among kept os

-- the weight of a function: 128 a node, the node of its unit included
abbrev pub weight : Typing → Kinds → FunctionTree → ℕ
weight ty without f =
    let g = setting_of ty without f in
    let objects = objects_of ty without f in
    128 * (function_nodes f + 1) + visits_weight g true (function_visits ty f) + 2048 * length objects + 2048 * pairs_among g.kept objects

-- the greatest weight of a function whose findings are searched for
abbrev pub most_weight : ℕ
most_weight = 8000000
