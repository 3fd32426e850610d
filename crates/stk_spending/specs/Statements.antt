-- What the walk of a statement may cost at most: what its parts cost, and the charges of its own steps. A guard with a
-- test is 3, and a guard behind two others is 3.
use Rattle.std.specs.Prelude.{ℕ, ◌+◌, ◌*◌, Bool, true, false, length, if◌then◌else◌}
use Rattle.stk_ctype.specs.declared.kind.IntKind.{IntKind}
use Rattle.stk_tree.specs.Syntax.{ExprTree, MaybeExprTree, InitTree, MaybeInitTree, ItemTree, ItemTrees, DeclrTree, DeclrTrees, DeclarationTree, StartTree, LabelTree, LabelTrees, StmtTree, StmtTrees, MaybeStmtTree, StmtFormTree, PartTree, PartTrees, SectionTree, SectionTrees}
use Rattle.stk_tree.specs.Syntax as s
use Rattle.stk_tree.specs.Parts.{is_static}
use Rattle.stk_numbers.specs.Kinds.{width_of, promote}
use Rattle.stk_type_rules.specs.Types.{is_scalar}
use Rattle.stk_meaning.specs.Places.{Setting, Target, in_register, in_kept, in_object, unnamed, target_at}
use Rattle.stk_meaning.specs.Changes.{assigned_in}
use Rattle.stk_values.specs.Charges.{convert_charge}
use Rattle.stk_spending.specs.Expressions.{spent_value, spent_test, maybe_spent, kind_in, kind_at}

-- ---- declarations

-- the expressions of an initialiser
abbrev mutual
  pub initialiser_spent : Setting → InitTree → ℕ
  initialiser_spent g (s.plain e) = spent_value g e
  initialiser_spent g (s.braces items comma) = items_spent g items

  pub items_spent : Setting → ItemTrees → ℕ
  items_spent g s.no_items = 0
  items_spent g (s.then_item x xs) = item_spent g x + items_spent g xs

  pub item_spent : Setting → ItemTree → ℕ
  item_spent g (s.item path x) = initialiser_spent g x

-- the object of a declarator without initialiser: a kept one is forgotten
abbrev pub bare_spent : Target → ℕ
bare_spent (in_register i) = 0
bare_spent (in_kept q) = 3
bare_spent (in_object o) = 0
bare_spent unnamed = 0

-- the object of a declarator gets a number: a register without a guard; a kept object, and what isn't by name, as in a
-- store
abbrev pub begun_charge : ℕ → Target → IntKind → ℕ
begun_charge kept (in_register i) k = 0
begun_charge kept (in_kept q) k = 3 * width_of k + 3
begun_charge kept (in_object o) k = 0
begun_charge kept unnamed k = 3 * kept

abbrev pub begun_spent : Setting → ℕ → ℕ
begun_spent g k = begun_charge (length g.kept) (target_at g k) (kind_at g.typing k)

-- a declarator of an automatic object
abbrev pub initial_spent : Setting → ℕ → MaybeInitTree → ℕ
initial_spent g k s.no_initialiser = bare_spent (target_at g k)
initial_spent g k (s.some_initialiser (s.plain e)) =
    spent_value g e + convert_charge (kind_in g.typing e) (kind_at g.typing k) + (if is_scalar (g.typing.type_at k) then begun_spent g k else 3 * length g.kept)
initial_spent g k (s.some_initialiser (s.braces items comma)) = items_spent g items + 3 * length g.kept

-- a declarator: nothing of a `static` one is evaluated
abbrev pub declarator_spent : Setting → Bool → DeclrTree → ℕ
declarator_spent g true d = 0
declarator_spent g false (s.declarator n count at tail init) = initial_spent g n.number init

abbrev pub declarators_spent : Setting → Bool → DeclrTrees → ℕ
declarators_spent g static s.no_declarators = 0
declarators_spent g static (s.then_declarator d ds) = declarator_spent g static d + declarators_spent g static ds

abbrev pub declaration_spent : Setting → DeclarationTree → ℕ
declaration_spent g (s.declaration word specifiers ds) = declarators_spent g (is_static word) ds

-- the first part of a `for`
abbrev pub start_spent : Setting → StartTree → ℕ
start_spent g (s.start_declaration d) = declaration_spent g d
start_spent g (s.start_expression e) = maybe_spent g e

-- ---- labels and loops

-- the labels of a section of a `switch` on a kind: a comparison with the constant, and one guard more
abbrev pub label_spent : LabelTree → ℕ → ℕ
label_spent s.default_label w = 0
label_spent (s.case_label e) w = 10 * w + 3

abbrev pub labels_spent : LabelTrees → ℕ → ℕ
labels_spent s.no_labels w = 0
labels_spent (s.then_label l ls) w = label_spent l w + labels_spent ls w

-- the test of a section of a `switch` on a number of a width: that of its labels, and its two guards; and those of all
abbrev pub case_spent : SectionTree → ℕ → ℕ
case_spent (s.section n ls body) w = labels_spent ls w + 6

abbrev pub cases_spent : SectionTrees → ℕ → ℕ
cases_spent s.no_sections w = 0
cases_spent (s.then_section x xs) w = case_spent x w + cases_spent xs w

-- where a loop begins: each register that it sets is chosen in at most 64 bits, and each kept object may be forgotten
abbrev pub loop_spent : Setting → StmtFormTree → ℕ
loop_spent g f = 192 * length (assigned_in g f) + 3 * length g.kept

-- a controlling expression of a loop, with two guards before the turn and one behind it; a missing test counts as true
abbrev pub loop_test_spent : Setting → MaybeExprTree → ℕ
loop_test_spent g s.no_expression = 0
loop_test_spent g (s.some_expression e) = spent_test g e + 9

-- ---- statements

abbrev mutual
  pub statement_spent : Setting → StmtTree → ℕ
  statement_spent g (s.statement n f) = statement_form_spent g f

  pub statement_form_spent : Setting → StmtFormTree → ℕ
  statement_form_spent g (s.block ps) = parts_spent g ps
  statement_form_spent g (s.expression_statement e) = maybe_spent g e
  statement_form_spent g (s.if_statement e x y) = spent_test g e + 6 + statement_spent g x + other_spent g y + 3
  statement_form_spent g (s.switch_statement e ss) =
      spent_value g e + convert_charge (kind_in g.typing e) (promote (kind_in g.typing e)) + (cases_spent ss (width_of (promote (kind_in g.typing e))) + 3) + sections_spent g ss + 6
  statement_form_spent g (s.while_statement e x) = loop_spent g (s.while_statement e x) + loop_test_spent g (s.some_expression e) + statement_spent g x + 3
  statement_form_spent g (s.do_statement x e) = loop_spent g (s.do_statement x e) + statement_spent g x + 3 + spent_test g e + 6
  statement_form_spent g (s.for_statement first test step x) =
      start_spent g first + loop_spent g (s.for_statement first test step x) + loop_test_spent g test + statement_spent g x + 3 + maybe_spent g step
  statement_form_spent g s.break_statement = 3
  statement_form_spent g s.continue_statement = 3
  statement_form_spent g (s.return_statement e) = maybe_spent g e

  -- a statement that may be missing
  pub other_spent : Setting → MaybeStmtTree → ℕ
  other_spent g s.no_statement = 0
  other_spent g (s.some_statement x) = statement_spent g x

  pub statements_spent : Setting → StmtTrees → ℕ
  statements_spent g s.no_statements = 0
  statements_spent g (s.then_statement x xs) = statement_spent g x + statements_spent g xs

  pub parts_spent : Setting → PartTrees → ℕ
  parts_spent g s.no_parts = 0
  parts_spent g (s.then_part p ps) = part_spent g p + parts_spent g ps

  pub part_spent : Setting → PartTree → ℕ
  part_spent g (s.local d) = declaration_spent g d
  part_spent g (s.run x) = statement_spent g x

  -- the sections of a `switch`, each with a guard more
  pub sections_spent : Setting → SectionTrees → ℕ
  sections_spent g s.no_sections = 0
  sections_spent g (s.then_section x xs) = 3 + section_spent g x + sections_spent g xs

  pub section_spent : Setting → SectionTree → ℕ
  section_spent g (s.section n ls body) = statements_spent g body
