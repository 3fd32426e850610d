-- The events of the steps of a statement, whatever their tests are, in the order in which it is walked: both branches
-- of an `if`, the one turn of a loop and each section of a `switch` have theirs, one after the other.
use Rattle.std.specs.Prelude.{Bool, List, [], ◌∷◌, ◌++◌, if◌then◌else◌}
use Rattle.stk_tree.specs.Syntax.{MaybeExprTree, InitTree, MaybeInitTree, ItemTree, ItemTrees, DeclrTree, DeclrTrees, DeclarationTree, StartTree, StmtTree, StmtTrees, MaybeStmtTree, StmtFormTree, PartTree, PartTrees, SectionTree, SectionTrees}
use Rattle.stk_tree.specs.Syntax as s
use Rattle.stk_tree.specs.Parts.{is_static}
use Rattle.stk_numbers.specs.declared.conditions.CandKind.TheVariants.{Arm}
use Rattle.stk_meaning.specs.Typings.{statement_node}
use Rattle.stk_meaning.specs.Places.{Setting}
use Rattle.stk_walking.specs.declared.state.Event.{Event}
use Rattle.stk_walking.specs.Events.{hit}
use Rattle.stk_walking.specs.ExpressionEvents.{value_events, tested_events}

-- an expression whose value isn't used, and a test, each of which may be missing
abbrev pub discarded_events : Setting → MaybeExprTree → List Event
discarded_events g s.no_expression = []
discarded_events g (s.some_expression e) = value_events g e

abbrev pub maybe_tested_events : Setting → MaybeExprTree → List Event
maybe_tested_events g s.no_expression = []
maybe_tested_events g (s.some_expression e) = tested_events g e

-- initialisers: the expressions of their items in order
abbrev mutual
  pub items_events : Setting → ItemTrees → List Event
  items_events g s.no_items = []
  items_events g (s.then_item x xs) = item_events g x ++ items_events g xs

  pub item_events : Setting → ItemTree → List Event
  item_events g (s.item path x) = initialiser_events g x

  pub initialiser_events : Setting → InitTree → List Event
  initialiser_events g (s.plain e) = value_events g e
  initialiser_events g (s.braces items comma) = items_events g items

abbrev pub initial_events : Setting → MaybeInitTree → List Event
initial_events g s.no_initialiser = []
initial_events g (s.some_initialiser x) = initialiser_events g x

-- declarators: nothing of a `static` object is evaluated
abbrev pub declarator_events : Setting → Bool → DeclrTree → List Event
declarator_events g static (s.declarator n count at tail init) = if static then [] else initial_events g init

abbrev pub declarators_events : Setting → Bool → DeclrTrees → List Event
declarators_events g static s.no_declarators = []
declarators_events g static (s.then_declarator d ds) = declarator_events g static d ++ declarators_events g static ds

-- a declaration of a block
abbrev pub declaration_events : Setting → DeclarationTree → List Event
declaration_events g (s.declaration word specifiers ds) = declarators_events g (is_static word) ds

-- the first part of a `for`
abbrev pub start_events : Setting → StartTree → List Event
start_events g (s.start_declaration d) = declaration_events g d
start_events g (s.start_expression e) = discarded_events g e

abbrev mutual
  -- a statement
  pub statement_events : Setting → StmtTree → List Event
  statement_events g (s.statement n f) = statement_form_events g f

  -- a statement of a form; the branches of an `if` and the bodies of loops are entered
  pub statement_form_events : Setting → StmtFormTree → List Event
  statement_form_events g (s.block ps) = parts_events g ps
  statement_form_events g (s.expression_statement e) = discarded_events g e
  statement_form_events g (s.if_statement e x y) = tested_events g e ++ ((hit (statement_node x) Arm ∷ statement_events g x) ++ otherwise_events g y)
  statement_form_events g (s.switch_statement e ss) = value_events g e ++ sections_events g ss
  statement_form_events g (s.while_statement e x) = tested_events g e ++ (hit (statement_node x) Arm ∷ statement_events g x)
  statement_form_events g (s.do_statement x e) = (hit (statement_node x) Arm ∷ statement_events g x) ++ tested_events g e
  statement_form_events g (s.for_statement first test step x) = start_events g first ++ (maybe_tested_events g test ++ ((hit (statement_node x) Arm ∷ statement_events g x) ++ discarded_events g step))
  statement_form_events g s.break_statement = []
  statement_form_events g s.continue_statement = []
  statement_form_events g (s.return_statement e) = discarded_events g e

  -- the second branch of an `if`, which may be missing
  pub otherwise_events : Setting → MaybeStmtTree → List Event
  otherwise_events g s.no_statement = []
  otherwise_events g (s.some_statement x) = (hit (statement_node x) Arm ∷ statement_events g x)

  pub statements_events : Setting → StmtTrees → List Event
  statements_events g s.no_statements = []
  statements_events g (s.then_statement x xs) = statement_events g x ++ statements_events g xs

  -- the parts of a block in order
  pub parts_events : Setting → PartTrees → List Event
  parts_events g s.no_parts = []
  parts_events g (s.then_part p ps) = part_events g p ++ parts_events g ps

  pub part_events : Setting → PartTree → List Event
  part_events g (s.local d) = declaration_events g d
  part_events g (s.run x) = statement_events g x

  -- the sections of a `switch`, each of which is entered
  pub sections_events : Setting → SectionTrees → List Event
  sections_events g s.no_sections = []
  sections_events g (s.then_section x xs) = section_events g x ++ sections_events g xs

  pub section_events : Setting → SectionTree → List Event
  section_events g (s.section n ls body) = hit n.number Arm ∷ statements_events g body

-- a statement that is entered as a branch
abbrev pub branch_events : Setting → StmtTree → List Event
branch_events g x = hit (statement_node x) Arm ∷ statement_events g x
