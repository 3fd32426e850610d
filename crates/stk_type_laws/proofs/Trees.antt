-- Where each evaluated node of a function has its kind, the function is kinded.
use Rattle.std.proofs.Common.{ℕ, Bool, true, false}
use Rattle.stk_tree.specs.Syntax.{ExprTree, ExprTrees, MaybeExprTree, ExprFormTree, InitTree, MaybeInitTree, ItemTree, ItemTrees, DeclrTree, DeclrTrees, DeclarationTree, StartTree, StmtTree, StmtTrees, MaybeStmtTree, StmtFormTree, PartTree, PartTrees, SectionTree, SectionTrees, FunctionTree}
use Rattle.stk_tree.specs.Syntax as s
use Rattle.stk_tree.specs.Parts.{is_static}
use Rattle.stk_meaning.specs.Typings.{type_in}
use Rattle.stk_meaning.specs.Places.{Setting}
use Rattle.stk_meaning.specs.Visits.{Role, Visit, at_expression, at_declarator, at_statement, at_section, reading, as_test, as_arm, inner_role, inside, indexed_role, unary_role, left_role, right_role, assigned_role}
use Rattle.stk_meaning.specs.Visits.{expression_visits, form_visits, arguments_visits, maybe_visits, initialiser_visits, items_visits, item_visits, initial_visits, declarator_visits, declarators_visits, declaration_visits, start_visits, statement_visits, statement_form_visits, maybe_statement_visits, statements_visits, parts_visits, part_visits, sections_visits, section_visits}
use Rattle.stk_meaning.specs.Keys.{function_visits}
use Rattle.stk_run_laws.specs.Visits.{EachVisit}
use Rattle.stk_kinded.specs.Kinded.{HasKind, Kinded, KindedParts, KindedAll}
use Rattle.stk_kinded.specs.KindedStatements.{KindedMaybe, KindedInitialiser, KindedItems, KindedItem, KindedInitial, KindedDeclarator, KindedDeclarators, KindedDeclaration, KindedStart, KindedStatement, KindedStatementForm, KindedOther, KindedStatements, KindedBlock, KindedPart, KindedSections, KindedSection, KindedFunction}
use Rattle.stk_type_laws.proofs.NodeKinds.{target_suits}

-- a node has its kind
abbrev pub VisitHasKind : Setting → Visit → Type 0
VisitHasKind g (at_expression k role f) = HasKind g k f
VisitHasKind g (at_declarator k static at init) = Unit {0}
VisitHasKind g (at_statement k arm f) = Unit {0}
VisitHasKind g (at_section k ls) = Unit {0}

mutual
  expression_kinded : (g : Setting) (role : Role) (e : ExprTree) → EachVisit (VisitHasKind g) (expression_visits g.typing role e) → Kinded g e
  expression_kinded g role (s.expression n f) h = (h.1, form_kinded g n.number role f h.0)

  form_kinded : (g : Setting) (k : ℕ) (role : Role) (f : ExprFormTree) → EachVisit (VisitHasKind g) (form_visits g.typing k role f) → KindedParts g f
  form_kinded g k role (s.name at) h = tt
  form_kinded g k role (s.number at) h = tt
  form_kinded g k role (s.character at) h = tt
  form_kinded g k role (s.text parts) h = tt
  form_kinded g k role (s.paren e) h = expression_kinded g (inside role) e h
  form_kinded g k role (s.index a b) h = (expression_kinded g (indexed_role (g.typing.type_at k) (type_in g.typing a) role.use_of) a h.0, expression_kinded g reading b h.1)
  form_kinded g k role (s.call e es) h = arguments_kinded g es h
  form_kinded g k role (s.dot e at) h = expression_kinded g (inner_role (g.typing.type_at k) role.use_of) e h
  form_kinded g k role (s.arrow e at) h = expression_kinded g reading e h
  form_kinded g k role (s.step op e) h = expression_kinded g reading e h
  form_kinded g k role (s.unary op e) h = expression_kinded g (unary_role op) e h
  form_kinded g k role (s.size_expression e) h = tt
  form_kinded g k role (s.size_name t) h = tt
  form_kinded g k role (s.cast t e) h = expression_kinded g reading e h.1
  form_kinded g k role (s.binary op a b) h = (expression_kinded g (left_role op) a h.0, expression_kinded g (right_role op) b h.1)
  form_kinded g k role (s.choice a b c) h = (expression_kinded g as_test a h.0, expression_kinded g as_arm b h.1.0, expression_kinded g as_arm c h.1.1)
  form_kinded g k role (s.assign op a b) h = (expression_kinded g (assigned_role op) a h.0, expression_kinded g reading b h.1)

  arguments_kinded : (g : Setting) (es : ExprTrees) → EachVisit (VisitHasKind g) (arguments_visits g.typing es) → KindedAll g es
  arguments_kinded g s.no_expressions h = tt
  arguments_kinded g (s.then_expression e es) h = (expression_kinded g reading e h.0, arguments_kinded g es h.1)

maybe_kinded : (g : Setting) (role : Role) (e : MaybeExprTree) → EachVisit (VisitHasKind g) (maybe_visits g.typing role e) → KindedMaybe g e
maybe_kinded g role s.no_expression h = tt
maybe_kinded g role (s.some_expression e) h = expression_kinded g role e h

mutual
  initialiser_kinded : (g : Setting) (x : InitTree) → EachVisit (VisitHasKind g) (initialiser_visits g.typing x) → KindedInitialiser g x
  initialiser_kinded g (s.plain e) h = expression_kinded g reading e h
  initialiser_kinded g (s.braces items comma) h = items_kinded g items h

  items_kinded : (g : Setting) (xs : ItemTrees) → EachVisit (VisitHasKind g) (items_visits g.typing xs) → KindedItems g xs
  items_kinded g s.no_items h = tt
  items_kinded g (s.then_item x xs) h = (item_kinded g x h.0, items_kinded g xs h.1)

  item_kinded : (g : Setting) (x : ItemTree) → EachVisit (VisitHasKind g) (item_visits g.typing x) → KindedItem g x
  item_kinded g (s.item path x) h = initialiser_kinded g x h.1

initial_kinded : (g : Setting) (init : MaybeInitTree) → EachVisit (VisitHasKind g) (initial_visits g.typing false init) → KindedInitial g init
initial_kinded g s.no_initialiser h = tt
initial_kinded g (s.some_initialiser x) h = initialiser_kinded g x h

declarator_kinded : (g : Setting) (static : Bool) (d : DeclrTree) → EachVisit (VisitHasKind g) (declarator_visits g.typing static d) → KindedDeclarator g static d
declarator_kinded g true d h = tt
declarator_kinded g false (s.declarator n count at tail init) h = (target_suits g n.number, initial_kinded g init h.1.0)

declarators_kinded : (g : Setting) (static : Bool) (ds : DeclrTrees) → EachVisit (VisitHasKind g) (declarators_visits g.typing static ds) → KindedDeclarators g static ds
declarators_kinded g static s.no_declarators h = tt
declarators_kinded g static (s.then_declarator d ds) h = (declarator_kinded g static d h.0, declarators_kinded g static ds h.1)

declaration_kinded : (g : Setting) (d : DeclarationTree) → EachVisit (VisitHasKind g) (declaration_visits g.typing d) → KindedDeclaration g d
declaration_kinded g (s.declaration word specifiers ds) h = declarators_kinded g (is_static word) ds h

start_kinded : (g : Setting) (x : StartTree) → EachVisit (VisitHasKind g) (start_visits g.typing x) → KindedStart g x
start_kinded g (s.start_declaration d) h = declaration_kinded g d h
start_kinded g (s.start_expression e) h = maybe_kinded g reading e h

mutual
  statement_kinded : (g : Setting) (arm : Bool) (x : StmtTree) → EachVisit (VisitHasKind g) (statement_visits g.typing arm x) → KindedStatement g x
  statement_kinded g arm (s.statement n f) h = statement_form_kinded g f h.0

  statement_form_kinded : (g : Setting) (f : StmtFormTree) → EachVisit (VisitHasKind g) (statement_form_visits g.typing f) → KindedStatementForm g f
  statement_form_kinded g (s.block ps) h = parts_kinded g ps h
  statement_form_kinded g (s.expression_statement e) h = maybe_kinded g reading e h
  statement_form_kinded g (s.if_statement e x y) h = (expression_kinded g as_test e h.0, statement_kinded g true x h.1.0, other_kinded g y h.1.1)
  statement_form_kinded g (s.switch_statement e ss) h = (expression_kinded g reading e h.0, sections_kinded g ss h.1)
  statement_form_kinded g (s.while_statement e x) h = (expression_kinded g as_test e h.0, statement_kinded g true x h.1)
  statement_form_kinded g (s.do_statement x e) h = (statement_kinded g true x h.0, expression_kinded g as_test e h.1)
  statement_form_kinded g (s.for_statement first test step x) h = (start_kinded g first h.0, maybe_kinded g as_test test h.1.0, maybe_kinded g reading step h.1.1.0, statement_kinded g true x h.1.1.1)
  statement_form_kinded g s.break_statement h = tt
  statement_form_kinded g s.continue_statement h = tt
  statement_form_kinded g (s.return_statement e) h = maybe_kinded g reading e h

  other_kinded : (g : Setting) (x : MaybeStmtTree) → EachVisit (VisitHasKind g) (maybe_statement_visits g.typing x) → KindedOther g x
  other_kinded g s.no_statement h = tt
  other_kinded g (s.some_statement x) h = statement_kinded g true x h

  statements_kinded : (g : Setting) (xs : StmtTrees) → EachVisit (VisitHasKind g) (statements_visits g.typing xs) → KindedStatements g xs
  statements_kinded g s.no_statements h = tt
  statements_kinded g (s.then_statement x xs) h = (statement_kinded g false x h.0, statements_kinded g xs h.1)

  parts_kinded : (g : Setting) (ps : PartTrees) → EachVisit (VisitHasKind g) (parts_visits g.typing ps) → KindedBlock g ps
  parts_kinded g s.no_parts h = tt
  parts_kinded g (s.then_part p ps) h = (part_kinded g p h.0, parts_kinded g ps h.1)

  part_kinded : (g : Setting) (p : PartTree) → EachVisit (VisitHasKind g) (part_visits g.typing p) → KindedPart g p
  part_kinded g (s.local d) h = declaration_kinded g d h
  part_kinded g (s.run x) h = statement_kinded g false x h

  sections_kinded : (g : Setting) (ss : SectionTrees) → EachVisit (VisitHasKind g) (sections_visits g.typing ss) → KindedSections g ss
  sections_kinded g s.no_sections h = tt
  sections_kinded g (s.then_section x xs) h = (section_kinded g x h.0, sections_kinded g xs h.1)

  section_kinded : (g : Setting) (x : SectionTree) → EachVisit (VisitHasKind g) (section_visits g.typing x) → KindedSection g x
  section_kinded g (s.section n ls body) h = statements_kinded g body h.1.0

pub function_kinded : (g : Setting) (f : FunctionTree) → EachVisit (VisitHasKind g) (function_visits g.typing f) → KindedFunction g f
function_kinded g (s.function word specifiers d body) h = statement_kinded g false body h.1
