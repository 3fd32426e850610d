-- What a walk asks of the types of statements and of a function: each expression that is evaluated is kinded, and each
-- local object that is a register or kept has the kind of its declarator (C11 6.7.9, 6.8).
use Rattle.std.specs.Prelude.{Bool, true, false}
use Rattle.stk_tree.specs.Syntax.{MaybeExprTree, InitTree, MaybeInitTree, ItemTree, ItemTrees, DeclrTree, DeclrTrees, DeclarationTree, StartTree, StmtTree, StmtTrees, MaybeStmtTree, StmtFormTree, PartTree, PartTrees, SectionTree, SectionTrees, FunctionTree}
use Rattle.stk_tree.specs.Syntax as s
use Rattle.stk_tree.specs.Parts.{is_static}
use Rattle.stk_meaning.specs.Typings.{number_kind}
use Rattle.stk_meaning.specs.Places.{Setting, target_at}
use Rattle.stk_meaning.specs.Keys.{body_of}
use Rattle.stk_kinded.specs.Kinds.{Suits}
use Rattle.stk_kinded.specs.Kinded.{Kinded}

-- an expression that may be missing
abbrev pub KindedMaybe : Setting → MaybeExprTree → Type 0
KindedMaybe g s.no_expression = Unit {0}
KindedMaybe g (s.some_expression e) = Kinded g e

-- initialisers: the expressions of their items
abbrev mutual
  pub KindedInitialiser : Setting → InitTree → Type 0
  KindedInitialiser g (s.plain e) = Kinded g e
  KindedInitialiser g (s.braces items comma) = KindedItems g items

  -- items in braces
  pub KindedItems : Setting → ItemTrees → Type 0
  KindedItems g s.no_items = Unit {0}
  KindedItems g (s.then_item x xs) = KindedItem g x × KindedItems g xs

  -- an item: its designators aren't evaluated
  pub KindedItem : Setting → ItemTree → Type 0
  KindedItem g (s.item path x) = KindedInitialiser g x

-- an initialiser that may be missing
abbrev pub KindedInitial : Setting → MaybeInitTree → Type 0
KindedInitial g s.no_initialiser = Unit {0}
KindedInitial g (s.some_initialiser x) = KindedInitialiser g x

-- a declarator of a local object: nothing of a `static` one is evaluated
abbrev pub KindedDeclarator : Setting → Bool → DeclrTree → Type 0
KindedDeclarator g true d = Unit {0}
KindedDeclarator g false (s.declarator n count at tail init) = Suits g (target_at g n.number) (number_kind (g.typing.type_at n.number)) × KindedInitial g init

-- declarators in a row
abbrev pub KindedDeclarators : Setting → Bool → DeclrTrees → Type 0
KindedDeclarators g static s.no_declarators = Unit {0}
KindedDeclarators g static (s.then_declarator d ds) = KindedDeclarator g static d × KindedDeclarators g static ds

-- a declaration of a block
abbrev pub KindedDeclaration : Setting → DeclarationTree → Type 0
KindedDeclaration g (s.declaration word specifiers ds) = KindedDeclarators g (is_static word) ds

-- the first part of a `for`
abbrev pub KindedStart : Setting → StartTree → Type 0
KindedStart g (s.start_declaration d) = KindedDeclaration g d
KindedStart g (s.start_expression e) = KindedMaybe g e

-- statements: their expressions, declarations and statements; labels aren't evaluated
abbrev mutual
  pub KindedStatement : Setting → StmtTree → Type 0
  KindedStatement g (s.statement n f) = KindedStatementForm g f

  -- a statement of a form
  pub KindedStatementForm : Setting → StmtFormTree → Type 0
  KindedStatementForm g (s.block ps) = KindedBlock g ps
  KindedStatementForm g (s.expression_statement e) = KindedMaybe g e
  KindedStatementForm g (s.if_statement e x y) = Kinded g e × KindedStatement g x × KindedOther g y
  KindedStatementForm g (s.switch_statement e ss) = Kinded g e × KindedSections g ss
  KindedStatementForm g (s.while_statement e x) = Kinded g e × KindedStatement g x
  KindedStatementForm g (s.do_statement x e) = KindedStatement g x × Kinded g e
  KindedStatementForm g (s.for_statement first test step x) = KindedStart g first × KindedMaybe g test × KindedMaybe g step × KindedStatement g x
  KindedStatementForm g s.break_statement = Unit {0}
  KindedStatementForm g s.continue_statement = Unit {0}
  KindedStatementForm g (s.return_statement e) = KindedMaybe g e

  -- a statement that may be missing
  pub KindedOther : Setting → MaybeStmtTree → Type 0
  KindedOther g s.no_statement = Unit {0}
  KindedOther g (s.some_statement x) = KindedStatement g x

  -- statements in a row
  pub KindedStatements : Setting → StmtTrees → Type 0
  KindedStatements g s.no_statements = Unit {0}
  KindedStatements g (s.then_statement x xs) = KindedStatement g x × KindedStatements g xs

  -- the parts of a block
  pub KindedBlock : Setting → PartTrees → Type 0
  KindedBlock g s.no_parts = Unit {0}
  KindedBlock g (s.then_part p ps) = KindedPart g p × KindedBlock g ps

  -- a declaration or a statement of a block
  pub KindedPart : Setting → PartTree → Type 0
  KindedPart g (s.local d) = KindedDeclaration g d
  KindedPart g (s.run x) = KindedStatement g x

  -- the sections of a `switch`
  pub KindedSections : Setting → SectionTrees → Type 0
  KindedSections g s.no_sections = Unit {0}
  KindedSections g (s.then_section x xs) = KindedSection g x × KindedSections g xs

  -- the statements of a section
  pub KindedSection : Setting → SectionTree → Type 0
  KindedSection g (s.section n ls body) = KindedStatements g body

-- the body of a function
abbrev pub KindedFunction : Setting → FunctionTree → Type 0
KindedFunction g f = KindedStatement g (body_of f)
