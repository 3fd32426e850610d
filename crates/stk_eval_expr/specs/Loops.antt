-- What is said of each loop of a statement, by its node and its form (C11 6.8.5).
use Rattle.std.specs.Prelude.{ℕ}
use Rattle.stk_tree.specs.Syntax.{StmtTree, StmtTrees, MaybeStmtTree, StmtFormTree, PartTree, PartTrees, SectionTree, SectionTrees}
use Rattle.stk_tree.specs.Syntax as s

abbrev mutual
  pub EachLoop : (ℕ → StmtFormTree → Type 0) → StmtTree → Type 0
  EachLoop P (s.statement n f) = EachLoopOfForm P n.number f

  -- a statement of a form, at a node
  pub EachLoopOfForm : (ℕ → StmtFormTree → Type 0) → ℕ → StmtFormTree → Type 0
  EachLoopOfForm P k (s.block ps) = EachLoopOfParts P ps
  EachLoopOfForm P k (s.expression_statement e) = Unit {0}
  EachLoopOfForm P k (s.if_statement e x y) = EachLoop P x × EachLoopOfOther P y
  EachLoopOfForm P k (s.switch_statement e ss) = EachLoopOfSections P ss
  EachLoopOfForm P k (s.while_statement e x) = P k (s.while_statement e x) × EachLoop P x
  EachLoopOfForm P k (s.do_statement x e) = P k (s.do_statement x e) × EachLoop P x
  EachLoopOfForm P k (s.for_statement first test step x) = P k (s.for_statement first test step x) × EachLoop P x
  EachLoopOfForm P k s.break_statement = Unit {0}
  EachLoopOfForm P k s.continue_statement = Unit {0}
  EachLoopOfForm P k (s.return_statement e) = Unit {0}

  -- a statement that may be missing
  pub EachLoopOfOther : (ℕ → StmtFormTree → Type 0) → MaybeStmtTree → Type 0
  EachLoopOfOther P s.no_statement = Unit {0}
  EachLoopOfOther P (s.some_statement x) = EachLoop P x

  pub EachLoopOfStatements : (ℕ → StmtFormTree → Type 0) → StmtTrees → Type 0
  EachLoopOfStatements P s.no_statements = Unit {0}
  EachLoopOfStatements P (s.then_statement x xs) = EachLoop P x × EachLoopOfStatements P xs

  pub EachLoopOfParts : (ℕ → StmtFormTree → Type 0) → PartTrees → Type 0
  EachLoopOfParts P s.no_parts = Unit {0}
  EachLoopOfParts P (s.then_part p ps) = EachLoopOfPart P p × EachLoopOfParts P ps

  pub EachLoopOfPart : (ℕ → StmtFormTree → Type 0) → PartTree → Type 0
  EachLoopOfPart P (s.local d) = Unit {0}
  EachLoopOfPart P (s.run x) = EachLoop P x

  pub EachLoopOfSections : (ℕ → StmtFormTree → Type 0) → SectionTrees → Type 0
  EachLoopOfSections P s.no_sections = Unit {0}
  EachLoopOfSections P (s.then_section x xs) = EachLoopOfSection P x × EachLoopOfSections P xs

  pub EachLoopOfSection : (ℕ → StmtFormTree → Type 0) → SectionTree → Type 0
  EachLoopOfSection P (s.section n ls body) = EachLoopOfStatements P body
