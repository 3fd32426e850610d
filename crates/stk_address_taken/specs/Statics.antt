-- The declarators of a function's `static` objects, in order (C11 6.2.4p3).
use Rattle.std.specs.Prelude.{ℕ, Bool, true, false, List, [], ◌∷◌, ◌++◌}
use Rattle.stk_tree.specs.Syntax.{DeclrTree, DeclrTrees, DeclarationTree, StartTree, StmtTree, StmtTrees, MaybeStmtTree, StmtFormTree, PartTree, PartTrees, SectionTree, SectionTrees, FunctionTree}
use Rattle.stk_tree.specs.Syntax as s
use Rattle.stk_tree.specs.Parts.{is_static}

abbrev pub declarator_number : DeclrTree → ℕ
declarator_number (s.declarator n count at t i) = n.number

abbrev pub declarators_numbers : DeclrTrees → List ℕ
declarators_numbers s.no_declarators = []
declarators_numbers (s.then_declarator d ds) = declarator_number d ∷ declarators_numbers ds

-- the declarators of a declaration with the storage word `static`, or another one or none
abbrev pub under_word : Bool → DeclrTrees → List ℕ
under_word true ds = declarators_numbers ds
under_word false ds = []

abbrev pub declaration_statics : DeclarationTree → List ℕ
declaration_statics (s.declaration word b ds) = under_word (is_static word) ds

abbrev pub start_statics : StartTree → List ℕ
start_statics (s.start_declaration d) = declaration_statics d
start_statics (s.start_expression e) = []

abbrev mutual
  pub statement_statics : StmtTree → List ℕ
  statement_statics (s.statement n f) = statement_form_statics f

  pub statement_form_statics : StmtFormTree → List ℕ
  statement_form_statics (s.block ps) = parts_statics ps
  statement_form_statics (s.expression_statement e) = []
  statement_form_statics (s.if_statement e x other) = statement_statics x ++ maybe_statement_statics other
  statement_form_statics (s.switch_statement e xs) = sections_statics xs
  statement_form_statics (s.while_statement e x) = statement_statics x
  statement_form_statics (s.do_statement x e) = statement_statics x
  statement_form_statics (s.for_statement first test step x) = start_statics first ++ statement_statics x
  statement_form_statics s.break_statement = []
  statement_form_statics s.continue_statement = []
  statement_form_statics (s.return_statement e) = []

  pub statements_statics : StmtTrees → List ℕ
  statements_statics s.no_statements = []
  statements_statics (s.then_statement x xs) = statement_statics x ++ statements_statics xs

  pub maybe_statement_statics : MaybeStmtTree → List ℕ
  maybe_statement_statics s.no_statement = []
  maybe_statement_statics (s.some_statement x) = statement_statics x

  pub part_statics : PartTree → List ℕ
  part_statics (s.local d) = declaration_statics d
  part_statics (s.run x) = statement_statics x

  pub parts_statics : PartTrees → List ℕ
  parts_statics s.no_parts = []
  parts_statics (s.then_part p ps) = part_statics p ++ parts_statics ps

  pub section_statics : SectionTree → List ℕ
  section_statics (s.section n ls body) = statements_statics body

  pub sections_statics : SectionTrees → List ℕ
  sections_statics s.no_sections = []
  sections_statics (s.then_section x xs) = section_statics x ++ sections_statics xs

-- the declarators of a function's `static` objects
abbrev pub function_statics : FunctionTree → List ℕ
function_statics (s.function word b d body) = statement_statics body
