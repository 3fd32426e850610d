-- The declarators whose names are operands of `&` in a function.
use Rattle.std.specs.Prelude.{ℕ, Bool, true, false, List, [], ◌++◌}
use Rattle.stk_tree.specs.Syntax.{DeclrTree, DeclrTrees, ParamTree, ParamTrees, DeclarationTree, StartTree, LabelTree, LabelTrees, StmtTree, StmtTrees, MaybeStmtTree, StmtFormTree, PartTree, PartTrees, SectionTree, SectionTrees, FunctionTree}
use Rattle.stk_tree.specs.Syntax as s
use Rattle.stk_tree.specs.Parts.{is_static, declared_parameters}
use Rattle.stk_address_taken.specs.declared.bindings.Binding.{Binding}
use Rattle.stk_address_taken.specs.Bindings.{declarator_bindings, start_bindings, part_bindings, parameter_bindings, parameters_bindings}
use Rattle.stk_address_taken.specs.Expressions.{expression_taken, maybe_taken, maybe_initialiser_taken, tail_taken}

-- an initialiser; that of a `static` object isn't looked at
abbrev pub initial_taken : Bool → List ℕ → List ℕ
initial_taken true under = []
initial_taken false under = under

-- a declarator: its name is in force behind its array parts, and before its initialiser (C11 6.2.1p7)
abbrev pub declarator_taken : List ℕ → List Binding → Bool → DeclrTree → List ℕ
declarator_taken bytes ms static (s.declarator n count at t i) =
    tail_taken bytes ms t ++ initial_taken static (maybe_initialiser_taken bytes (ms ++ declarator_bindings (s.declarator n count at t i)) i)

abbrev pub declarators_taken : List ℕ → List Binding → Bool → DeclrTrees → List ℕ
declarators_taken bytes ms static s.no_declarators = []
declarators_taken bytes ms static (s.then_declarator d ds) = declarator_taken bytes ms static d ++ declarators_taken bytes (ms ++ declarator_bindings d) static ds

abbrev pub declaration_taken : List ℕ → List Binding → DeclarationTree → List ℕ
declaration_taken bytes ms (s.declaration word b ds) = declarators_taken bytes ms (is_static word) ds

-- the first part of a `for`
abbrev pub start_taken : List ℕ → List Binding → StartTree → List ℕ
start_taken bytes ms (s.start_declaration d) = declaration_taken bytes ms d
start_taken bytes ms (s.start_expression e) = maybe_taken bytes ms e

abbrev pub label_taken : List ℕ → List Binding → LabelTree → List ℕ
label_taken bytes ms s.default_label = []
label_taken bytes ms (s.case_label e) = expression_taken bytes ms e

abbrev pub labels_taken : List ℕ → List Binding → LabelTrees → List ℕ
labels_taken bytes ms s.no_labels = []
labels_taken bytes ms (s.then_label x xs) = label_taken bytes ms x ++ labels_taken bytes ms xs

abbrev mutual
  pub statement_taken : List ℕ → List Binding → StmtTree → List ℕ
  statement_taken bytes ms (s.statement n f) = statement_form_taken bytes ms f

  pub statement_form_taken : List ℕ → List Binding → StmtFormTree → List ℕ
  statement_form_taken bytes ms (s.block ps) = parts_taken bytes ms ps
  statement_form_taken bytes ms (s.expression_statement e) = maybe_taken bytes ms e
  statement_form_taken bytes ms (s.if_statement e x other) = expression_taken bytes ms e ++ (statement_taken bytes ms x ++ maybe_statement_taken bytes ms other)
  statement_form_taken bytes ms (s.switch_statement e xs) = expression_taken bytes ms e ++ sections_taken bytes ms xs
  statement_form_taken bytes ms (s.while_statement e x) = expression_taken bytes ms e ++ statement_taken bytes ms x
  statement_form_taken bytes ms (s.do_statement x e) = statement_taken bytes ms x ++ expression_taken bytes ms e
  statement_form_taken bytes ms (s.for_statement first test step x) =
      start_taken bytes ms first ++ (maybe_taken bytes (ms ++ start_bindings first) test ++ (maybe_taken bytes (ms ++ start_bindings first) step ++ statement_taken bytes (ms ++ start_bindings first) x))
  statement_form_taken bytes ms s.break_statement = []
  statement_form_taken bytes ms s.continue_statement = []
  statement_form_taken bytes ms (s.return_statement e) = maybe_taken bytes ms e

  pub statements_taken : List ℕ → List Binding → StmtTrees → List ℕ
  statements_taken bytes ms s.no_statements = []
  statements_taken bytes ms (s.then_statement x xs) = statement_taken bytes ms x ++ statements_taken bytes ms xs

  pub maybe_statement_taken : List ℕ → List Binding → MaybeStmtTree → List ℕ
  maybe_statement_taken bytes ms s.no_statement = []
  maybe_statement_taken bytes ms (s.some_statement x) = statement_taken bytes ms x

  pub part_taken : List ℕ → List Binding → PartTree → List ℕ
  part_taken bytes ms (s.local d) = declaration_taken bytes ms d
  part_taken bytes ms (s.run x) = statement_taken bytes ms x

  -- what a part declares is in force for the parts behind it
  pub parts_taken : List ℕ → List Binding → PartTrees → List ℕ
  parts_taken bytes ms s.no_parts = []
  parts_taken bytes ms (s.then_part p ps) = part_taken bytes ms p ++ parts_taken bytes (ms ++ part_bindings p) ps

  pub section_taken : List ℕ → List Binding → SectionTree → List ℕ
  section_taken bytes ms (s.section n labels body) = labels_taken bytes ms labels ++ statements_taken bytes ms body

  pub sections_taken : List ℕ → List Binding → SectionTrees → List ℕ
  sections_taken bytes ms s.no_sections = []
  sections_taken bytes ms (s.then_section x xs) = section_taken bytes ms x ++ sections_taken bytes ms xs

-- parameters: each is in force behind its array parts
abbrev pub parameter_taken : List ℕ → List Binding → ParamTree → List ℕ
parameter_taken bytes ms (s.parameter n b (s.declarator m count at t i)) = tail_taken bytes ms t

abbrev pub parameters_taken : List ℕ → List Binding → ParamTrees → List ℕ
parameters_taken bytes ms s.no_parameters = []
parameters_taken bytes ms (s.then_parameter p ps) = parameter_taken bytes ms p ++ parameters_taken bytes (ms ++ parameter_bindings p) ps

-- the declarators of a function's parameters and local objects whose names are operands of `&`
abbrev pub function_taken : List ℕ → FunctionTree → List ℕ
function_taken bytes (s.function word b d body) = parameters_taken bytes [] (declared_parameters d) ++ statement_taken bytes (parameters_bindings (declared_parameters d)) body
