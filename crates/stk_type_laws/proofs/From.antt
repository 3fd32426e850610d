-- Trees whose evaluated nodes are numbered children first from a number on, and that what is laid out is.
use Rattle.std.proofs.Common.{◌≡◌, ℕ, ◌+◌, List, refl, sym, subst}
use Rattle.stk_base.specs.declared.span.Span.{Span}
use Rattle.stk_tree.specs.Syntax.{DeclrTree, DeclrTrees, TailTree, ParamTree, ParamTrees, InitTree, MaybeInitTree, ItemTree, ItemTrees, ExprTree, ExprTrees, MaybeExprTree, ExprFormTree}
use Rattle.stk_tree.specs.Syntax.{DeclarationTree, StartTree, StmtTree, StmtTrees, MaybeStmtTree, StmtFormTree, PartTree, PartTrees, SectionTree, SectionTrees}
use Rattle.stk_tree.specs.Syntax as s
use Rattle.stk_tree.specs.Nodes.{base_nodes, declarator_nodes, designators_nodes, expression_form_nodes, expression_nodes, item_nodes, labels_nodes, maybe_expression_nodes, maybe_initialiser_nodes, parameter_nodes, part_nodes, section_nodes, start_nodes, statement_nodes, tail_nodes, type_name_nodes}
use Rattle.stk_tree.specs.Layout.{node_at, laid_declarator, laid_declarators, laid_parameters, laid_initialiser, laid_maybe_initialiser, laid_item, laid_items, laid_expression, laid_expressions, laid_maybe_expression, laid_expression_form, laid_declaration, laid_start, laid_statement, laid_statements, laid_maybe_statement, laid_statement_form, laid_part, laid_parts, laid_section, laid_sections}
use Rattle.stk_type_laws.proofs.LaidNodes.{add, base_same, declarator_same, designators_same, expression_same, expression_form_same, item_same, labels_same, maybe_expression_same, maybe_initialiser_same, parameter_same, part_same, section_same, start_same, statement_same, tail_same, type_name_same}

-- ---- expressions: a node's number is behind those of its operands

abbrev mutual
  pub expression_from : ℕ → ExprTree → Type 0
  expression_from n (s.expression node f) = (node.number ≡ n + expression_form_nodes f) × form_from n f

  pub form_from : ℕ → ExprFormTree → Type 0
  form_from n (s.name at) = Unit {0}
  form_from n (s.number at) = Unit {0}
  form_from n (s.character at) = Unit {0}
  form_from n (s.text parts) = Unit {0}
  form_from n (s.paren e) = expression_from n e
  form_from n (s.index a b) = expression_from n a × expression_from (n + expression_nodes a) b
  form_from n (s.call f args) = expressions_from (n + expression_nodes f) args
  form_from n (s.dot e at) = expression_from n e
  form_from n (s.arrow e at) = expression_from n e
  form_from n (s.step op e) = expression_from n e
  form_from n (s.unary op e) = expression_from n e
  form_from n (s.size_expression e) = Unit {0}
  form_from n (s.size_name t) = Unit {0}
  form_from n (s.cast t e) = expression_from (n + type_name_nodes t) e
  form_from n (s.binary op a b) = expression_from n a × expression_from (n + expression_nodes a) b
  form_from n (s.choice a b c) = expression_from n a × expression_from (n + expression_nodes a) b × expression_from (n + expression_nodes a + expression_nodes b) c
  form_from n (s.assign op a b) = expression_from n a × expression_from (n + expression_nodes a) b

  pub expressions_from : ℕ → ExprTrees → Type 0
  expressions_from n s.no_expressions = Unit {0}
  expressions_from n (s.then_expression e es) = expression_from n e × expressions_from (n + expression_nodes e) es

abbrev pub maybe_from : ℕ → MaybeExprTree → Type 0
maybe_from n s.no_expression = Unit {0}
maybe_from n (s.some_expression e) = expression_from n e

-- ---- initialisers and declarators

abbrev mutual
  pub initialiser_from : ℕ → InitTree → Type 0
  initialiser_from n (s.plain e) = expression_from n e
  initialiser_from n (s.braces items comma) = items_from n items

  pub items_from : ℕ → ItemTrees → Type 0
  items_from n s.no_items = Unit {0}
  items_from n (s.then_item x xs) = item_from n x × items_from (n + item_nodes x) xs

  pub item_from : ℕ → ItemTree → Type 0
  item_from n (s.item ds i) = initialiser_from (n + designators_nodes ds) i

abbrev pub initial_from : ℕ → MaybeInitTree → Type 0
initial_from n s.no_initialiser = Unit {0}
initial_from n (s.some_initialiser i) = initialiser_from n i

abbrev pub declarator_from : ℕ → DeclrTree → Type 0
declarator_from n (s.declarator node count at x i) = (node.number ≡ n + tail_nodes x + maybe_initialiser_nodes i) × initial_from (n + tail_nodes x) i

abbrev pub declarators_from : ℕ → DeclrTrees → Type 0
declarators_from n s.no_declarators = Unit {0}
declarators_from n (s.then_declarator d ds) = declarator_from n d × declarators_from (n + declarator_nodes d) ds

abbrev pub declaration_from : ℕ → DeclarationTree → Type 0
declaration_from n (s.declaration word b ds) = declarators_from (n + base_nodes b) ds

abbrev pub start_from : ℕ → StartTree → Type 0
start_from n (s.start_declaration d) = declaration_from n d
start_from n (s.start_expression e) = maybe_from n e

-- ---- parameters

abbrev pub parameter_from : ℕ → ParamTree → Type 0
parameter_from n (s.parameter node b d) = declarator_from (n + base_nodes b) d

abbrev pub parameters_from : ℕ → ParamTrees → Type 0
parameters_from n s.no_parameters = Unit {0}
parameters_from n (s.then_parameter p ps) = parameter_from n p × parameters_from (n + parameter_nodes p) ps

abbrev pub tail_from : ℕ → TailTree → Type 0
tail_from n (s.arrays ds) = Unit {0}
tail_from n s.unspecified = Unit {0}
tail_from n s.void_parameters = Unit {0}
tail_from n (s.with_parameters ps more) = parameters_from n ps

abbrev pub head_from : ℕ → DeclrTree → Type 0
head_from n (s.declarator node count at x i) = tail_from n x

-- ---- statements

abbrev mutual
  pub statement_from : ℕ → StmtTree → Type 0
  statement_from n (s.statement node f) = statement_form_from n f

  pub statement_form_from : ℕ → StmtFormTree → Type 0
  statement_form_from n (s.block ps) = parts_from n ps
  statement_form_from n (s.expression_statement e) = maybe_from n e
  statement_form_from n (s.if_statement e x y) = expression_from n e × statement_from (n + expression_nodes e) x × maybe_statement_from (n + expression_nodes e + statement_nodes x) y
  statement_form_from n (s.switch_statement e xs) = expression_from n e × sections_from (n + expression_nodes e) xs
  statement_form_from n (s.while_statement e x) = expression_from n e × statement_from (n + expression_nodes e) x
  statement_form_from n (s.do_statement x e) = statement_from n x × expression_from (n + statement_nodes x) e
  statement_form_from n (s.for_statement first test step x) =
      start_from n first × maybe_from (n + start_nodes first) test × maybe_from (n + start_nodes first + maybe_expression_nodes test) step
      × statement_from (n + start_nodes first + maybe_expression_nodes test + maybe_expression_nodes step) x
  statement_form_from n s.break_statement = Unit {0}
  statement_form_from n s.continue_statement = Unit {0}
  statement_form_from n (s.return_statement e) = maybe_from n e

  pub maybe_statement_from : ℕ → MaybeStmtTree → Type 0
  maybe_statement_from n s.no_statement = Unit {0}
  maybe_statement_from n (s.some_statement x) = statement_from n x

  pub statements_from : ℕ → StmtTrees → Type 0
  statements_from n s.no_statements = Unit {0}
  statements_from n (s.then_statement x xs) = statement_from n x × statements_from (n + statement_nodes x) xs

  pub parts_from : ℕ → PartTrees → Type 0
  parts_from n s.no_parts = Unit {0}
  parts_from n (s.then_part x xs) = part_from n x × parts_from (n + part_nodes x) xs

  pub part_from : ℕ → PartTree → Type 0
  part_from n (s.local d) = declaration_from n d
  part_from n (s.run x) = statement_from n x

  pub sections_from : ℕ → SectionTrees → Type 0
  sections_from n s.no_sections = Unit {0}
  sections_from n (s.then_section x xs) = section_from n x × sections_from (n + section_nodes x) xs

  pub section_from : ℕ → SectionTree → Type 0
  section_from n (s.section node ls body) = statements_from (n + labels_nodes ls) body

-- ---- what is laid out is so numbered: the same at an equal number

expression_moved : {a b : ℕ} (x : ExprTree) → b ≡ a → expression_from a x → expression_from b x
expression_moved x same h = subst (λ z. expression_from z x) (sym same) h

expressions_moved : {a b : ℕ} (x : ExprTrees) → b ≡ a → expressions_from a x → expressions_from b x
expressions_moved x same h = subst (λ z. expressions_from z x) (sym same) h

maybe_moved : {a b : ℕ} (x : MaybeExprTree) → b ≡ a → maybe_from a x → maybe_from b x
maybe_moved x same h = subst (λ z. maybe_from z x) (sym same) h

initialiser_moved : {a b : ℕ} (x : InitTree) → b ≡ a → initialiser_from a x → initialiser_from b x
initialiser_moved x same h = subst (λ z. initialiser_from z x) (sym same) h

items_moved : {a b : ℕ} (x : ItemTrees) → b ≡ a → items_from a x → items_from b x
items_moved x same h = subst (λ z. items_from z x) (sym same) h

initial_moved : {a b : ℕ} (x : MaybeInitTree) → b ≡ a → initial_from a x → initial_from b x
initial_moved x same h = subst (λ z. initial_from z x) (sym same) h

declarator_moved : {a b : ℕ} (x : DeclrTree) → b ≡ a → declarator_from a x → declarator_from b x
declarator_moved x same h = subst (λ z. declarator_from z x) (sym same) h

declarators_moved : {a b : ℕ} (x : DeclrTrees) → b ≡ a → declarators_from a x → declarators_from b x
declarators_moved x same h = subst (λ z. declarators_from z x) (sym same) h

parameters_moved : {a b : ℕ} (x : ParamTrees) → b ≡ a → parameters_from a x → parameters_from b x
parameters_moved x same h = subst (λ z. parameters_from z x) (sym same) h

statement_moved : {a b : ℕ} (x : StmtTree) → b ≡ a → statement_from a x → statement_from b x
statement_moved x same h = subst (λ z. statement_from z x) (sym same) h

statements_moved : {a b : ℕ} (x : StmtTrees) → b ≡ a → statements_from a x → statements_from b x
statements_moved x same h = subst (λ z. statements_from z x) (sym same) h

maybe_statement_moved : {a b : ℕ} (x : MaybeStmtTree) → b ≡ a → maybe_statement_from a x → maybe_statement_from b x
maybe_statement_moved x same h = subst (λ z. maybe_statement_from z x) (sym same) h

parts_moved : {a b : ℕ} (x : PartTrees) → b ≡ a → parts_from a x → parts_from b x
parts_moved x same h = subst (λ z. parts_from z x) (sym same) h

sections_moved : {a b : ℕ} (x : SectionTrees) → b ≡ a → sections_from a x → sections_from b x
sections_moved x same h = subst (λ z. sections_from z x) (sym same) h

module _ (spans : List Span) where
  mutual
    pub expression_laid : (e : ExprTree) (n t : ℕ) → expression_from n (laid_expression (node_at spans) n t e)
    expression_laid (s.expression node f) n t = (add refl (sym (expression_form_same (node_at spans) f n t)), form_laid f n t)

    form_laid : (f : ExprFormTree) (n t : ℕ) → form_from n (laid_expression_form (node_at spans) n t f)
    form_laid (s.name at) n t = tt
    form_laid (s.number at) n t = tt
    form_laid (s.character at) n t = tt
    form_laid (s.text parts) n t = tt
    form_laid (s.paren e) n t = expression_laid e n _
    form_laid (s.index a b) n t = (expression_laid a n _, expression_moved _ (add refl (expression_same (node_at spans) a n t)) (expression_laid b (n + expression_nodes a) _))
    form_laid (s.call f args) n t = expressions_moved _ (add refl (expression_same (node_at spans) f n t)) (expressions_laid args (n + expression_nodes f) _)
    form_laid (s.dot e at) n t = expression_laid e n _
    form_laid (s.arrow e at) n t = expression_laid e n _
    form_laid (s.step op e) n t = expression_laid e n _
    form_laid (s.unary op e) n t = expression_laid e n _
    form_laid (s.size_expression e) n t = tt
    form_laid (s.size_name x) n t = tt
    form_laid (s.cast x e) n t = expression_moved _ (add refl (type_name_same (node_at spans) x n (t + 1))) (expression_laid e (n + type_name_nodes x) _)
    form_laid (s.binary op a b) n t = (expression_laid a n _, expression_moved _ (add refl (expression_same (node_at spans) a n t)) (expression_laid b (n + expression_nodes a) _))
    form_laid (s.choice a b c) n t = (
      expression_laid a n _,
      expression_moved _ (add refl (expression_same (node_at spans) a n t)) (expression_laid b (n + expression_nodes a) _),
      expression_moved _ (add (add refl (expression_same (node_at spans) a n t)) (expression_same (node_at spans) b _ _)) (expression_laid c (n + expression_nodes a + expression_nodes b) _),
    )
    form_laid (s.assign op a b) n t = (expression_laid a n _, expression_moved _ (add refl (expression_same (node_at spans) a n t)) (expression_laid b (n + expression_nodes a) _))

    expressions_laid : (es : ExprTrees) (n t : ℕ) → expressions_from n (laid_expressions (node_at spans) n t es)
    expressions_laid s.no_expressions n t = tt
    expressions_laid (s.then_expression e es) n t = (expression_laid e n t, expressions_moved _ (add refl (expression_same (node_at spans) e n t)) (expressions_laid es (n + expression_nodes e) _))

  maybe_laid : (e : MaybeExprTree) (n t : ℕ) → maybe_from n (laid_maybe_expression (node_at spans) n t e)
  maybe_laid s.no_expression n t = tt
  maybe_laid (s.some_expression e) n t = expression_laid e n t

  mutual
    initialiser_laid : (x : InitTree) (n t : ℕ) → initialiser_from n (laid_initialiser (node_at spans) n t x)
    initialiser_laid (s.plain e) n t = expression_laid e n t
    initialiser_laid (s.braces items comma) n t = items_laid items n _

    items_laid : (xs : ItemTrees) (n t : ℕ) → items_from n (laid_items (node_at spans) n t xs)
    items_laid s.no_items n t = tt
    items_laid (s.then_item x xs) n t = (item_laid x n t, items_moved _ (add refl (item_same (node_at spans) x n t)) (items_laid xs (n + item_nodes x) _))

    item_laid : (x : ItemTree) (n t : ℕ) → item_from n (laid_item (node_at spans) n t x)
    item_laid (s.item ds i) n t = initialiser_moved _ (add refl (designators_same (node_at spans) ds n t)) (initialiser_laid i (n + designators_nodes ds) _)

  initial_laid : (x : MaybeInitTree) (n t : ℕ) → initial_from n (laid_maybe_initialiser (node_at spans) n t x)
  initial_laid s.no_initialiser n t = tt
  initial_laid (s.some_initialiser i) n t = initialiser_laid i n t

  declarator_laid : (d : DeclrTree) (n t : ℕ) → declarator_from n (laid_declarator (node_at spans) n t d)
  declarator_laid (s.declarator node count at x i) n t = (
    sym (add (add refl (tail_same (node_at spans) x n _)) (maybe_initialiser_same (node_at spans) i _ _)),
    initial_moved _ (add refl (tail_same (node_at spans) x n _)) (initial_laid i (n + tail_nodes x) _),
  )

  declarators_laid : (ds : DeclrTrees) (n t : ℕ) → declarators_from n (laid_declarators (node_at spans) n t ds)
  declarators_laid s.no_declarators n t = tt
  declarators_laid (s.then_declarator d ds) n t = (declarator_laid d n t, declarators_moved _ (add refl (declarator_same (node_at spans) d n t)) (declarators_laid ds (n + declarator_nodes d) _))

  declaration_laid : (d : DeclarationTree) (n t : ℕ) → declaration_from n (laid_declaration (node_at spans) n t d)
  declaration_laid (s.declaration word b ds) n t = declarators_moved _ (add refl (base_same (node_at spans) b n _)) (declarators_laid ds (n + base_nodes b) _)

  start_laid : (x : StartTree) (n t : ℕ) → start_from n (laid_start (node_at spans) n t x)
  start_laid (s.start_declaration d) n t = declaration_laid d n t
  start_laid (s.start_expression e) n t = maybe_laid e n t

  parameters_laid : (ps : ParamTrees) (n t : ℕ) → parameters_from n (laid_parameters (node_at spans) n t ps)
  parameters_laid s.no_parameters n t = tt
  parameters_laid (s.then_parameter (s.parameter node b d) ps) n t = (
    declarator_moved _ (add refl (base_same (node_at spans) b n t)) (declarator_laid d (n + base_nodes b) _),
    parameters_moved _ (add refl (parameter_same (node_at spans) (s.parameter node b d) n t)) (parameters_laid ps (n + parameter_nodes (s.parameter node b d)) _),
  )

  pub head_laid : (d : DeclrTree) (n t : ℕ) → head_from n (laid_declarator (node_at spans) n t d)
  head_laid (s.declarator node count at (s.arrays ds) i) n t = tt
  head_laid (s.declarator node count at s.unspecified i) n t = tt
  head_laid (s.declarator node count at s.void_parameters i) n t = tt
  head_laid (s.declarator node count at (s.with_parameters ps more) i) n t = parameters_laid ps n _

  mutual
    pub statement_laid : (x : StmtTree) (n t : ℕ) → statement_from n (laid_statement (node_at spans) n t x)
    statement_laid (s.statement node f) n t = statement_form_laid f n t

    statement_form_laid : (f : StmtFormTree) (n t : ℕ) → statement_form_from n (laid_statement_form (node_at spans) n t f)
    statement_form_laid (s.block ps) n t = parts_laid ps n _
    statement_form_laid (s.expression_statement e) n t = maybe_laid e n t
    statement_form_laid (s.if_statement e x y) n t = (
      expression_laid e n _,
      statement_moved _ (add refl (expression_same (node_at spans) e n _)) (statement_laid x (n + expression_nodes e) _),
      maybe_statement_moved _ (add (add refl (expression_same (node_at spans) e n _)) (statement_same (node_at spans) x _ _)) (maybe_statement_laid y (n + expression_nodes e + statement_nodes x) _),
    )
    statement_form_laid (s.switch_statement e xs) n t = (expression_laid e n _, sections_moved _ (add refl (expression_same (node_at spans) e n _)) (sections_laid xs (n + expression_nodes e) _))
    statement_form_laid (s.while_statement e x) n t = (expression_laid e n _, statement_moved _ (add refl (expression_same (node_at spans) e n _)) (statement_laid x (n + expression_nodes e) _))
    statement_form_laid (s.do_statement x e) n t = (statement_laid x n _, expression_moved _ (add refl (statement_same (node_at spans) x n _)) (expression_laid e (n + statement_nodes x) _))
    statement_form_laid (s.for_statement first test step x) n t =
        let p = start_same (node_at spans) first n (t + 2) in (
          start_laid first n _,
          maybe_moved _ (add refl p) (maybe_laid test (n + start_nodes first) _),
          maybe_moved _ (add (add refl p) (maybe_expression_same (node_at spans) test _ _)) (maybe_laid step (n + start_nodes first + maybe_expression_nodes test) _),
          statement_moved _ (add (add (add refl p) (maybe_expression_same (node_at spans) test _ _)) (maybe_expression_same (node_at spans) step _ _)) (statement_laid x (n + start_nodes first + maybe_expression_nodes test + maybe_expression_nodes step) _),
        )
    statement_form_laid s.break_statement n t = tt
    statement_form_laid s.continue_statement n t = tt
    statement_form_laid (s.return_statement e) n t = maybe_laid e n _

    maybe_statement_laid : (y : MaybeStmtTree) (n t : ℕ) → maybe_statement_from n (laid_maybe_statement (node_at spans) n t y)
    maybe_statement_laid s.no_statement n t = tt
    maybe_statement_laid (s.some_statement x) n t = statement_laid x n t

    statements_laid : (xs : StmtTrees) (n t : ℕ) → statements_from n (laid_statements (node_at spans) n t xs)
    statements_laid s.no_statements n t = tt
    statements_laid (s.then_statement x xs) n t = (statement_laid x n t, statements_moved _ (add refl (statement_same (node_at spans) x n t)) (statements_laid xs (n + statement_nodes x) _))

    parts_laid : (xs : PartTrees) (n t : ℕ) → parts_from n (laid_parts (node_at spans) n t xs)
    parts_laid s.no_parts n t = tt
    parts_laid (s.then_part x xs) n t = (part_laid x n t, parts_moved _ (add refl (part_same (node_at spans) x n t)) (parts_laid xs (n + part_nodes x) _))

    part_laid : (x : PartTree) (n t : ℕ) → part_from n (laid_part (node_at spans) n t x)
    part_laid (s.local d) n t = declaration_laid d n t
    part_laid (s.run x) n t = statement_laid x n t

    sections_laid : (xs : SectionTrees) (n t : ℕ) → sections_from n (laid_sections (node_at spans) n t xs)
    sections_laid s.no_sections n t = tt
    sections_laid (s.then_section x xs) n t = (section_laid x n t, sections_moved _ (add refl (section_same (node_at spans) x n t)) (sections_laid xs (n + section_nodes x) _))

    section_laid : (x : SectionTree) (n t : ℕ) → section_from n (laid_section (node_at spans) n t x)
    section_laid (s.section node ls body) n t = statements_moved _ (add refl (labels_same (node_at spans) ls n t)) (statements_laid body (n + labels_nodes ls) _)
