-- A layout doesn't change whether a statement or a unit fits the typedef names.
use Rattle.std.proofs.Common.{◌≡◌, ℕ, Bool, List, refl}
use Rattle.stk_base.specs.declared.span.Span.{Span}
use Rattle.stk_tree.specs.declared.node.Node.{Node}
use Rattle.stk_tree.specs.Syntax.{DeclarationTree, FunctionTree, LabelTree, LabelTrees, MaybeStmtTree, PartTree, PartTrees, SectionTree, SectionTrees, StartTree, StmtFormTree, StmtTree, StmtTrees, UnitTree}
use Rattle.stk_tree.specs.Syntax as s
use Rattle.stk_tree.specs.Layout.{node_at, laid_declaration, laid_function, laid_label, laid_labels, laid_maybe_statement, laid_part, laid_parts, laid_section, laid_sections, laid_start, laid_statement, laid_statement_form, laid_statements, unit_laid_out}
use Rattle.stk_grammar.proofs.LaidFits.{base_fits-laid, declarator_fits-laid, declarators_fits-laid, expression_fits-laid, maybe_expression_fits-laid}
use Rattle.stk_tree.specs.Fits.{declaration_fits, function_fits, label_fits, labels_fit, maybe_statement_fits, part_fits, parts_fit, section_fits, sections_fit, start_fits, statement_fits, statement_form_fits, statements_fit, unit_fits}

module _ (set : ℕ → ℕ → ℕ → Node) where
  pub declaration_fits-laid : (named : Span → Bool) (x : DeclarationTree) (n t : ℕ) → declaration_fits named (laid_declaration set n t x) ≡ declaration_fits named x
  declaration_fits-laid named (s.declaration word b ds) n t = rw (declarators_fits-laid set named ds _ _, base_fits-laid set named b _ _) refl

  pub start_fits-laid : (named : Span → Bool) (x : StartTree) (n t : ℕ) → start_fits named (laid_start set n t x) ≡ start_fits named x
  start_fits-laid named (s.start_declaration d) n t = rw (declaration_fits-laid named d _ _) refl
  start_fits-laid named (s.start_expression e) n t = rw (maybe_expression_fits-laid set named e _ _) refl

  pub label_fits-laid : (named : Span → Bool) (x : LabelTree) (n t : ℕ) → label_fits named (laid_label set n t x) ≡ label_fits named x
  label_fits-laid named s.default_label n t = refl
  label_fits-laid named (s.case_label e) n t = rw (expression_fits-laid set named e _ _) refl

  pub labels_fit-laid : (named : Span → Bool) (x : LabelTrees) (n t : ℕ) → labels_fit named (laid_labels set n t x) ≡ labels_fit named x
  labels_fit-laid named s.no_labels n t = refl
  labels_fit-laid named (s.then_label x xs) n t = rw (labels_fit-laid named xs _ _, label_fits-laid named x _ _) refl

  mutual
    pub statement_fits-laid : (named : Span → Bool) (x : StmtTree) (n t : ℕ) → statement_fits named (laid_statement set n t x) ≡ statement_fits named x
    statement_fits-laid named (s.statement k f) n t = rw (statement_form_fits-laid named f _ _) refl

    pub statements_fit-laid : (named : Span → Bool) (x : StmtTrees) (n t : ℕ) → statements_fit named (laid_statements set n t x) ≡ statements_fit named x
    statements_fit-laid named s.no_statements n t = refl
    statements_fit-laid named (s.then_statement x xs) n t = rw (statements_fit-laid named xs _ _, statement_fits-laid named x _ _) refl

    pub maybe_statement_fits-laid : (named : Span → Bool) (x : MaybeStmtTree) (n t : ℕ) → maybe_statement_fits named (laid_maybe_statement set n t x) ≡ maybe_statement_fits named x
    maybe_statement_fits-laid named s.no_statement n t = refl
    maybe_statement_fits-laid named (s.some_statement x) n t = rw (statement_fits-laid named x _ _) refl

    pub statement_form_fits-laid : (named : Span → Bool) (x : StmtFormTree) (n t : ℕ) → statement_form_fits named (laid_statement_form set n t x) ≡ statement_form_fits named x
    statement_form_fits-laid named (s.block ps) n t = rw (parts_fit-laid named ps _ _) refl
    statement_form_fits-laid named (s.expression_statement e) n t = rw (maybe_expression_fits-laid set named e _ _) refl
    statement_form_fits-laid named (s.if_statement e x other) n t = rw (expression_fits-laid set named e _ _, statement_fits-laid named x _ _, maybe_statement_fits-laid named other _ _) refl
    statement_form_fits-laid named (s.switch_statement e xs) n t = rw (expression_fits-laid set named e _ _, sections_fit-laid named xs _ _) refl
    statement_form_fits-laid named (s.while_statement e x) n t = rw (expression_fits-laid set named e _ _, statement_fits-laid named x _ _) refl
    statement_form_fits-laid named (s.do_statement x e) n t = rw (statement_fits-laid named x _ _, expression_fits-laid set named e _ _) refl
    statement_form_fits-laid named (s.for_statement first test step x) n t = rw (start_fits-laid named first _ _, maybe_expression_fits-laid set named test _ _, maybe_expression_fits-laid set named step _ _, statement_fits-laid named x _ _) refl
    statement_form_fits-laid named s.break_statement n t = refl
    statement_form_fits-laid named s.continue_statement n t = refl
    statement_form_fits-laid named (s.return_statement e) n t = rw (maybe_expression_fits-laid set named e _ _) refl

    pub part_fits-laid : (named : Span → Bool) (x : PartTree) (n t : ℕ) → part_fits named (laid_part set n t x) ≡ part_fits named x
    part_fits-laid named (s.local d) n t = rw (declaration_fits-laid named d _ _) refl
    part_fits-laid named (s.run x) n t = rw (statement_fits-laid named x _ _) refl

    pub parts_fit-laid : (named : Span → Bool) (x : PartTrees) (n t : ℕ) → parts_fit named (laid_parts set n t x) ≡ parts_fit named x
    parts_fit-laid named s.no_parts n t = refl
    parts_fit-laid named (s.then_part x xs) n t = rw (parts_fit-laid named xs _ _, part_fits-laid named x _ _) refl

    pub section_fits-laid : (named : Span → Bool) (x : SectionTree) (n t : ℕ) → section_fits named (laid_section set n t x) ≡ section_fits named x
    section_fits-laid named (s.section k ls body) n t = rw (labels_fit-laid named ls _ _, statements_fit-laid named body _ _) refl

    pub sections_fit-laid : (named : Span → Bool) (x : SectionTrees) (n t : ℕ) → sections_fit named (laid_sections set n t x) ≡ sections_fit named x
    sections_fit-laid named s.no_sections n t = refl
    sections_fit-laid named (s.then_section x xs) n t = rw (sections_fit-laid named xs _ _, section_fits-laid named x _ _) refl

  pub function_fits-laid : (named : Span → Bool) (x : FunctionTree) (n t : ℕ) → function_fits named (laid_function set n t x) ≡ function_fits named x
  function_fits-laid named (s.function word b d body) n t = rw (statement_fits-laid named body _ _, declarator_fits-laid set named d _ _, base_fits-laid set named b _ _) refl

pub unit_fits-laid : (named : Span → Bool) (spans : List Span) (u : UnitTree) → unit_fits named (unit_laid_out spans u) ≡ unit_fits named u
unit_fits-laid named spans (s.empty_unit k) = refl
unit_fits-laid named spans (s.declares k d) = declaration_fits-laid (node_at spans) named d 0 0
unit_fits-laid named spans (s.defines k f) = function_fits-laid (node_at spans) named f 0 0
