-- A layout sets the records of the nodes of a statement or a unit, and nothing else.
use Rattle.std.proofs.Common.{◌≡◌, ℕ, List, refl, ap}
use Rattle.stk_base.specs.declared.span.Span.{Span}
use Rattle.stk_tree.specs.declared.node.Node.{Node}
use Rattle.stk_tree.specs.Syntax.{DeclarationTree, FunctionTree, LabelTree, LabelTrees, MaybeStmtTree, PartTree, PartTrees, SectionTree, SectionTrees, StartTree, StmtFormTree, StmtTree, StmtTrees, UnitTree}
use Rattle.stk_tree.specs.Syntax as s
use Rattle.stk_tree.specs.Layout.{node_at, laid_declaration, laid_function, laid_label, laid_labels, laid_maybe_statement, laid_part, laid_parts, laid_section, laid_sections, laid_start, laid_statement, laid_statement_form, laid_statements, unit_laid_out}
use Rattle.stk_tree.specs.Unlaid.{no_node, unlaid_declaration, unlaid_function, unlaid_label, unlaid_labels, unlaid_maybe_statement, unlaid_part, unlaid_parts, unlaid_section, unlaid_sections, unlaid_start, unlaid_statement, unlaid_statement_form, unlaid_statements, unlaid_unit}
use Rattle.stk_grammar.proofs.LaidUnlaid.{unlaid_base-laid, unlaid_declarator-laid, unlaid_declarators-laid, unlaid_expression-laid, unlaid_maybe_expression-laid}

module _ (set : ℕ → ℕ → ℕ → Node) where
  pub unlaid_declaration-laid : (x : DeclarationTree) (n t : ℕ) → unlaid_declaration (laid_declaration set n t x) ≡ unlaid_declaration x
  unlaid_declaration-laid (s.declaration word b ds) n t = rw (unlaid_declarators-laid set ds _ _, unlaid_base-laid set b _ _) refl

  pub unlaid_start-laid : (x : StartTree) (n t : ℕ) → unlaid_start (laid_start set n t x) ≡ unlaid_start x
  unlaid_start-laid (s.start_declaration d) n t = rw (unlaid_declaration-laid d _ _) refl
  unlaid_start-laid (s.start_expression e) n t = rw (unlaid_maybe_expression-laid set e _ _) refl

  pub unlaid_label-laid : (x : LabelTree) (n t : ℕ) → unlaid_label (laid_label set n t x) ≡ unlaid_label x
  unlaid_label-laid s.default_label n t = refl
  unlaid_label-laid (s.case_label e) n t = rw (unlaid_expression-laid set e _ _) refl

  pub unlaid_labels-laid : (x : LabelTrees) (n t : ℕ) → unlaid_labels (laid_labels set n t x) ≡ unlaid_labels x
  unlaid_labels-laid s.no_labels n t = refl
  unlaid_labels-laid (s.then_label x xs) n t = rw (unlaid_labels-laid xs _ _, unlaid_label-laid x _ _) refl

  mutual
    pub unlaid_statement-laid : (x : StmtTree) (n t : ℕ) → unlaid_statement (laid_statement set n t x) ≡ unlaid_statement x
    unlaid_statement-laid (s.statement k f) n t = rw (unlaid_statement_form-laid f _ _) refl

    pub unlaid_statements-laid : (x : StmtTrees) (n t : ℕ) → unlaid_statements (laid_statements set n t x) ≡ unlaid_statements x
    unlaid_statements-laid s.no_statements n t = refl
    unlaid_statements-laid (s.then_statement x xs) n t = rw (unlaid_statements-laid xs _ _, unlaid_statement-laid x _ _) refl

    pub unlaid_maybe_statement-laid : (x : MaybeStmtTree) (n t : ℕ) → unlaid_maybe_statement (laid_maybe_statement set n t x) ≡ unlaid_maybe_statement x
    unlaid_maybe_statement-laid s.no_statement n t = refl
    unlaid_maybe_statement-laid (s.some_statement x) n t = rw (unlaid_statement-laid x _ _) refl

    pub unlaid_statement_form-laid : (x : StmtFormTree) (n t : ℕ) → unlaid_statement_form (laid_statement_form set n t x) ≡ unlaid_statement_form x
    unlaid_statement_form-laid (s.block ps) n t = rw (unlaid_parts-laid ps _ _) refl
    unlaid_statement_form-laid (s.expression_statement e) n t = rw (unlaid_maybe_expression-laid set e _ _) refl
    unlaid_statement_form-laid (s.if_statement e x other) n t = rw (unlaid_expression-laid set e _ _, unlaid_statement-laid x _ _, unlaid_maybe_statement-laid other _ _) refl
    unlaid_statement_form-laid (s.switch_statement e xs) n t = rw (unlaid_expression-laid set e _ _, unlaid_sections-laid xs _ _) refl
    unlaid_statement_form-laid (s.while_statement e x) n t = rw (unlaid_expression-laid set e _ _, unlaid_statement-laid x _ _) refl
    unlaid_statement_form-laid (s.do_statement x e) n t = rw (unlaid_statement-laid x _ _, unlaid_expression-laid set e _ _) refl
    unlaid_statement_form-laid (s.for_statement first test step x) n t = rw (unlaid_start-laid first _ _, unlaid_maybe_expression-laid set test _ _, unlaid_maybe_expression-laid set step _ _, unlaid_statement-laid x _ _) refl
    unlaid_statement_form-laid s.break_statement n t = refl
    unlaid_statement_form-laid s.continue_statement n t = refl
    unlaid_statement_form-laid (s.return_statement e) n t = rw (unlaid_maybe_expression-laid set e _ _) refl

    pub unlaid_part-laid : (x : PartTree) (n t : ℕ) → unlaid_part (laid_part set n t x) ≡ unlaid_part x
    unlaid_part-laid (s.local d) n t = rw (unlaid_declaration-laid d _ _) refl
    unlaid_part-laid (s.run x) n t = rw (unlaid_statement-laid x _ _) refl

    pub unlaid_parts-laid : (x : PartTrees) (n t : ℕ) → unlaid_parts (laid_parts set n t x) ≡ unlaid_parts x
    unlaid_parts-laid s.no_parts n t = refl
    unlaid_parts-laid (s.then_part x xs) n t = rw (unlaid_parts-laid xs _ _, unlaid_part-laid x _ _) refl

    pub unlaid_section-laid : (x : SectionTree) (n t : ℕ) → unlaid_section (laid_section set n t x) ≡ unlaid_section x
    unlaid_section-laid (s.section k ls body) n t = rw (unlaid_labels-laid ls _ _, unlaid_statements-laid body _ _) refl

    pub unlaid_sections-laid : (x : SectionTrees) (n t : ℕ) → unlaid_sections (laid_sections set n t x) ≡ unlaid_sections x
    unlaid_sections-laid s.no_sections n t = refl
    unlaid_sections-laid (s.then_section x xs) n t = rw (unlaid_sections-laid xs _ _, unlaid_section-laid x _ _) refl

  pub unlaid_function-laid : (x : FunctionTree) (n t : ℕ) → unlaid_function (laid_function set n t x) ≡ unlaid_function x
  unlaid_function-laid (s.function word b d body) n t = rw (unlaid_statement-laid body _ _, unlaid_declarator-laid set d _ _, unlaid_base-laid set b _ _) refl

pub unlaid_unit-laid : (spans : List Span) (u : UnitTree) → unlaid_unit (unit_laid_out spans u) ≡ unlaid_unit u
unlaid_unit-laid spans (s.empty_unit k) = refl
unlaid_unit-laid spans (s.declares k d) = ap (s.declares no_node) (unlaid_declaration-laid (node_at spans) d 0 0)
unlaid_unit-laid spans (s.defines k f) = ap (s.defines no_node) (unlaid_function-laid (node_at spans) f 0 0)
