-- What a statement prints is read as that statement, and no further.
use Rattle.std.proofs.Common.{◌≡◌, ℕ, zero, suc, ◌<◌, ◌≤◌, Bool, true, false, not, List, [], ◌∷◌, ◌++◌, length, Some, None, refl, arith}
use Rattle.stk_base.specs.declared.span.Span.{Span}
use Rattle.stk_tree.specs.declared.node.Node.{Node}
use Rattle.stk_tree.specs.declared.fixed.Fixed.TheVariants as fixed
use Rattle.stk_tree.specs.declared.fixed.Lexeme.{Lexeme}
use Rattle.stk_tree.specs.declared.fixed.Lexeme.TheVariants.{Fixed as Token}
use Rattle.stk_tree.specs.Nesting.{expression_nesting, label_nesting, labels_nesting, maybe_expression_nesting, parts_nesting, sections_nesting, start_nesting, statement_form_nesting, statement_nesting, statements_nesting}
use Rattle.stk_tree.specs.Placed.{ends_open, expression_placed, form_ends_open, label_placed, labels_placed, may_precede, optional_placed, parts_placed, section_placed, sections_placed, some_labels, some_statements, start_placed, statement_form_placed, statement_placed, statements_placed}
use Rattle.stk_tree.specs.Syntax.{ExprTree, LabelTree, LabelTrees, MaybeExprTree, PartTrees, SectionTree, SectionTrees, StartTree, StmtFormTree, StmtTree, StmtTrees}
use Rattle.stk_tree.specs.Syntax as s
use Rattle.stk_tree.specs.Tokens.{optional_tokens}
use Rattle.stk_tree.specs.Unlaid.{no_node, unlaid_expression, unlaid_maybe_expression, unlaid_declaration, unlaid_label, unlaid_labels, unlaid_parts, unlaid_sections, unlaid_start, unlaid_statement, unlaid_statement_form, unlaid_statements}
use Rattle.stk_tree.specs.Fits.{expression_fits, maybe_expression_fits, label_fits, labels_fit, parts_fit, sections_fit, start_fits, statement_fits, statement_form_fits, statements_fit}
use Rattle.stk_grammar.specs.Reading.{behind_right_brace}
use Rattle.stk_grammar.proofs.Operators.{both_true}
use Rattle.stk_grammar.proofs.Stopped.{stopped_reads}
use Rattle.stk_grammar.proofs.Declarations.{declaration_reads}
use Rattle.stk_grammar.specs.StatementReading.{begins_label, behind_else, closed_at, condition_at, ended_at, ends_section, label_at, labels_at, made_statement, parts_at, section_at, sections_at, start_at, statement_at, statements_at}
use Rattle.stk_grammar.proofs.StatementDeclarations.{local_start}
use Rattle.stk_grammar.proofs.StatementPrints.{declaration_longer, label_longer, labelled_longer, prints, prints_all, prints_condition, prints_form, prints_label, prints_labels, prints_longer, prints_parts, prints_sections, prints_start}
use Rattle.stk_grammar.proofs.Starts.{expression_open, goes_on, no_right_paren, no_semicolon, plain_open, start_of_open, statement_start}
use Rattle.stk_grammar.proofs.Steps.{block_read, break_read, continue_read, do_read, else_read, for_read, if_read, labels_end, labels_next, part_local, part_run, parts_end, parts_next, plain_read, return_read, section_read, sections_end, sections_next, statements_end, statements_next, switch_read, while_read}

-- ---- expressions of statements

condition_read : (named : Span → Bool) (room : ℕ) (e : ExprTree) (r : List Lexeme) → expression_placed 1 e ≡ true → expression_fits named e ≡ true → expression_nesting e ≤ room
    → condition_at named room (prints_condition e r) ≡ Some (unlaid_expression e, r)
unfolding condition_at
condition_read named room e r p q low = rw (stopped_reads named room 1 e (Token fixed.RightParen ∷ r) p q low refl) refl

ended_read : (named : Span → Bool) (room : ℕ) (e : MaybeExprTree) (r : List Lexeme) → optional_placed e ≡ true → maybe_expression_fits named e ≡ true → maybe_expression_nesting e ≤ room
    → ended_at named room (optional_tokens e ++ Token fixed.Semicolon ∷ r) ≡ Some (unlaid_maybe_expression e, r)
unfolding ended_at
ended_read named room s.no_expression r p q low = refl
ended_read named room (s.some_expression e) r p q low =
    rw (no_semicolon named _ (expression_open named 1 e (Token fixed.Semicolon ∷ r) p q refl), stopped_reads named room 1 e (Token fixed.Semicolon ∷ r) p q low refl) refl

closed_read : (named : Span → Bool) (room : ℕ) (e : MaybeExprTree) (r : List Lexeme) → optional_placed e ≡ true → maybe_expression_fits named e ≡ true → maybe_expression_nesting e ≤ room
    → closed_at named room (optional_tokens e ++ Token fixed.RightParen ∷ r) ≡ Some (unlaid_maybe_expression e, r)
unfolding closed_at
closed_read named room s.no_expression r p q low = refl
closed_read named room (s.some_expression e) r p q low =
    rw (no_right_paren named _ (expression_open named 1 e (Token fixed.RightParen ∷ r) p q refl), stopped_reads named room 1 e (Token fixed.RightParen ∷ r) p q low refl) refl

-- ---- labels

label_read : (named : Span → Bool) (room : ℕ) (t : LabelTree) (r : List Lexeme) → label_placed t ≡ true → label_fits named t ≡ true → label_nesting t ≤ room
    → label_at named room (prints_label t r) ≡ Some (unlaid_label t, r)
unfolding label_at
label_read named room s.default_label r p q low = refl
label_read named room (s.case_label e) r p q low = rw (stopped_reads named room 3 e (Token fixed.Colon ∷ r) p q low refl) refl

label_begins : (t : LabelTree) (r : List Lexeme) → begins_label (prints_label t r) ≡ true
label_begins s.default_label r = refl
label_begins (s.case_label e) r = refl

labels_come : (ts : LabelTrees) (named : Span → Bool) (room f : ℕ) (rest : List Lexeme) → labels_placed ts ≡ true → labels_fit named ts ≡ true → labels_nesting ts ≤ room → begins_label rest ≡ false
    → length (prints_labels ts rest) < f → labels_at named room f (prints_labels ts rest) ≡ Some (unlaid_labels ts, rest)
labels_come ts named room zero rest p q low stop much = absurd (omega arith)
labels_come s.no_labels named room (suc f) rest p q low stop much = labels_end named room f rest stop
labels_come (s.then_label x xs) named room (suc f) rest p q low stop much =
    let a = both_true _ _ p in
    let b = both_true _ _ q in
    labels_next named room f (unlaid_label x) (unlaid_labels xs) _ (prints_labels xs rest) rest (label_begins x (prints_labels xs rest)) (label_read named room x (prints_labels xs rest) a.0 b.0 (omega arith))
    (labels_come xs named room f rest a.1 b.1 (omega arith) stop (omega (arith, label_longer x (prints_labels xs rest))))

-- ---- what follows a part, a statement and a section

parts_no_else : (named : Span → Bool) (ps : PartTrees) (r : List Lexeme) → parts_placed ps ≡ true → parts_fit named ps ≡ true → behind_else (prints_parts ps (Token fixed.RightBrace ∷ r)) ≡ None
parts_no_else named s.no_parts r p q = refl
parts_no_else named (s.then_part (s.local d) xs) r p q = (local_start named d _ (both_true _ _ p).0 (both_true _ _ q).0).no_else
parts_no_else named (s.then_part (s.run x) xs) r p q = (statement_start named x _ (both_true _ _ p).0 (both_true _ _ q).0).no_else

end_no_else : (ts : List Lexeme) → ends_section ts ≡ true → behind_else ts ≡ None
end_no_else [] h = refl
end_no_else (Token fixed.Else ∷ ts) h = absurd cc
end_no_else (t ∷ ts) h = refl

all_no_else : (named : Span → Bool) (ts : StmtTrees) (r : List Lexeme) → statements_placed ts ≡ true → statements_fit named ts ≡ true → ends_section r ≡ true → behind_else (prints_all ts r) ≡ None
all_no_else named s.no_statements r p q h = end_no_else r h
all_no_else named (s.then_statement x xs) r p q h = (statement_start named x _ (both_true _ _ p).0 (both_true _ _ q).0).no_else

-- behind labels begins a statement, or nothing where the section is without statements
all_no_label : (named : Span → Bool) (ts : StmtTrees) (r : List Lexeme) → statements_placed ts ≡ true → statements_fit named ts ≡ true → (some_statements ts ≡ false → begins_label r ≡ false) → begins_label (prints_all ts r) ≡ false
all_no_label named s.no_statements r p q h = h refl
all_no_label named (s.then_statement x xs) r p q h = (statement_start named x _ (both_true _ _ p).0 (both_true _ _ q).0).no_label

label_ends : (t : LabelTree) (r : List Lexeme) → ends_section (prints_label t r) ≡ true
label_ends s.default_label r = refl
label_ends (s.case_label e) r = refl

label_no_brace : (t : LabelTree) (r : List Lexeme) → behind_right_brace (prints_label t r) ≡ None
label_no_brace s.default_label r = refl
label_no_brace (s.case_label e) r = refl

-- what is asked of sections
section_is : (n : Node) (ls : LabelTrees) (body : StmtTrees) → section_placed (s.section n ls body) ≡ true → (some_labels ls ≡ true) × (labels_placed ls ≡ true) × (statements_placed body ≡ true)
section_is n ls body p =
    let a = both_true _ _ p in
    let b = both_true _ _ a.0 in
    (b.0, b.1, a.1)

sections_are : (x : SectionTree) (xs : SectionTrees) → sections_placed (s.then_section x xs) ≡ true → (may_precede x xs ≡ true) × (section_placed x ≡ true) × (sections_placed xs ≡ true)
sections_are x xs p =
    let a = both_true _ _ p in
    let b = both_true _ _ a.0 in
    (b.0, b.1, a.1)

labelled_stops : (ls : LabelTrees) (r : List Lexeme) → some_labels ls ≡ true → ends_section (prints_labels ls r) ≡ true
labelled_stops s.no_labels r h = absurd cc
labelled_stops (s.then_label l ls) r h = label_ends l _

sections_stop : (xs : SectionTrees) (r : List Lexeme) → sections_placed xs ≡ true → ends_section (prints_sections xs (Token fixed.RightBrace ∷ r)) ≡ true
sections_stop s.no_sections r p = refl
sections_stop (s.then_section (s.section n ls body) xs) r p = labelled_stops ls _ (section_is n ls body (sections_are (s.section n ls body) xs p).1).0

-- only the last section is without statements
last_stops : (n : Node) (ls : LabelTrees) (body : StmtTrees) (xs : SectionTrees) (r : List Lexeme) → may_precede (s.section n ls body) xs ≡ true → some_statements body ≡ false
    → begins_label (prints_sections xs (Token fixed.RightBrace ∷ r)) ≡ false
last_stops n ls body s.no_sections r h none = refl
last_stops n ls body (s.then_section y ys) r h none = absurd (cc (h, none))

unlabelled : (n : Node) (body : StmtTrees) → section_placed (s.section n s.no_labels body) ≡ true → ⊥
unlabelled n body p = let a : false ≡ true = (section_is n s.no_labels body p).0 in absurd cc

open_not : (b : Bool) → b ≡ true → not b ≡ true → ⊥
open_not true h k = absurd cc
open_not false h k = absurd cc

start_read : (named : Span → Bool) (room : ℕ) (t : StartTree) (r : List Lexeme) → start_placed t ≡ true → start_fits named t ≡ true → start_nesting t ≤ room
    → start_at named room (prints_start t r) ≡ Some (unlaid_start t, r)
unfolding start_at
start_read named room (s.start_declaration d) r p q low = rw ((local_start named d r p q).is_local, declaration_reads named false room d r p q low) refl
start_read named room (s.start_expression s.no_expression) r p q low = rw (ended_read named room s.no_expression r p q low) refl
start_read named room (s.start_expression (s.some_expression e)) r p q low =
    rw ((start_of_open named _ (expression_open named 1 e (Token fixed.Semicolon ∷ r) p q refl)).no_local, ended_read named room (s.some_expression e) r p q low) refl

mutual
  pub statement_reads : (t : StmtTree) (named : Span → Bool) (room : ℕ) (rest : List Lexeme) → statement_placed t ≡ true → statement_fits named t ≡ true → statement_nesting t ≤ room → (ends_open t ≡ true → behind_else rest ≡ None)
      → statement_at named room (prints t rest) ≡ Some (unlaid_statement t, rest)
  statement_reads (s.statement n f) named zero rest p q low closed = absurd (omega arith)
  statement_reads (s.statement n f) named (suc inner) rest p q low closed = form_reads f named inner rest p q (omega arith) closed

  form_reads : (f : StmtFormTree) (named : Span → Bool) (inner : ℕ) (rest : List Lexeme) → statement_form_placed f ≡ true → statement_form_fits named f ≡ true → statement_form_nesting f ≤ inner → (form_ends_open f ≡ true → behind_else rest ≡ None)
      → statement_at named (suc inner) (prints_form f rest) ≡ Some (made_statement (unlaid_statement_form f), rest)
  form_reads (s.block ps) named inner rest p q low closed =
      block_read named inner (unlaid_parts ps) _ rest (parts_come ps named inner (suc (length (prints_parts ps (Token fixed.RightBrace ∷ rest)))) rest p q low (omega arith))
  form_reads (s.expression_statement s.no_expression) named inner rest p q low closed = plain_read named inner s.no_expression _ rest refl (ended_read named inner s.no_expression rest p q low)
  form_reads (s.expression_statement (s.some_expression e)) named inner rest p q low closed =
      plain_read named inner (s.some_expression (unlaid_expression e)) _ rest (plain_open named _ (expression_open named 1 e (Token fixed.Semicolon ∷ rest) p q refl)) (ended_read named inner (s.some_expression e) rest p q low)
  form_reads (s.if_statement e x s.no_statement) named inner rest p q low closed =
      let a = both_true _ _ p in
      let b = both_true _ _ (both_true _ _ q).0 in
      if_read named inner (unlaid_expression e) (unlaid_statement x) _ (prints x rest) rest (condition_read named inner e (prints x rest) a.0 b.0 (omega arith))
      (statement_reads x named inner rest a.1 b.1 (omega arith) (λ _. closed refl)) (closed refl)
  form_reads (s.if_statement e x (s.some_statement y)) named inner rest p q low closed =
      let a = both_true _ _ p in
      let c = both_true _ _ a.0 in
      let d = both_true _ _ c.0 in
      let b = both_true _ _ q in
      let k = both_true _ _ b.0 in
      else_read named inner (unlaid_expression e) (unlaid_statement x) (unlaid_statement y) _ (prints x (Token fixed.Else ∷ prints y rest)) (prints y rest) rest
      (condition_read named inner e (prints x (Token fixed.Else ∷ prints y rest)) d.0 k.0 (omega arith))
      (statement_reads x named inner (Token fixed.Else ∷ prints y rest) d.1 k.1 (omega arith) (λ o. absurd (open_not (ends_open x) o c.1)))
      (statement_reads y named inner rest a.1 b.1 (omega arith) closed)
  form_reads (s.switch_statement e xs) named inner rest p q low closed =
      let a = both_true _ _ p in
      let b = both_true _ _ q in
      let inside : List Lexeme = prints_sections xs (Token fixed.RightBrace ∷ rest) in
      switch_read named inner (unlaid_expression e) (unlaid_sections xs) _ inside rest (condition_read named inner e (Token fixed.LeftBrace ∷ inside) a.0 b.0 (omega arith))
      (sections_come xs named inner (suc (length inside)) rest a.1 b.1 (omega arith) (omega arith))
  form_reads (s.while_statement e x) named inner rest p q low closed =
      let a = both_true _ _ p in
      let b = both_true _ _ q in
      while_read named inner (unlaid_expression e) (unlaid_statement x) _ (prints x rest) rest (condition_read named inner e (prints x rest) a.0 b.0 (omega arith))
      (statement_reads x named inner rest a.1 b.1 (omega arith) closed)
  form_reads (s.do_statement x e) named inner rest p q low closed =
      let a = both_true _ _ p in
      let b = both_true _ _ q in
      let inside : List Lexeme = prints_condition e (Token fixed.Semicolon ∷ rest) in
      do_read named inner (unlaid_statement x) (unlaid_expression e) _ inside rest (statement_reads x named inner (Token fixed.While ∷ inside) a.0 b.0 (omega arith) (λ _. refl))
      (condition_read named inner e (Token fixed.Semicolon ∷ rest) a.1 b.1 (omega arith))
  form_reads (s.for_statement first test step x) named inner rest p q low closed =
      let a = both_true _ _ p in
      let b = both_true _ _ q in
      let c = both_true _ _ a.0 in
      let d = both_true _ _ b.0 in
      let g = both_true _ _ c.0 in
      let h = both_true _ _ d.0 in
      let third : List Lexeme = optional_tokens step ++ Token fixed.RightParen ∷ prints x rest in
      let second : List Lexeme = optional_tokens test ++ Token fixed.Semicolon ∷ third in
      for_read named inner (unlaid_start first) (unlaid_maybe_expression test) (unlaid_maybe_expression step) (unlaid_statement x) _ second third (prints x rest) rest (start_read named inner first second g.0 h.0 (omega arith))
      (ended_read named inner test third g.1 h.1 (omega arith)) (closed_read named inner step (prints x rest) c.1 d.1 (omega arith)) (statement_reads x named inner rest a.1 b.1 (omega arith) closed)
  form_reads s.break_statement named inner rest p q low closed = break_read named inner rest
  form_reads s.continue_statement named inner rest p q low closed = continue_read named inner rest
  form_reads (s.return_statement e) named inner rest p q low closed = return_read named inner (unlaid_maybe_expression e) _ rest (ended_read named inner e rest p q low)

  parts_come : (ps : PartTrees) (named : Span → Bool) (inner f : ℕ) (rest : List Lexeme) → parts_placed ps ≡ true → parts_fit named ps ≡ true → parts_nesting ps ≤ inner → length (prints_parts ps (Token fixed.RightBrace ∷ rest)) < f
      → parts_at named inner (statement_at named inner) f (prints_parts ps (Token fixed.RightBrace ∷ rest)) ≡ Some (unlaid_parts ps, rest)
  parts_come ps named inner zero rest p q low much = absurd (omega arith)
  parts_come s.no_parts named inner (suc f) rest p q low much = parts_end named inner f (statement_at named inner) rest
  parts_come (s.then_part (s.local d) xs) named inner (suc f) rest p q low much =
      let a = both_true _ _ p in
      let b = both_true _ _ q in
      let next : List Lexeme = prints_parts xs (Token fixed.RightBrace ∷ rest) in
      let start = local_start named d next a.0 b.0 in
      parts_next named inner f (statement_at named inner) (s.local (unlaid_declaration d)) (unlaid_parts xs) _ next rest start.no_brace
      (part_local named inner (statement_at named inner) (unlaid_declaration d) _ next start.is_local (declaration_reads named false inner d next a.0 b.0 (omega arith)))
      (parts_come xs named inner f rest a.1 b.1 (omega arith) (omega (arith, declaration_longer d next)))
  parts_come (s.then_part (s.run x) xs) named inner (suc f) rest p q low much =
      let a = both_true _ _ p in
      let b = both_true _ _ q in
      let next : List Lexeme = prints_parts xs (Token fixed.RightBrace ∷ rest) in
      let start = statement_start named x next a.0 b.0 in
      parts_next named inner f (statement_at named inner) (s.run (unlaid_statement x)) (unlaid_parts xs) _ next rest start.no_brace
      (part_run named inner (statement_at named inner) (unlaid_statement x) _ next start.no_local (statement_reads x named inner next a.0 b.0 (omega arith) (λ _. parts_no_else named xs rest a.1 b.1)))
      (parts_come xs named inner f rest a.1 b.1 (omega arith) (omega (arith, prints_longer x next)))

  all_come : (ts : StmtTrees) (named : Span → Bool) (inner f : ℕ) (rest : List Lexeme) → statements_placed ts ≡ true → statements_fit named ts ≡ true → statements_nesting ts ≤ inner → ends_section rest ≡ true
      → length (prints_all ts rest) < f → statements_at (statement_at named inner) f (prints_all ts rest) ≡ Some (unlaid_statements ts, rest)
  all_come ts named inner zero rest p q low stop much = absurd (omega arith)
  all_come s.no_statements named inner (suc f) rest p q low stop much = statements_end (statement_at named inner) f rest stop
  all_come (s.then_statement x xs) named inner (suc f) rest p q low stop much =
      let a = both_true _ _ p in
      let b = both_true _ _ q in
      let next : List Lexeme = prints_all xs rest in
      let start = statement_start named x next a.0 b.0 in
      statements_next (statement_at named inner) f (unlaid_statement x) (unlaid_statements xs) _ next rest (goes_on _ start.no_brace start.no_label)
      (statement_reads x named inner next a.0 b.0 (omega arith) (λ _. all_no_else named xs rest a.1 b.1 stop))
      (all_come xs named inner f rest a.1 b.1 (omega arith) stop (omega (arith, prints_longer x next)))

  sections_come : (xs : SectionTrees) (named : Span → Bool) (inner f : ℕ) (rest : List Lexeme) → sections_placed xs ≡ true → sections_fit named xs ≡ true → sections_nesting xs ≤ inner
      → length (prints_sections xs (Token fixed.RightBrace ∷ rest)) < f → sections_at (section_at named inner) f (prints_sections xs (Token fixed.RightBrace ∷ rest)) ≡ Some (unlaid_sections xs, rest)
  sections_come xs named inner zero rest p q low much = absurd (omega arith)
  sections_come s.no_sections named inner (suc f) rest p q low much = sections_end (section_at named inner) f rest
  sections_come (s.then_section (s.section n s.no_labels body) xs) named inner (suc f) rest p q low much =
      absurd (unlabelled n body (sections_are (s.section n s.no_labels body) xs p).1)
  sections_come (s.then_section (s.section n (s.then_label l ls) body) xs) named zero (suc f) rest p q low much = absurd (omega arith)
  sections_come (s.then_section (s.section n (s.then_label l ls) body) xs) named (suc deeper) (suc f) rest p q low much =
      let a = sections_are (s.section n (s.then_label l ls) body) xs p in
      let c = section_is n (s.then_label l ls) body a.1 in
      let d = both_true _ _ c.1 in
      let b = both_true _ _ q in
      let k = both_true _ _ b.0 in
      let h = both_true _ _ k.0 in
      let next : List Lexeme = prints_sections xs (Token fixed.RightBrace ∷ rest) in
      let inside : List Lexeme = prints_all body next in
      sections_next (section_at named (suc deeper)) f (s.section no_node (s.then_label (unlaid_label l) (unlaid_labels ls)) (unlaid_statements body)) (unlaid_sections xs) _ next rest (label_no_brace l _)
      (section_read named deeper (unlaid_label l) (unlaid_labels ls) (unlaid_statements body) _ (prints_labels ls inside) inside next
      (label_read named deeper l (prints_labels ls inside) d.0 h.0 (omega arith))
      (labels_come ls named deeper (suc (length (prints_labels ls inside))) inside d.1 h.1 (omega arith) (all_no_label named body next c.2 k.1 (λ none. last_stops n (s.then_label l ls) body xs rest a.0 none)) (omega arith))
      (all_come body named deeper (suc (length inside)) next c.2 k.1 (omega arith) (sections_stop xs rest a.2) (omega arith)))
      (sections_come xs named (suc deeper) f rest a.2 b.1 (omega arith) (omega (arith, labelled_longer (s.then_label l ls) body next refl)))
