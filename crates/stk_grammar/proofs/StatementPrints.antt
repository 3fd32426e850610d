-- The tokens of a statement in front of others, grouped from the left.
use Rattle.std.proofs.Common.{◌≡◌, ◌<◌, ◌≤◌, true, List, [], ◌∷◌, length, ◌++◌, refl, ap, ◌∙◌, append_assoc, length-append, arith}
use Rattle.stk_tree.specs.declared.fixed.Fixed.TheVariants as fixed
use Rattle.stk_tree.specs.declared.fixed.Lexeme.{Lexeme}
use Rattle.stk_tree.specs.declared.fixed.Lexeme.TheVariants.{Fixed as Token}
use Rattle.stk_tree.specs.Placed.{some_labels}
use Rattle.stk_tree.specs.Syntax.{BaseTree, DeclarationTree, DeclrTrees, ExprTree, LabelTree, LabelTrees, MaybeExprTree, MaybeStmtTree, PartTree, PartTrees, SectionTree, SectionTrees, StartTree, StmtFormTree, StmtTree, StmtTrees}
use Rattle.stk_tree.specs.Syntax as s
use Rattle.stk_tree.specs.Tokens.{base_tokens, declaration_tokens, declarators_tokens, else_tokens, expression_tokens, label_tokens, labels_tokens, optional_tokens, part_tokens, parts_tokens, section_tokens, sections_tokens, start_tokens, statement_form_tokens, statement_tokens, statements_tokens, storage_tokens}

abbrev pub prints_start : StartTree → List Lexeme → List Lexeme
prints_start (s.start_declaration d) r = declaration_tokens d ++ r
prints_start (s.start_expression e) r = optional_tokens e ++ Token fixed.Semicolon ∷ r

abbrev pub prints_label : LabelTree → List Lexeme → List Lexeme
prints_label s.default_label r = Token fixed.Default ∷ Token fixed.Colon ∷ r
prints_label (s.case_label e) r = Token fixed.Case ∷ (expression_tokens e ++ Token fixed.Colon ∷ r)

abbrev pub prints_labels : LabelTrees → List Lexeme → List Lexeme
prints_labels s.no_labels r = r
prints_labels (s.then_label x xs) r = prints_label x (prints_labels xs r)

-- `( e )`
abbrev pub prints_condition : ExprTree → List Lexeme → List Lexeme
prints_condition e r = Token fixed.LeftParen ∷ (expression_tokens e ++ Token fixed.RightParen ∷ r)

abbrev mutual
  pub prints : StmtTree → List Lexeme → List Lexeme
  prints (s.statement n f) r = prints_form f r

  pub prints_all : StmtTrees → List Lexeme → List Lexeme
  prints_all s.no_statements r = r
  prints_all (s.then_statement x xs) r = prints x (prints_all xs r)

  pub prints_else : MaybeStmtTree → List Lexeme → List Lexeme
  prints_else s.no_statement r = r
  prints_else (s.some_statement x) r = Token fixed.Else ∷ prints x r

  pub prints_form : StmtFormTree → List Lexeme → List Lexeme
  prints_form (s.block ps) r = Token fixed.LeftBrace ∷ prints_parts ps (Token fixed.RightBrace ∷ r)
  prints_form (s.expression_statement e) r = optional_tokens e ++ Token fixed.Semicolon ∷ r
  prints_form (s.if_statement e x other) r = Token fixed.If ∷ prints_condition e (prints x (prints_else other r))
  prints_form (s.switch_statement e xs) r = Token fixed.Switch ∷ prints_condition e (Token fixed.LeftBrace ∷ prints_sections xs (Token fixed.RightBrace ∷ r))
  prints_form (s.while_statement e x) r = Token fixed.While ∷ prints_condition e (prints x r)
  prints_form (s.do_statement x e) r = Token fixed.Do ∷ prints x (Token fixed.While ∷ prints_condition e (Token fixed.Semicolon ∷ r))
  prints_form (s.for_statement first test step x) r = Token fixed.For ∷ Token fixed.LeftParen ∷ prints_start first (optional_tokens test ++ Token fixed.Semicolon ∷ (optional_tokens step ++ Token fixed.RightParen ∷ prints x r))
  prints_form s.break_statement r = Token fixed.Break ∷ Token fixed.Semicolon ∷ r
  prints_form s.continue_statement r = Token fixed.Continue ∷ Token fixed.Semicolon ∷ r
  prints_form (s.return_statement e) r = Token fixed.Return ∷ (optional_tokens e ++ Token fixed.Semicolon ∷ r)

  pub prints_part : PartTree → List Lexeme → List Lexeme
  prints_part (s.local d) r = declaration_tokens d ++ r
  prints_part (s.run x) r = prints x r

  pub prints_parts : PartTrees → List Lexeme → List Lexeme
  prints_parts s.no_parts r = r
  prints_parts (s.then_part x xs) r = prints_part x (prints_parts xs r)

  pub prints_section : SectionTree → List Lexeme → List Lexeme
  prints_section (s.section n ls body) r = prints_labels ls (prints_all body r)

  pub prints_sections : SectionTrees → List Lexeme → List Lexeme
  prints_sections s.no_sections r = r
  prints_sections (s.then_section x xs) r = prints_section x (prints_sections xs r)

-- ---- from the definition

-- two in a row
row_append : (a b r x y : List Lexeme) → b ++ r ≡ x → a ++ x ≡ y → (a ++ b) ++ r ≡ y
row_append a b r x y e d = append_assoc a b r ∙ ap (λ z. a ++ z) e ∙ d

-- an expression, a punctuator and what stands behind it
marked_append : (a : List Lexeme) (u : Lexeme) (b r x : List Lexeme) → b ++ r ≡ x → (a ++ u ∷ b) ++ r ≡ a ++ u ∷ x
marked_append a u b r x e = append_assoc a (u ∷ b) r ∙ ap (λ z. a ++ u ∷ z) e

start-append : (t : StartTree) (r : List Lexeme) → start_tokens t ++ r ≡ prints_start t r
start-append (s.start_declaration d) r = refl
start-append (s.start_expression e) r = append_assoc (optional_tokens e) (Token fixed.Semicolon ∷ []) r

label-append : (t : LabelTree) (r : List Lexeme) → label_tokens t ++ r ≡ prints_label t r
label-append s.default_label r = refl
label-append (s.case_label e) r = ap (λ x. Token fixed.Case ∷ x) (append_assoc (expression_tokens e) (Token fixed.Colon ∷ []) r)

labels-append : (ts : LabelTrees) (r : List Lexeme) → labels_tokens ts ++ r ≡ prints_labels ts r
labels-append s.no_labels r = refl
labels-append (s.then_label x xs) r = row_append (label_tokens x) (labels_tokens xs) r _ _ (labels-append xs r) (label-append x (prints_labels xs r))

mutual
  pub tokens-append : (t : StmtTree) (r : List Lexeme) → statement_tokens t ++ r ≡ prints t r
  tokens-append (s.statement n f) r = form-append f r

  all-append : (ts : StmtTrees) (r : List Lexeme) → statements_tokens ts ++ r ≡ prints_all ts r
  all-append s.no_statements r = refl
  all-append (s.then_statement x xs) r = row_append (statement_tokens x) (statements_tokens xs) r _ _ (all-append xs r) (tokens-append x (prints_all xs r))

  else-append : (t : MaybeStmtTree) (r : List Lexeme) → else_tokens t ++ r ≡ prints_else t r
  else-append s.no_statement r = refl
  else-append (s.some_statement x) r = ap (λ z. Token fixed.Else ∷ z) (tokens-append x r)

  form-append : (f : StmtFormTree) (r : List Lexeme) → statement_form_tokens f ++ r ≡ prints_form f r
  form-append (s.block ps) r = ap (λ z. Token fixed.LeftBrace ∷ z) (row_append (parts_tokens ps) (Token fixed.RightBrace ∷ []) r _ _ refl (parts-append ps (Token fixed.RightBrace ∷ r)))
  form-append (s.expression_statement e) r = append_assoc (optional_tokens e) (Token fixed.Semicolon ∷ []) r
  form-append (s.if_statement e x other) r = ap (λ z. Token fixed.If ∷ Token fixed.LeftParen ∷ z)
      (row_append (expression_tokens e ++ Token fixed.RightParen ∷ statement_tokens x) (else_tokens other) r _ _ (else-append other r)
      (marked_append (expression_tokens e) (Token fixed.RightParen) (statement_tokens x) (prints_else other r) _ (tokens-append x (prints_else other r))))
  form-append (s.switch_statement e xs) r = ap (λ z. Token fixed.Switch ∷ Token fixed.LeftParen ∷ z)
      (row_append (expression_tokens e ++ Token fixed.RightParen ∷ Token fixed.LeftBrace ∷ sections_tokens xs) (Token fixed.RightBrace ∷ []) r _ _ refl
      (marked_append (expression_tokens e) (Token fixed.RightParen) (Token fixed.LeftBrace ∷ sections_tokens xs) (Token fixed.RightBrace ∷ r) _ (ap (λ z. Token fixed.LeftBrace ∷ z) (sections-append xs (Token fixed.RightBrace ∷ r)))))
  form-append (s.while_statement e x) r = ap (λ z. Token fixed.While ∷ Token fixed.LeftParen ∷ z) (marked_append (expression_tokens e) (Token fixed.RightParen) (statement_tokens x) r _ (tokens-append x r))
  form-append (s.do_statement x e) r = ap (λ z. Token fixed.Do ∷ z)
      (row_append (statement_tokens x ++ Token fixed.While ∷ Token fixed.LeftParen ∷ expression_tokens e) (Token fixed.RightParen ∷ Token fixed.Semicolon ∷ []) r _ _ refl
      (row_append (statement_tokens x) (Token fixed.While ∷ Token fixed.LeftParen ∷ expression_tokens e) (Token fixed.RightParen ∷ Token fixed.Semicolon ∷ r) _ _ refl (tokens-append x _)))
  form-append (s.for_statement first test step x) r = ap (λ z. Token fixed.For ∷ Token fixed.LeftParen ∷ z)
      (marked_append ((start_tokens first ++ optional_tokens test) ++ Token fixed.Semicolon ∷ optional_tokens step) (Token fixed.RightParen) (statement_tokens x) r _ (tokens-append x r)
      ∙ append_assoc (start_tokens first ++ optional_tokens test) (Token fixed.Semicolon ∷ optional_tokens step) (Token fixed.RightParen ∷ prints x r)
      ∙ row_append (start_tokens first) (optional_tokens test) _ _ _ refl (start-append first _))
  form-append s.break_statement r = refl
  form-append s.continue_statement r = refl
  form-append (s.return_statement e) r = ap (λ z. Token fixed.Return ∷ z) (append_assoc (optional_tokens e) (Token fixed.Semicolon ∷ []) r)

  part-append : (t : PartTree) (r : List Lexeme) → part_tokens t ++ r ≡ prints_part t r
  part-append (s.local d) r = refl
  part-append (s.run x) r = tokens-append x r

  parts-append : (ts : PartTrees) (r : List Lexeme) → parts_tokens ts ++ r ≡ prints_parts ts r
  parts-append s.no_parts r = refl
  parts-append (s.then_part x xs) r = row_append (part_tokens x) (parts_tokens xs) r _ _ (parts-append xs r) (part-append x (prints_parts xs r))

  section-append : (t : SectionTree) (r : List Lexeme) → section_tokens t ++ r ≡ prints_section t r
  section-append (s.section n ls body) r = row_append (labels_tokens ls) (statements_tokens body) r _ _ (all-append body r) (labels-append ls (prints_all body r))

  sections-append : (ts : SectionTrees) (r : List Lexeme) → sections_tokens ts ++ r ≡ prints_sections ts r
  sections-append s.no_sections r = refl
  sections-append (s.then_section x xs) r = row_append (section_tokens x) (sections_tokens xs) r _ _ (sections-append xs r) (section-append x (prints_sections xs r))

-- ---- lengths

-- some tokens in front of others
pub longer : (a r : List Lexeme) → length r ≤ length (a ++ r)
longer a r = omega (arith, length-append a r)

-- the tokens of a declaration
pub declaration_longer : (d : DeclarationTree) (r : List Lexeme) → length r < length (declaration_tokens d ++ r)
declaration_longer (s.declaration word b ds) r =
    omega (arith, length-append (declaration_tokens (s.declaration word b ds)) r, length-append ((storage_tokens word ++ base_tokens b) ++ declarators_tokens ds) (Token fixed.Semicolon ∷ []))

start_longer : (t : StartTree) (r : List Lexeme) → length r < length (prints_start t r)
start_longer (s.start_declaration d) r = declaration_longer d r
start_longer (s.start_expression e) r = omega (arith, longer (optional_tokens e) (Token fixed.Semicolon ∷ r))

pub label_longer : (t : LabelTree) (r : List Lexeme) → length r < length (prints_label t r)
label_longer s.default_label r = omega arith
label_longer (s.case_label e) r = omega (arith, longer (expression_tokens e) (Token fixed.Colon ∷ r))

labels_longer : (ts : LabelTrees) (r : List Lexeme) → length r ≤ length (prints_labels ts r)
labels_longer s.no_labels r = omega arith
labels_longer (s.then_label x xs) r = omega (arith, label_longer x (prints_labels xs r), labels_longer xs r)

mutual
  pub prints_longer : (t : StmtTree) (r : List Lexeme) → length r < length (prints t r)
  prints_longer (s.statement n f) r = form_longer f r

  all_longer : (ts : StmtTrees) (r : List Lexeme) → length r ≤ length (prints_all ts r)
  all_longer s.no_statements r = omega arith
  all_longer (s.then_statement x xs) r = omega (arith, prints_longer x (prints_all xs r), all_longer xs r)

  else_longer : (t : MaybeStmtTree) (r : List Lexeme) → length r ≤ length (prints_else t r)
  else_longer s.no_statement r = omega arith
  else_longer (s.some_statement x) r = omega (arith, prints_longer x r)

  form_longer : (f : StmtFormTree) (r : List Lexeme) → length r < length (prints_form f r)
  form_longer (s.block ps) r = omega (arith, parts_longer ps (Token fixed.RightBrace ∷ r))
  form_longer (s.expression_statement e) r = omega (arith, longer (optional_tokens e) (Token fixed.Semicolon ∷ r))
  form_longer (s.if_statement e x other) r = omega (arith, longer (expression_tokens e) (Token fixed.RightParen ∷ prints x (prints_else other r)), prints_longer x (prints_else other r), else_longer other r)
  form_longer (s.switch_statement e xs) r = omega (arith, longer (expression_tokens e) (Token fixed.RightParen ∷ Token fixed.LeftBrace ∷ prints_sections xs (Token fixed.RightBrace ∷ r)), sections_longer xs (Token fixed.RightBrace ∷ r))
  form_longer (s.while_statement e x) r = omega (arith, longer (expression_tokens e) (Token fixed.RightParen ∷ prints x r), prints_longer x r)
  form_longer (s.do_statement x e) r = omega (arith, prints_longer x (Token fixed.While ∷ prints_condition e (Token fixed.Semicolon ∷ r)), longer (expression_tokens e) (Token fixed.RightParen ∷ Token fixed.Semicolon ∷ r))
  form_longer (s.for_statement first test step x) r =
      omega (arith, start_longer first (optional_tokens test ++ Token fixed.Semicolon ∷ (optional_tokens step ++ Token fixed.RightParen ∷ prints x r)), longer (optional_tokens test) (Token fixed.Semicolon ∷ (optional_tokens step ++ Token fixed.RightParen ∷ prints x r)), longer (optional_tokens step) (Token fixed.RightParen ∷ prints x r), prints_longer x r)
  form_longer s.break_statement r = omega arith
  form_longer s.continue_statement r = omega arith
  form_longer (s.return_statement e) r = omega (arith, longer (optional_tokens e) (Token fixed.Semicolon ∷ r))

  pub part_longer : (t : PartTree) (r : List Lexeme) → length r < length (prints_part t r)
  part_longer (s.local d) r = declaration_longer d r
  part_longer (s.run x) r = prints_longer x r

  parts_longer : (ts : PartTrees) (r : List Lexeme) → length r ≤ length (prints_parts ts r)
  parts_longer s.no_parts r = omega arith
  parts_longer (s.then_part x xs) r = omega (arith, part_longer x (prints_parts xs r), parts_longer xs r)

  section_longer : (t : SectionTree) (r : List Lexeme) → length r ≤ length (prints_section t r)
  section_longer (s.section n ls body) r = omega (arith, labels_longer ls (prints_all body r), all_longer body r)

  sections_longer : (ts : SectionTrees) (r : List Lexeme) → length r ≤ length (prints_sections ts r)
  sections_longer s.no_sections r = omega arith
  sections_longer (s.then_section x xs) r = omega (arith, section_longer x (prints_sections xs r), sections_longer xs r)

-- a section with a label
pub labelled_longer : (ls : LabelTrees) (body : StmtTrees) (r : List Lexeme) → some_labels ls ≡ true → length r < length (prints_labels ls (prints_all body r))
labelled_longer s.no_labels body r h = absurd cc
labelled_longer (s.then_label x xs) body r h = omega (arith, label_longer x (prints_labels xs (prints_all body r)), labels_longer xs (prints_all body r), all_longer body r)
