-- What is read is a well-placed statement that prints what stood there.
use Rattle.std.proofs.Common.{◌≡◌, ℕ, zero, suc, ◌≤◌, Bool, true, false, not, List, ◌∷◌, ◌++◌, length, Option, Some, None, refl, sym, ap, subst, ◌∙◌, arith}
use Rattle.stk_base.specs.declared.span.Span.{Span}
use Rattle.stk_tree.specs.declared.fixed.Fixed.TheVariants as fixed
use Rattle.stk_tree.specs.declared.fixed.Lexeme.{Lexeme}
use Rattle.stk_tree.specs.declared.fixed.Lexeme.TheVariants.{Fixed as Token}
use Rattle.stk_tree.specs.Nesting.{expression_nesting, label_nesting, labels_nesting, maybe_expression_nesting, part_nesting, parts_nesting, section_nesting, sections_nesting, start_nesting, statement_nesting, statements_nesting}
use Rattle.stk_tree.specs.Placed.{ends_open, expression_placed, label_placed, labels_placed, may_precede, optional_placed, part_placed, parts_placed, section_placed, sections_placed, some_statements, start_placed, statement_placed, statements_placed}
use Rattle.stk_tree.specs.Syntax.{ExprTree, LabelTree, LabelTrees, MaybeExprTree, PartTree, PartTrees, SectionTree, SectionTrees, StartTree, StmtFormTree, StmtTree, StmtTrees}
use Rattle.stk_tree.specs.Syntax as s
use Rattle.stk_tree.specs.Tokens.{expression_tokens, optional_tokens}
use Rattle.stk_tree.specs.Unlaid.{no_node}
use Rattle.stk_tree.specs.Fits.{expression_fits, maybe_expression_fits, label_fits, labels_fit, part_fits, parts_fit, section_fits, sections_fit, start_fits, statement_fits, statements_fit}
use Rattle.stk_grammar.specs.Reading.{◌>>=◌, Found, behind_colon, behind_left_brace, behind_left_paren, behind_right_brace, behind_right_paren, behind_semicolon}
use Rattle.stk_grammar.specs.Stopped.{stopped_at}
use Rattle.stk_grammar.proofs.Operators.{bind_some, some_is, true_both}
use Rattle.stk_grammar.proofs.Sound.{colon_is, left_paren_is, right_paren_is}
use Rattle.stk_grammar.proofs.Stopped.{stopped_sound}
use Rattle.stk_grammar.specs.StatementReading.{SectionReader, StatementReader, begins_label, begins_local, behind_case, behind_default, behind_else, behind_first, behind_while, block_at, closed_at, closed_on, condition_at, condition_on, default_on, do_at, do_on, else_on, ended_at, ended_on, ends_section, for_at, for_on, if_at, kind_at, label_at, label_on, labels_at, labels_on, made_statement, part_at, part_on, parts_at, parts_on, plain_at, return_at, section_at, section_of, section_on, sections_at, sections_on, start_at, start_on, statement_at, statement_on, statements_at, statements_on, switch_at, switch_on, while_at, word_statement}
use Rattle.stk_grammar.specs.declared.statement_tables.Kind.{Kind}
use Rattle.stk_grammar.specs.declared.statement_tables.Kind.TheVariants as kind
use Rattle.stk_grammar.specs.DeclarationReading.{declaration_at}
use Rattle.stk_grammar.proofs.Declarations.{declaration_sound}
use Rattle.stk_grammar.proofs.DeclarationPunctuators.{left_brace_is, right_brace_is, semicolon_is}
use Rattle.stk_grammar.proofs.Found.{brace_of_end, case_is, default_is, else_is, kind_is, kind_token, while_is}
use Rattle.stk_grammar.proofs.StatementPrints.{prints, prints_all, prints_condition, prints_label, prints_labels, prints_part, prints_parts, prints_section, prints_sections, prints_start}

-- a tree that was found at the front of these tokens, and what stands behind it
pub record Reads {T : Type 0} (text_of : T → List Lexeme → List Lexeme) (is_placed does_fit : T → Bool) (nesting_of : T → ℕ) (room : ℕ) (ts : List Lexeme) (x : T × List Lexeme) : Type 0 where
  pub text : ts ≡ text_of x.0 x.1
  pub placed : is_placed x.0 ≡ true
  pub fits : does_fit x.0 ≡ true
  pub low : nesting_of x.0 ≤ room

-- ---- expressions of statements

abbrev IsCondition : (Span → Bool) → ℕ → List Lexeme → ExprTree × List Lexeme → Type 0
IsCondition named = Reads prints_condition (expression_placed 1) (expression_fits named) expression_nesting

condition_is : (named : Span → Bool) (room : ℕ) (ts : List Lexeme) (x : ExprTree × List Lexeme) → condition_at named room ts ≡ Some x → IsCondition named room ts x
unfolding condition_at
condition_is named room ts x e =
    let l = bind_some (behind_left_paren ts) (condition_on named room) x e in
    let a = bind_some (stopped_at named room 1 l.0) _ x l.2 in
    let b = bind_some (behind_right_paren a.0.1) _ x a.2 in
    let p = (stopped_sound named room 1 l.0 a.0.0 a.0.1 (omega arith) a.1).0 in
    subst (IsCondition named room ts) (some_is (a.0.0, b.0) x b.2) (record {
      text = left_paren_is ts l.0 l.1 ∙ ap (λ r. Token fixed.LeftParen ∷ r) (p.tokens ∙ ap (λ r. expression_tokens a.0.0 ++ r) (right_paren_is a.0.1 b.0 b.1));
      placed = p.placed;
      fits = p.fits;
      low = p.nesting;
    })

abbrev ended_tokens : MaybeExprTree → List Lexeme → List Lexeme
ended_tokens e r = optional_tokens e ++ Token fixed.Semicolon ∷ r

abbrev closed_tokens : MaybeExprTree → List Lexeme → List Lexeme
closed_tokens e r = optional_tokens e ++ Token fixed.RightParen ∷ r

abbrev IsEnded : (Span → Bool) → ℕ → List Lexeme → MaybeExprTree × List Lexeme → Type 0
IsEnded named = Reads ended_tokens optional_placed (maybe_expression_fits named) maybe_expression_nesting

abbrev IsClosed : (Span → Bool) → ℕ → List Lexeme → MaybeExprTree × List Lexeme → Type 0
IsClosed named = Reads closed_tokens optional_placed (maybe_expression_fits named) maybe_expression_nesting

ended_on_is : (named : Span → Bool) (room : ℕ) (o : Option (List Lexeme)) (ts : List Lexeme) (x : MaybeExprTree × List Lexeme) → behind_semicolon ts ≡ o → ended_on named room o ts ≡ Some x → IsEnded named room ts x
ended_on_is named room (Some rest) ts x is e =
    subst (IsEnded named room ts) (some_is (s.no_expression, rest) x e) (record { text = semicolon_is ts rest is; placed = refl; fits = refl; low = omega arith })
ended_on_is named room None ts x is e =
    let a = bind_some (stopped_at named room 1 ts) _ x e in
    let b = bind_some (behind_semicolon a.0.1) _ x a.2 in
    let p = (stopped_sound named room 1 ts a.0.0 a.0.1 (omega arith) a.1).0 in
    subst (IsEnded named room ts) (some_is (s.some_expression a.0.0, b.0) x b.2)
    (record { text = p.tokens ∙ ap (λ r. expression_tokens a.0.0 ++ r) (semicolon_is a.0.1 b.0 b.1); placed = p.placed; fits = p.fits; low = p.nesting })

ended_is : (named : Span → Bool) (room : ℕ) (ts : List Lexeme) (x : MaybeExprTree × List Lexeme) → ended_at named room ts ≡ Some x → IsEnded named room ts x
unfolding ended_at
ended_is named room ts x e = ended_on_is named room (behind_semicolon ts) ts x refl e

closed_on_is : (named : Span → Bool) (room : ℕ) (o : Option (List Lexeme)) (ts : List Lexeme) (x : MaybeExprTree × List Lexeme) → behind_right_paren ts ≡ o → closed_on named room o ts ≡ Some x → IsClosed named room ts x
closed_on_is named room (Some rest) ts x is e =
    subst (IsClosed named room ts) (some_is (s.no_expression, rest) x e) (record { text = right_paren_is ts rest is; placed = refl; fits = refl; low = omega arith })
closed_on_is named room None ts x is e =
    let a = bind_some (stopped_at named room 1 ts) _ x e in
    let b = bind_some (behind_right_paren a.0.1) _ x a.2 in
    let p = (stopped_sound named room 1 ts a.0.0 a.0.1 (omega arith) a.1).0 in
    subst (IsClosed named room ts) (some_is (s.some_expression a.0.0, b.0) x b.2)
    (record { text = p.tokens ∙ ap (λ r. expression_tokens a.0.0 ++ r) (right_paren_is a.0.1 b.0 b.1); placed = p.placed; fits = p.fits; low = p.nesting })

closed_is : (named : Span → Bool) (room : ℕ) (ts : List Lexeme) (x : MaybeExprTree × List Lexeme) → closed_at named room ts ≡ Some x → IsClosed named room ts x
unfolding closed_at
closed_is named room ts x e = closed_on_is named room (behind_right_paren ts) ts x refl e

-- ---- labels

abbrev pub IsLabel : (Span → Bool) → ℕ → List Lexeme → LabelTree × List Lexeme → Type 0
IsLabel named = Reads prints_label label_placed (label_fits named) label_nesting

label_on_is : (named : Span → Bool) (room : ℕ) (o : Option (List Lexeme)) (ts : List Lexeme) (x : LabelTree × List Lexeme) → behind_case ts ≡ o → label_on named room o ts ≡ Some x → IsLabel named room ts x
label_on_is named room (Some inside) ts x is e =
    let a = bind_some (stopped_at named room 3 inside) _ x e in
    let b = bind_some (behind_colon a.0.1) _ x a.2 in
    let p = (stopped_sound named room 3 inside a.0.0 a.0.1 (omega arith) a.1).0 in
    subst (IsLabel named room ts) (some_is (s.case_label a.0.0, b.0) x b.2) (record {
      text = case_is ts inside is ∙ ap (λ r. Token fixed.Case ∷ r) (p.tokens ∙ ap (λ r. expression_tokens a.0.0 ++ r) (colon_is a.0.1 b.0 b.1));
      placed = p.placed;
      fits = p.fits;
      low = p.nesting;
    })
label_on_is named room None ts x is e =
    let a = bind_some (behind_default ts) default_on x e in
    let b = bind_some (behind_colon a.0) _ x a.2 in
    subst (IsLabel named room ts) (some_is (s.default_label, b.0) x b.2)
    (record { text = default_is ts a.0 a.1 ∙ ap (λ r. Token fixed.Default ∷ r) (colon_is a.0 b.0 b.1); placed = refl; fits = refl; low = omega arith })

pub label_is : (named : Span → Bool) (room : ℕ) (ts : List Lexeme) (x : LabelTree × List Lexeme) → label_at named room ts ≡ Some x → IsLabel named room ts x
unfolding label_at
label_is named room ts x e = label_on_is named room (behind_case ts) ts x refl e

-- labels in a row, with no label behind them
record AreLabels (named : Span → Bool) (room : ℕ) (ts : List Lexeme) (x : LabelTrees × List Lexeme) : Type 0 where
  read : Reads prints_labels labels_placed (labels_fit named) labels_nesting room ts x
  behind : begins_label x.1 ≡ false

labels_on_are : (named : Span → Bool) (room : ℕ) (go_on : List Lexeme → Found LabelTrees) (b : Bool) (ts : List Lexeme) (x : LabelTrees × List Lexeme)
    → ((us : List Lexeme) (y : LabelTrees × List Lexeme) → go_on us ≡ Some y → AreLabels named room us y) → begins_label ts ≡ b → labels_on go_on named room b ts ≡ Some x → AreLabels named room ts x
labels_on_are named room go_on false ts x later is e =
    subst (AreLabels named room ts) (some_is (s.no_labels, ts) x e) (record { read = record { text = refl; placed = refl; fits = refl; low = omega arith }; behind = is })
labels_on_are named room go_on true ts x later is e =
    let a = bind_some (label_at named room ts) _ x e in
    let b = bind_some (go_on a.0.1) _ x a.2 in
    let p = label_is named room ts a.0 a.1 in
    let q = later a.0.1 b.0 b.1 in
    let r = q.read in
    subst (AreLabels named room ts) (some_is (s.then_label a.0.0 b.0.0, b.0.1) x b.2) (record {
      read = record { text = p.text ∙ ap (prints_label a.0.0) r.text; placed = true_both _ _ p.placed r.placed; fits = true_both _ _ p.fits r.fits; low = omega (arith, p.low, r.low) };
      behind = q.behind;
    })

labels_are : (named : Span → Bool) (room f : ℕ) (ts : List Lexeme) (x : LabelTrees × List Lexeme) → labels_at named room f ts ≡ Some x → AreLabels named room ts x
unfolding labels_at
labels_are named room zero ts x e = absurd cc
labels_are named room (suc f) ts x e = labels_on_are named room (labels_at named room f) (begins_label ts) ts x (λ us y d. labels_are named room f us y d) refl e

-- ---- statements

-- a statement that was found; no `else` stands behind it that would belong to it
pub record Answers (named : Span → Bool) (room : ℕ) (ts : List Lexeme) (x : StmtTree × List Lexeme) : Type 0 where
  pub text : ts ≡ prints x.0 x.1
  pub placed : statement_placed x.0 ≡ true
  pub fits : statement_fits named x.0 ≡ true
  pub low : statement_nesting x.0 ≤ room
  pub ends : ends_open x.0 ≡ true → behind_else x.1 ≡ None

abbrev pub IsSound : (Span → Bool) → ℕ → StatementReader → Type 0
IsSound named room sub = (ts : List Lexeme) (x : StmtTree × List Lexeme) → sub ts ≡ Some x → Answers named room ts x

abbrev has_statements : SectionTree → Bool
has_statements (s.section n ls body) = some_statements body

-- a section that was found; where it is without statements, the `}` stands behind it
pub record SectionAnswers (named : Span → Bool) (room : ℕ) (ts : List Lexeme) (x : SectionTree × List Lexeme) : Type 0 where
  pub read : Reads prints_section section_placed (section_fits named) section_nesting room ts x
  pub last : has_statements x.0 ≡ false → (rest : List Lexeme) × (behind_right_brace x.1 ≡ Some rest)

abbrev pub IsSectionSound : (Span → Bool) → ℕ → SectionReader → Type 0
IsSectionSound named room section = (ts : List Lexeme) (x : SectionTree × List Lexeme) → section ts ≡ Some x → SectionAnswers named room ts x

-- no `else` stands where the statement before it was found without one
not_open : (b : Bool) (o : Option (List Lexeme)) (x : List Lexeme) → (b ≡ true → o ≡ None) → o ≡ Some x → not b ≡ true
not_open true o x h e = let k = h refl in absurd (cc (k, e))
not_open false o x h e = refl

precedes : (x : SectionTree) (xs : SectionTrees) → (has_statements x ≡ false → xs ≡ s.no_sections) → may_precede x xs ≡ true
precedes x s.no_sections h = refl
precedes (s.section n ls s.no_statements) (s.then_section y ys) h = let k = h refl in absurd cc
precedes (s.section n ls (s.then_statement z zs)) (s.then_section y ys) h = refl

sections_at_end : (section : SectionReader) (f : ℕ) (ts rest : List Lexeme) (x : SectionTrees × List Lexeme) → behind_right_brace ts ≡ Some rest → sections_at section f ts ≡ Some x → x.0 ≡ s.no_sections
unfolding sections_at
sections_at_end section zero ts rest x is e = absurd cc
sections_at_end section (suc f) ts rest x is e =
    ap (λ (y : SectionTrees × List Lexeme). y.0) (sym (some_is (s.no_sections, rest) x (sym (ap (λ o. sections_on (sections_at section f) section o ts) is) ∙ e)))

module _ (named : Span → Bool) (inner : ℕ) (sub : StatementReader) (sound : IsSound named inner sub) where
  -- ---- blocks

  abbrev pub IsPart : List Lexeme → PartTree × List Lexeme → Type 0
  IsPart = Reads prints_part part_placed (part_fits named) part_nesting inner

  -- a part
  part_on_is : (b : Bool) (ts : List Lexeme) (x : PartTree × List Lexeme) → part_on named inner sub b ts ≡ Some x → IsPart ts x
  part_on_is true ts x e =
      let a = bind_some (declaration_at named false inner ts) _ x e in
      let p = (declaration_sound named false inner ts a.0.0 a.0.1 a.1).0 in
      subst (IsPart ts) (some_is (s.local a.0.0, a.0.1) x a.2) (record { text = p.tokens; placed = p.placed; fits = p.fits; low = p.nesting })
  part_on_is false ts x e =
      let a = bind_some (sub ts) _ x e in
      let p = sound ts a.0 a.1 in
      subst (IsPart ts) (some_is (s.run a.0.0, a.0.1) x a.2) (record { text = p.text; placed = p.placed; fits = p.fits; low = p.low })

  pub part_is : (ts : List Lexeme) (x : PartTree × List Lexeme) → part_at named inner sub ts ≡ Some x → IsPart ts x
  unfolding part_at
  part_is ts x e = part_on_is (begins_local named ts) ts x e

  abbrev block_tokens : PartTrees → List Lexeme → List Lexeme
  block_tokens ps r = prints_parts ps (Token fixed.RightBrace ∷ r)

  abbrev AreParts : List Lexeme → PartTrees × List Lexeme → Type 0
  AreParts = Reads block_tokens parts_placed (parts_fit named) parts_nesting inner

  parts_on_are : (go_on : List Lexeme → Found PartTrees) (o : Option (List Lexeme)) (ts : List Lexeme) (x : PartTrees × List Lexeme)
      → ((us : List Lexeme) (y : PartTrees × List Lexeme) → go_on us ≡ Some y → AreParts us y) → behind_right_brace ts ≡ o → parts_on go_on named inner sub o ts ≡ Some x → AreParts ts x
  parts_on_are go_on (Some rest) ts x later is e =
      subst (AreParts ts) (some_is (s.no_parts, rest) x e) (record { text = right_brace_is ts rest is; placed = refl; fits = refl; low = omega arith })
  parts_on_are go_on None ts x later is e =
      let a = bind_some (part_at named inner sub ts) _ x e in
      let b = bind_some (go_on a.0.1) _ x a.2 in
      let p = part_is ts a.0 a.1 in
      let q = later a.0.1 b.0 b.1 in
      subst (AreParts ts) (some_is (s.then_part a.0.0 b.0.0, b.0.1) x b.2)
      (record { text = p.text ∙ ap (prints_part a.0.0) q.text; placed = true_both _ _ p.placed q.placed; fits = true_both _ _ p.fits q.fits; low = omega (arith, p.low, q.low) })

  parts_are : (f : ℕ) (ts : List Lexeme) (x : PartTrees × List Lexeme) → parts_at named inner sub f ts ≡ Some x → AreParts ts x
  unfolding parts_at
  parts_are zero ts x e = absurd cc
  parts_are (suc f) ts x e = parts_on_are (parts_at named inner sub f) (behind_right_brace ts) ts x (λ us y d. parts_are f us y d) refl e

  block_sound : (ts : List Lexeme) (x : StmtTree × List Lexeme) → block_at named inner sub ts ≡ Some x → Answers named (suc inner) (Token fixed.LeftBrace ∷ ts) x
  unfolding block_at
  block_sound ts x e =
      let a = bind_some (parts_at named inner sub (suc (length ts)) ts) _ x e in
      let p = parts_are (suc (length ts)) ts a.0 a.1 in
      subst (Answers named (suc inner) (Token fixed.LeftBrace ∷ ts)) (some_is (made_statement (s.block a.0.0), a.0.1) x a.2)
      (record { text = ap (λ r. Token fixed.LeftBrace ∷ r) p.text; placed = p.placed; fits = p.fits; low = omega (arith, p.low); ends = λ h. absurd cc })

  -- ---- the statements of a section

  record AreAll (ts : List Lexeme) (x : StmtTrees × List Lexeme) : Type 0 where
    read : Reads prints_all statements_placed (statements_fit named) statements_nesting inner ts x
    behind : ends_section x.1 ≡ true
    stays : some_statements x.0 ≡ false → x.1 ≡ ts

  statements_on_are : (go_on : List Lexeme → Found StmtTrees) (b : Bool) (ts : List Lexeme) (x : StmtTrees × List Lexeme)
      → ((us : List Lexeme) (y : StmtTrees × List Lexeme) → go_on us ≡ Some y → AreAll us y) → ends_section ts ≡ b → statements_on go_on sub b ts ≡ Some x → AreAll ts x
  statements_on_are go_on true ts x later is e =
      subst (AreAll ts) (some_is (s.no_statements, ts) x e) (record { read = record { text = refl; placed = refl; fits = refl; low = omega arith }; behind = is; stays = λ h. refl })
  statements_on_are go_on false ts x later is e =
      let a = bind_some (sub ts) _ x e in
      let b = bind_some (go_on a.0.1) _ x a.2 in
      let p = sound ts a.0 a.1 in
      let q = later a.0.1 b.0 b.1 in
      let r = q.read in
      subst (AreAll ts) (some_is (s.then_statement a.0.0 b.0.0, b.0.1) x b.2) (record {
        read = record { text = p.text ∙ ap (prints a.0.0) r.text; placed = true_both _ _ p.placed r.placed; fits = true_both _ _ p.fits r.fits; low = omega (arith, p.low, r.low) };
        behind = q.behind;
        stays = λ h. absurd cc;
      })

  statements_are : (f : ℕ) (ts : List Lexeme) (x : StmtTrees × List Lexeme) → statements_at sub f ts ≡ Some x → AreAll ts x
  unfolding statements_at
  statements_are zero ts x e = absurd cc
  statements_are (suc f) ts x e = statements_on_are (statements_at sub f) (ends_section ts) ts x (λ us y d. statements_are f us y d) refl e

  section_sound : (ts : List Lexeme) (x : SectionTree × List Lexeme) → section_of named inner sub ts ≡ Some x → SectionAnswers named (suc inner) ts x
  unfolding section_of
  section_sound ts x e =
      let l = bind_some (label_at named inner ts) (λ l. labels_at named inner (suc (length l.1)) l.1 >>= λ ls. section_on sub l.0 ls.0 ls.1) x e in
      let m = bind_some (labels_at named inner (suc (length l.0.1)) l.0.1) (λ ls. section_on sub l.0.0 ls.0 ls.1) x l.2 in
      let b = bind_some (statements_at sub (suc (length m.0.1)) m.0.1) _ x m.2 in
      let p = label_is named inner ts l.0 l.1 in
      let q = labels_are named inner (suc (length l.0.1)) l.0.1 m.0 m.1 in
      let r = statements_are (suc (length m.0.1)) m.0.1 b.0 b.1 in
      let labels_read = q.read in
      let body_read = r.read in
      subst (SectionAnswers named (suc inner) ts) (some_is (s.section no_node (s.then_label l.0.0 m.0.0) b.0.0, b.0.1) x b.2) (record {
        read = record {
          text = p.text ∙ ap (prints_label l.0.0) (labels_read.text ∙ ap (prints_labels m.0.0) body_read.text);
          placed = true_both _ _ (true_both _ _ p.placed labels_read.placed) body_read.placed;
          fits = true_both _ _ (true_both _ _ p.fits labels_read.fits) body_read.fits;
          low = omega (arith, p.low, labels_read.low, body_read.low);
        };
        last = λ h. brace_of_end b.0.1 r.behind (ap begins_label (r.stays h) ∙ q.behind);
      })

  -- ---- conditions, loops and jumps

  else_sound : (e : ExprTree) (y : StmtTree) (ts : List Lexeme) (o : Option (List Lexeme)) (x : StmtTree × List Lexeme) → expression_placed 1 e ≡ true → expression_fits named e ≡ true → expression_nesting e ≤ inner
      → statement_placed y ≡ true → statement_fits named y ≡ true → statement_nesting y ≤ inner → (ends_open y ≡ true → behind_else ts ≡ None) → behind_else ts ≡ o → else_on sub e y o ts ≡ Some x
      → Answers named (suc inner) (Token fixed.If ∷ prints_condition e (prints y ts)) x
  else_sound c y ts None x pc qc hc p q h ends is e =
      subst (Answers named (suc inner) (Token fixed.If ∷ prints_condition c (prints y ts))) (some_is (made_statement (s.if_statement c y s.no_statement), ts) x e)
      (record { text = refl; placed = true_both _ _ pc p; fits = true_both _ _ (true_both _ _ qc q) refl; low = omega (arith, hc, h); ends = λ _. is })
  else_sound c y ts (Some rest) x pc qc hc p q h ends is e =
      let b = bind_some (sub rest) _ x e in
      let r = sound rest b.0 b.1 in
      subst (Answers named (suc inner) (Token fixed.If ∷ prints_condition c (prints y ts))) (some_is (made_statement (s.if_statement c y (s.some_statement b.0.0)), b.0.1) x b.2) (record {
        text = ap (λ z. Token fixed.If ∷ prints_condition c (prints y z)) (else_is ts rest is ∙ ap (λ z. Token fixed.Else ∷ z) r.text);
        placed = true_both _ _ (true_both _ _ (true_both _ _ pc p) (not_open (ends_open y) (behind_else ts) rest ends is)) r.placed;
        fits = true_both _ _ (true_both _ _ qc q) r.fits;
        low = omega (arith, hc, h, r.low);
        ends = r.ends;
      })

  if_sound : (ts : List Lexeme) (x : StmtTree × List Lexeme) → if_at named inner sub ts ≡ Some x → Answers named (suc inner) (Token fixed.If ∷ ts) x
  unfolding if_at
  if_sound ts x e =
      let c = bind_some (condition_at named inner ts) _ x e in
      let a = bind_some (sub c.0.1) _ x c.2 in
      let p = condition_is named inner ts c.0 c.1 in
      let q = sound c.0.1 a.0 a.1 in
      subst (λ (r : List Lexeme). Answers named (suc inner) r x) (sym (ap (λ r. Token fixed.If ∷ r) (p.text ∙ ap (prints_condition c.0.0) q.text)))
      (else_sound c.0.0 a.0.0 a.0.1 (behind_else a.0.1) x p.placed p.fits p.low q.placed q.fits q.low q.ends refl a.2)

  while_sound : (ts : List Lexeme) (x : StmtTree × List Lexeme) → while_at named inner sub ts ≡ Some x → Answers named (suc inner) (Token fixed.While ∷ ts) x
  unfolding while_at
  while_sound ts x e =
      let c = bind_some (condition_at named inner ts) _ x e in
      let a = bind_some (sub c.0.1) _ x c.2 in
      let p = condition_is named inner ts c.0 c.1 in
      let q = sound c.0.1 a.0 a.1 in
      subst (Answers named (suc inner) (Token fixed.While ∷ ts)) (some_is (made_statement (s.while_statement c.0.0 a.0.0), a.0.1) x a.2) (record {
        text = ap (λ r. Token fixed.While ∷ r) (p.text ∙ ap (prints_condition c.0.0) q.text);
        placed = true_both _ _ p.placed q.placed;
        fits = true_both _ _ p.fits q.fits;
        low = omega (arith, p.low, q.low);
        ends = q.ends;
      })

  do_sound : (ts : List Lexeme) (x : StmtTree × List Lexeme) → do_at named inner sub ts ≡ Some x → Answers named (suc inner) (Token fixed.Do ∷ ts) x
  unfolding do_at
  do_sound ts x e =
      let a = bind_some (sub ts) _ x e in
      let w = bind_some (behind_while a.0.1) (do_on named inner a.0.0) x a.2 in
      let c = bind_some (condition_at named inner w.0) _ x w.2 in
      let b = bind_some (behind_semicolon c.0.1) _ x c.2 in
      let p = condition_is named inner w.0 c.0 c.1 in
      let q = sound ts a.0 a.1 in
      subst (Answers named (suc inner) (Token fixed.Do ∷ ts)) (some_is (made_statement (s.do_statement a.0.0 c.0.0), b.0) x b.2) (record {
        text = ap (λ r. Token fixed.Do ∷ r) (q.text ∙ ap (prints a.0.0) (while_is a.0.1 w.0 w.1 ∙ ap (λ r. Token fixed.While ∷ r) (p.text ∙ ap (prints_condition c.0.0) (semicolon_is c.0.1 b.0 b.1))));
        placed = true_both _ _ q.placed p.placed;
        fits = true_both _ _ q.fits p.fits;
        low = omega (arith, p.low, q.low);
        ends = λ h. absurd cc;
      })

  abbrev IsFirst : List Lexeme → StartTree × List Lexeme → Type 0
  IsFirst = Reads prints_start start_placed (start_fits named) start_nesting inner

  start_on_is : (b : Bool) (ts : List Lexeme) (x : StartTree × List Lexeme) → start_on named inner b ts ≡ Some x → IsFirst ts x
  start_on_is true ts x e =
      let a = bind_some (declaration_at named false inner ts) _ x e in
      let p = (declaration_sound named false inner ts a.0.0 a.0.1 a.1).0 in
      subst (IsFirst ts) (some_is (s.start_declaration a.0.0, a.0.1) x a.2) (record { text = p.tokens; placed = p.placed; fits = p.fits; low = p.nesting })
  start_on_is false ts x e =
      let a = bind_some (ended_at named inner ts) _ x e in
      let p = ended_is named inner ts a.0 a.1 in
      subst (IsFirst ts) (some_is (s.start_expression a.0.0, a.0.1) x a.2) (record { text = p.text; placed = p.placed; fits = p.fits; low = p.low })

  start_is : (ts : List Lexeme) (x : StartTree × List Lexeme) → start_at named inner ts ≡ Some x → IsFirst ts x
  unfolding start_at
  start_is ts x e = start_on_is (begins_local named ts) ts x e

  for_on_sound : (ts all : List Lexeme) (first : StartTree) (x : StmtTree × List Lexeme) → IsFirst all (first, ts) → for_on named inner sub first ts ≡ Some x → Answers named (suc inner) (Token fixed.For ∷ Token fixed.LeftParen ∷ all) x
  unfolding for_on
  for_on_sound ts all first x f e =
      let test = bind_some (ended_at named inner ts) _ x e in
      let step = bind_some (closed_at named inner test.0.1) _ x test.2 in
      let a = bind_some (sub step.0.1) _ x step.2 in
      let p = ended_is named inner ts test.0 test.1 in
      let q = closed_is named inner test.0.1 step.0 step.1 in
      let r = sound step.0.1 a.0 a.1 in
      subst (Answers named (suc inner) (Token fixed.For ∷ Token fixed.LeftParen ∷ all)) (some_is (made_statement (s.for_statement first test.0.0 step.0.0 a.0.0), a.0.1) x a.2) (record {
        text = ap (λ z. Token fixed.For ∷ Token fixed.LeftParen ∷ z) (f.text ∙ ap (prints_start first) (p.text ∙ ap (ended_tokens test.0.0) (q.text ∙ ap (closed_tokens step.0.0) r.text)));
        placed = true_both _ _ (true_both _ _ (true_both _ _ f.placed p.placed) q.placed) r.placed;
        fits = true_both _ _ (true_both _ _ (true_both _ _ f.fits p.fits) q.fits) r.fits;
        low = omega (arith, f.low, p.low, q.low, r.low);
        ends = r.ends;
      })

  for_sound : (ts : List Lexeme) (x : StmtTree × List Lexeme) → for_at named inner sub ts ≡ Some x → Answers named (suc inner) (Token fixed.For ∷ ts) x
  unfolding for_at
  for_sound ts x e =
      let l = bind_some (behind_left_paren ts) (λ inside. start_at named inner inside >>= λ first. for_on named inner sub first.0 first.1) x e in
      let f = bind_some (start_at named inner l.0) (λ first. for_on named inner sub first.0 first.1) x l.2 in
      subst (λ (r : List Lexeme). Answers named (suc inner) (Token fixed.For ∷ r) x) (sym (left_paren_is ts l.0 l.1)) (for_on_sound f.0.1 l.0 f.0.0 x (start_is l.0 f.0 f.1) f.2)

  return_sound : (ts : List Lexeme) (x : StmtTree × List Lexeme) → return_at named inner ts ≡ Some x → Answers named (suc inner) (Token fixed.Return ∷ ts) x
  unfolding return_at
  return_sound ts x e =
      let a = bind_some (ended_at named inner ts) _ x e in
      let p = ended_is named inner ts a.0 a.1 in
      subst (Answers named (suc inner) (Token fixed.Return ∷ ts)) (some_is (made_statement (s.return_statement a.0.0), a.0.1) x a.2)
      (record { text = ap (λ r. Token fixed.Return ∷ r) p.text; placed = p.placed; fits = p.fits; low = omega (arith, p.low); ends = λ h. absurd cc })

  plain_sound : (ts : List Lexeme) (x : StmtTree × List Lexeme) → plain_at named inner ts ≡ Some x → Answers named (suc inner) ts x
  unfolding plain_at
  plain_sound ts x e =
      let a = bind_some (ended_at named inner ts) _ x e in
      let p = ended_is named inner ts a.0 a.1 in
      subst (Answers named (suc inner) ts) (some_is (made_statement (s.expression_statement a.0.0), a.0.1) x a.2)
      (record { text = p.text; placed = p.placed; fits = p.fits; low = omega (arith, p.low); ends = λ h. absurd cc })

  break_sound : (ts : List Lexeme) (x : StmtTree × List Lexeme) → word_statement s.break_statement ts ≡ Some x → Answers named (suc inner) (Token fixed.Break ∷ ts) x
  break_sound ts x e =
      let a = bind_some (behind_semicolon ts) _ x e in
      subst (Answers named (suc inner) (Token fixed.Break ∷ ts)) (some_is (made_statement s.break_statement, a.0) x a.2)
      (record { text = ap (λ r. Token fixed.Break ∷ r) (semicolon_is ts a.0 a.1); placed = refl; fits = refl; low = omega arith; ends = λ h. absurd cc })

  continue_sound : (ts : List Lexeme) (x : StmtTree × List Lexeme) → word_statement s.continue_statement ts ≡ Some x → Answers named (suc inner) (Token fixed.Continue ∷ ts) x
  continue_sound ts x e =
      let a = bind_some (behind_semicolon ts) _ x e in
      subst (Answers named (suc inner) (Token fixed.Continue ∷ ts)) (some_is (made_statement s.continue_statement, a.0) x a.2)
      (record { text = ap (λ r. Token fixed.Continue ∷ r) (semicolon_is ts a.0 a.1); placed = refl; fits = refl; low = omega arith; ends = λ h. absurd cc })

-- ---- sections in a row

module _ (named : Span → Bool) (inner : ℕ) (section : SectionReader) (sound : IsSectionSound named inner section) where
  abbrev switch_tokens : SectionTrees → List Lexeme → List Lexeme
  switch_tokens xs r = prints_sections xs (Token fixed.RightBrace ∷ r)

  abbrev AreSections : List Lexeme → SectionTrees × List Lexeme → Type 0
  AreSections = Reads switch_tokens sections_placed (sections_fit named) sections_nesting inner

  sections_on_are : (go_on : List Lexeme → Found SectionTrees) (o : Option (List Lexeme)) (ts : List Lexeme) (x : SectionTrees × List Lexeme)
      → ((us : List Lexeme) (y : SectionTrees × List Lexeme) → go_on us ≡ Some y → AreSections us y)
      → ((us rest : List Lexeme) (y : SectionTrees × List Lexeme) → behind_right_brace us ≡ Some rest → go_on us ≡ Some y → y.0 ≡ s.no_sections)
      → behind_right_brace ts ≡ o → sections_on go_on section o ts ≡ Some x → AreSections ts x
  sections_on_are go_on (Some rest) ts x later last is e =
      subst (AreSections ts) (some_is (s.no_sections, rest) x e) (record { text = right_brace_is ts rest is; placed = refl; fits = refl; low = omega arith })
  sections_on_are go_on None ts x later last is e =
      let a = bind_some (section ts) _ x e in
      let b = bind_some (go_on a.0.1) _ x a.2 in
      let p = sound ts a.0 a.1 in
      let q = later a.0.1 b.0 b.1 in
      let r = p.read in
      let first = precedes a.0.0 b.0.0 (λ h. last a.0.1 (p.last h).0 b.0 (p.last h).1 b.1) in
      subst (AreSections ts) (some_is (s.then_section a.0.0 b.0.0, b.0.1) x b.2) (record {
        text = r.text ∙ ap (prints_section a.0.0) q.text;
        placed = true_both _ _ (true_both _ _ first r.placed) q.placed;
        fits = true_both _ _ r.fits q.fits;
        low = omega (arith, r.low, q.low);
      })

  sections_are : (f : ℕ) (ts : List Lexeme) (x : SectionTrees × List Lexeme) → sections_at section f ts ≡ Some x → AreSections ts x
  unfolding sections_at
  sections_are zero ts x e = absurd cc
  sections_are (suc f) ts x e =
      sections_on_are (sections_at section f) (behind_right_brace ts) ts x (λ us y d. sections_are f us y d) (λ us rest y k d. sections_at_end section f us rest y k d) refl e

  switch_sound : (ts : List Lexeme) (x : StmtTree × List Lexeme) → switch_at named inner section ts ≡ Some x → Answers named (suc inner) (Token fixed.Switch ∷ ts) x
  unfolding switch_at
  switch_sound ts x e =
      let c = bind_some (condition_at named inner ts) (λ e. behind_left_brace e.1 >>= switch_on section e.0) x e in
      let l = bind_some (behind_left_brace c.0.1) (switch_on section c.0.0) x c.2 in
      let a = bind_some (sections_at section (suc (length l.0)) l.0) _ x l.2 in
      let p = condition_is named inner ts c.0 c.1 in
      let q = sections_are (suc (length l.0)) l.0 a.0 a.1 in
      subst (Answers named (suc inner) (Token fixed.Switch ∷ ts)) (some_is (made_statement (s.switch_statement c.0.0 a.0.0), a.0.1) x a.2) (record {
        text = ap (λ r. Token fixed.Switch ∷ r) (p.text ∙ ap (prints_condition c.0.0) (left_brace_is c.0.1 l.0 l.1 ∙ ap (λ r. Token fixed.LeftBrace ∷ r) q.text));
        placed = true_both _ _ p.placed q.placed;
        fits = true_both _ _ p.fits q.fits;
        low = omega (arith, p.low, q.low);
        ends = λ h. absurd cc;
      })

-- ---- all kinds

by_kind : (named : Span → Bool) (room : ℕ) (ts : List Lexeme) (k : Kind) (x : StmtTree × List Lexeme) → kind_at ts ≡ k → (k ≡ kind.Plain → ⊥) → Answers named room (Token (kind_token k) ∷ behind_first ts) x → Answers named room ts x
by_kind named room ts k x is h a = subst (λ (r : List Lexeme). Answers named room r x) (sym (kind_is ts k is h)) a

module _ (named : Span → Bool) (inner : ℕ) (sub : StatementReader) (section : SectionReader) (sound : IsSound named inner sub) (section_sound_in : IsSectionSound named inner section) where
  on_sound : (ts : List Lexeme) (k : Kind) (x : StmtTree × List Lexeme) → kind_at ts ≡ k → statement_on named inner sub section k ts ≡ Some x → Answers named (suc inner) ts x
  on_sound ts kind.Block x is e = by_kind named (suc inner) ts kind.Block x is (λ h. cc) (block_sound named inner sub sound (behind_first ts) x e)
  on_sound ts kind.If x is e = by_kind named (suc inner) ts kind.If x is (λ h. cc) (if_sound named inner sub sound (behind_first ts) x e)
  on_sound ts kind.Switch x is e = by_kind named (suc inner) ts kind.Switch x is (λ h. cc) (switch_sound named inner section section_sound_in (behind_first ts) x e)
  on_sound ts kind.While x is e = by_kind named (suc inner) ts kind.While x is (λ h. cc) (while_sound named inner sub sound (behind_first ts) x e)
  on_sound ts kind.Do x is e = by_kind named (suc inner) ts kind.Do x is (λ h. cc) (do_sound named inner sub sound (behind_first ts) x e)
  on_sound ts kind.For x is e = by_kind named (suc inner) ts kind.For x is (λ h. cc) (for_sound named inner sub sound (behind_first ts) x e)
  on_sound ts kind.Break x is e = by_kind named (suc inner) ts kind.Break x is (λ h. cc) (break_sound named inner sub sound (behind_first ts) x e)
  on_sound ts kind.Continue x is e = by_kind named (suc inner) ts kind.Continue x is (λ h. cc) (continue_sound named inner sub sound (behind_first ts) x e)
  on_sound ts kind.Return x is e = by_kind named (suc inner) ts kind.Return x is (λ h. cc) (return_sound named inner sub sound (behind_first ts) x e)
  on_sound ts kind.Plain x is e = plain_sound named inner sub sound ts x e

module _ (named : Span → Bool) where
  mutual
    unfolding statement_at

    pub statement_sound : (room : ℕ) → IsSound named room (statement_at named room)
    statement_sound zero ts x e = absurd cc
    statement_sound (suc inner) ts x e =
        on_sound named inner (statement_at named inner) (section_at named inner) (statement_sound inner) (section_at_sound inner) ts (kind_at ts) x refl e

    pub section_at_sound : (room : ℕ) → IsSectionSound named room (section_at named room)
    section_at_sound zero ts x e = absurd cc
    section_at_sound (suc inner) ts x e = section_sound named inner (statement_at named inner) (statement_sound inner) ts x e
