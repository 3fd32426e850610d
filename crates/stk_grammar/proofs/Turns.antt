-- One turn of each row, as a loop takes it: the element that was found, before what the next turns find.
use Rattle.std.proofs.Common.{◌≡◌, ℕ, zero, suc, ◌<◌, Bool, true, false, List, Some, None, refl, arith}
use Rattle.stk_base.specs.declared.span.Span.{Span}
use Rattle.stk_tree.specs.declared.fixed.Lexeme.{Lexeme}
use Rattle.stk_tree.specs.Syntax.{LabelTree, LabelTrees, PartTree, PartTrees, SectionTree, SectionTrees, StmtTree, StmtTrees}
use Rattle.stk_tree.specs.Syntax as s
use Rattle.stk_grammar.specs.Reading.{◌>>=◌, behind_right_brace}
use Rattle.stk_grammar.specs.StatementReading.{SectionReader, StatementReader, begins_label, ends_section, label_at, labels_at, part_at, parts_at, sections_at, statements_at}

-- ---- the parts of a block

pub parts_turn : (named : Span → Bool) (inner f : ℕ) (sub : StatementReader) (x : PartTree) (ts rest : List Lexeme) → behind_right_brace ts ≡ None → part_at named inner sub ts ≡ Some (x, rest)
    → parts_at named inner sub (suc f) ts ≡ (parts_at named inner sub f rest >>= λ xs. Some (s.then_part x xs.0, xs.1))
unfolding parts_at
parts_turn named inner f sub x ts rest is e = rw (is, e) refl

pub parts_none : (named : Span → Bool) (inner f : ℕ) (sub : StatementReader) (ts : List Lexeme) → behind_right_brace ts ≡ None → part_at named inner sub ts ≡ None → parts_at named inner sub f ts ≡ None
unfolding parts_at
parts_none named inner zero sub ts is e = refl
parts_none named inner (suc f) sub ts is e = rw (is, e) refl

pub parts_stop : (named : Span → Bool) (inner f : ℕ) (sub : StatementReader) (ts rest : List Lexeme) → 0 < f → behind_right_brace ts ≡ Some rest → parts_at named inner sub f ts ≡ Some (s.no_parts, rest)
unfolding parts_at
parts_stop named inner zero sub ts rest much is = absurd (omega arith)
parts_stop named inner (suc f) sub ts rest much is = rw is refl

-- ---- the labels of a section

pub labels_turn : (named : Span → Bool) (inner f : ℕ) (x : LabelTree) (ts rest : List Lexeme) → begins_label ts ≡ true → label_at named inner ts ≡ Some (x, rest)
    → labels_at named inner (suc f) ts ≡ (labels_at named inner f rest >>= λ xs. Some (s.then_label x xs.0, xs.1))
unfolding labels_at
labels_turn named inner f x ts rest is e = rw (is, e) refl

pub labels_none : (named : Span → Bool) (inner f : ℕ) (ts : List Lexeme) → begins_label ts ≡ true → label_at named inner ts ≡ None → labels_at named inner f ts ≡ None
unfolding labels_at
labels_none named inner zero ts is e = refl
labels_none named inner (suc f) ts is e = rw (is, e) refl

pub labels_stop : (named : Span → Bool) (inner f : ℕ) (ts : List Lexeme) → 0 < f → begins_label ts ≡ false → labels_at named inner f ts ≡ Some (s.no_labels, ts)
unfolding labels_at
labels_stop named inner zero ts much is = absurd (omega arith)
labels_stop named inner (suc f) ts much is = rw is refl

-- ---- the statements of a section

pub statements_turn : (sub : StatementReader) (f : ℕ) (x : StmtTree) (ts rest : List Lexeme) → ends_section ts ≡ false → sub ts ≡ Some (x, rest)
    → statements_at sub (suc f) ts ≡ (statements_at sub f rest >>= λ xs. Some (s.then_statement x xs.0, xs.1))
unfolding statements_at
statements_turn sub f x ts rest is e = rw (is, e) refl

pub statements_none : (sub : StatementReader) (f : ℕ) (ts : List Lexeme) → ends_section ts ≡ false → sub ts ≡ None → statements_at sub f ts ≡ None
unfolding statements_at
statements_none sub zero ts is e = refl
statements_none sub (suc f) ts is e = rw (is, e) refl

pub statements_stop : (sub : StatementReader) (f : ℕ) (ts : List Lexeme) → 0 < f → ends_section ts ≡ true → statements_at sub f ts ≡ Some (s.no_statements, ts)
unfolding statements_at
statements_stop sub zero ts much is = absurd (omega arith)
statements_stop sub (suc f) ts much is = rw is refl

-- ---- the sections of a `switch`

pub sections_turn : (section : SectionReader) (f : ℕ) (x : SectionTree) (ts rest : List Lexeme) → behind_right_brace ts ≡ None → section ts ≡ Some (x, rest)
    → sections_at section (suc f) ts ≡ (sections_at section f rest >>= λ xs. Some (s.then_section x xs.0, xs.1))
unfolding sections_at
sections_turn section f x ts rest is e = rw (is, e) refl

pub sections_none : (section : SectionReader) (f : ℕ) (ts : List Lexeme) → behind_right_brace ts ≡ None → section ts ≡ None → sections_at section f ts ≡ None
unfolding sections_at
sections_none section zero ts is e = refl
sections_none section (suc f) ts is e = rw (is, e) refl

pub sections_stop : (section : SectionReader) (f : ℕ) (ts rest : List Lexeme) → 0 < f → behind_right_brace ts ≡ Some rest → sections_at section f ts ≡ Some (s.no_sections, rest)
unfolding sections_at
sections_stop section zero ts rest much is = absurd (omega arith)
sections_stop section (suc f) ts rest much is = rw is refl
