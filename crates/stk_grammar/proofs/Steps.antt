-- One step of each reader, where its parts are read.
use Rattle.std.proofs.Common.{◌≡◌, ℕ, suc, Bool, true, false, List, ◌∷◌, length, Some, None, refl, ap, ◌∙◌}
use Rattle.stk_base.specs.declared.span.Span.{Span}
use Rattle.stk_tree.specs.declared.fixed.Fixed.TheVariants as fixed
use Rattle.stk_tree.specs.declared.fixed.Lexeme.{Lexeme}
use Rattle.stk_tree.specs.declared.fixed.Lexeme.TheVariants.{Fixed as Token}
use Rattle.stk_tree.specs.Syntax.{DeclarationTree, ExprTree, LabelTree, LabelTrees, MaybeExprTree, PartTree, PartTrees, SectionTree, SectionTrees, StartTree, StmtTree, StmtTrees}
use Rattle.stk_tree.specs.Syntax as s
use Rattle.stk_tree.specs.Unlaid.{no_node}
use Rattle.stk_grammar.specs.Reading.{◌>>=◌, Found, behind_right_brace}
use Rattle.stk_grammar.specs.DeclarationReading.{declaration_at}
use Rattle.stk_grammar.specs.StatementReading.{SectionReader, StatementReader, begins_label, begins_local, behind_else, block_at, closed_at, condition_at, do_at, ended_at, ends_section, for_at, for_on, if_at, kind_at, label_at, labels_at, made_statement, part_at, parts_at, plain_at, return_at, section_at, section_of, sections_at, start_at, statement_at, statement_on, statements_at, switch_at, while_at}
use Rattle.stk_grammar.specs.declared.statement_tables.Kind.TheVariants as kind

-- ---- rows

pub part_local : (named : Span → Bool) (inner : ℕ) (sub : StatementReader) (d : DeclarationTree) (ts rest : List Lexeme) → begins_local named ts ≡ true → declaration_at named false inner ts ≡ Some (d, rest)
    → part_at named inner sub ts ≡ Some (s.local d, rest)
unfolding part_at
part_local named inner sub d ts rest is e = rw (is, e) refl

pub part_run : (named : Span → Bool) (inner : ℕ) (sub : StatementReader) (x : StmtTree) (ts rest : List Lexeme) → begins_local named ts ≡ false → sub ts ≡ Some (x, rest)
    → part_at named inner sub ts ≡ Some (s.run x, rest)
unfolding part_at
part_run named inner sub x ts rest is e = rw (is, e) refl

pub parts_next : (named : Span → Bool) (inner f : ℕ) (sub : StatementReader) (x : PartTree) (xs : PartTrees) (ts next rest : List Lexeme) → behind_right_brace ts ≡ None → part_at named inner sub ts ≡ Some (x, next)
    → parts_at named inner sub f next ≡ Some (xs, rest) → parts_at named inner sub (suc f) ts ≡ Some (s.then_part x xs, rest)
unfolding parts_at
parts_next named inner f sub x xs ts next rest is e later = rw (is, e, later) refl

pub parts_end : (named : Span → Bool) (inner f : ℕ) (sub : StatementReader) (rest : List Lexeme) → parts_at named inner sub (suc f) (Token fixed.RightBrace ∷ rest) ≡ Some (s.no_parts, rest)
unfolding parts_at
parts_end named inner f sub rest = refl

pub labels_next : (named : Span → Bool) (inner f : ℕ) (x : LabelTree) (xs : LabelTrees) (ts next rest : List Lexeme) → begins_label ts ≡ true → label_at named inner ts ≡ Some (x, next)
    → labels_at named inner f next ≡ Some (xs, rest) → labels_at named inner (suc f) ts ≡ Some (s.then_label x xs, rest)
unfolding labels_at
labels_next named inner f x xs ts next rest is e later = rw (is, e, later) refl

pub labels_end : (named : Span → Bool) (inner f : ℕ) (rest : List Lexeme) → begins_label rest ≡ false → labels_at named inner (suc f) rest ≡ Some (s.no_labels, rest)
unfolding labels_at
labels_end named inner f rest is = rw is refl

pub statements_next : (sub : StatementReader) (f : ℕ) (x : StmtTree) (xs : StmtTrees) (ts next rest : List Lexeme) → ends_section ts ≡ false → sub ts ≡ Some (x, next)
    → statements_at sub f next ≡ Some (xs, rest) → statements_at sub (suc f) ts ≡ Some (s.then_statement x xs, rest)
unfolding statements_at
statements_next sub f x xs ts next rest is e later = rw (is, e, later) refl

pub statements_end : (sub : StatementReader) (f : ℕ) (rest : List Lexeme) → ends_section rest ≡ true → statements_at sub (suc f) rest ≡ Some (s.no_statements, rest)
unfolding statements_at
statements_end sub f rest is = rw is refl

pub section_read : (named : Span → Bool) (inner : ℕ) (l : LabelTree) (ls : LabelTrees) (body : StmtTrees) (ts a b rest : List Lexeme) → label_at named inner ts ≡ Some (l, a) → labels_at named inner (suc (length a)) a ≡ Some (ls, b)
    → statements_at (statement_at named inner) (suc (length b)) b ≡ Some (body, rest) → section_at named (suc inner) ts ≡ Some (s.section no_node (s.then_label l ls) body, rest)
unfolding statement_at section_of
section_read named inner l ls body ts a b rest e d c = rw (e, d, c) refl

pub sections_next : (section : SectionReader) (f : ℕ) (x : SectionTree) (xs : SectionTrees) (ts next rest : List Lexeme) → behind_right_brace ts ≡ None → section ts ≡ Some (x, next)
    → sections_at section f next ≡ Some (xs, rest) → sections_at section (suc f) ts ≡ Some (s.then_section x xs, rest)
unfolding sections_at
sections_next section f x xs ts next rest is e later = rw (is, e, later) refl

pub sections_end : (section : SectionReader) (f : ℕ) (rest : List Lexeme) → sections_at section (suc f) (Token fixed.RightBrace ∷ rest) ≡ Some (s.no_sections, rest)
unfolding sections_at
sections_end section f rest = refl

-- ---- statements

pub block_read : (named : Span → Bool) (n : ℕ) (ps : PartTrees) (ts rest : List Lexeme) → parts_at named n (statement_at named n) (suc (length ts)) ts ≡ Some (ps, rest)
    → statement_at named (suc n) (Token fixed.LeftBrace ∷ ts) ≡ Some (made_statement (s.block ps), rest)
unfolding statement_at block_at
block_read named n ps ts rest e = ap (λ (x : Found PartTrees). x >>= λ ps. Some (made_statement (s.block ps.0), ps.1)) e

pub plain_read : (named : Span → Bool) (n : ℕ) (e : MaybeExprTree) (ts rest : List Lexeme) → kind_at ts ≡ kind.Plain → ended_at named n ts ≡ Some (e, rest)
    → statement_at named (suc n) ts ≡ Some (made_statement (s.expression_statement e), rest)
unfolding statement_at plain_at
plain_read named n e ts rest is by =
    ap (λ k. statement_on named n (statement_at named n) (section_at named n) k ts) is
    ∙ ap (λ (x : Found MaybeExprTree). x >>= λ e. Some (made_statement (s.expression_statement e.0), e.1)) by

pub if_read : (named : Span → Bool) (n : ℕ) (e : ExprTree) (x : StmtTree) (ts inside rest : List Lexeme) → condition_at named n ts ≡ Some (e, inside) → statement_at named n inside ≡ Some (x, rest) → behind_else rest ≡ None
    → statement_at named (suc n) (Token fixed.If ∷ ts) ≡ Some (made_statement (s.if_statement e x s.no_statement), rest)
unfolding statement_at if_at
if_read named n e x ts inside rest c a closed = rw (c, a, closed) refl

pub else_read : (named : Span → Bool) (n : ℕ) (e : ExprTree) (x y : StmtTree) (ts inside middle rest : List Lexeme) → condition_at named n ts ≡ Some (e, inside) → statement_at named n inside ≡ Some (x, Token fixed.Else ∷ middle)
    → statement_at named n middle ≡ Some (y, rest) → statement_at named (suc n) (Token fixed.If ∷ ts) ≡ Some (made_statement (s.if_statement e x (s.some_statement y)), rest)
unfolding statement_at if_at
else_read named n e x y ts inside middle rest c a b = rw (c, a, b) refl

pub switch_read : (named : Span → Bool) (n : ℕ) (e : ExprTree) (xs : SectionTrees) (ts inside rest : List Lexeme) → condition_at named n ts ≡ Some (e, Token fixed.LeftBrace ∷ inside)
    → sections_at (section_at named n) (suc (length inside)) inside ≡ Some (xs, rest) → statement_at named (suc n) (Token fixed.Switch ∷ ts) ≡ Some (made_statement (s.switch_statement e xs), rest)
unfolding statement_at switch_at
switch_read named n e xs ts inside rest c a = rw (c, a) refl

pub while_read : (named : Span → Bool) (n : ℕ) (e : ExprTree) (x : StmtTree) (ts inside rest : List Lexeme) → condition_at named n ts ≡ Some (e, inside) → statement_at named n inside ≡ Some (x, rest)
    → statement_at named (suc n) (Token fixed.While ∷ ts) ≡ Some (made_statement (s.while_statement e x), rest)
unfolding statement_at while_at
while_read named n e x ts inside rest c a = rw (c, a) refl

pub do_read : (named : Span → Bool) (n : ℕ) (x : StmtTree) (e : ExprTree) (ts inside rest : List Lexeme) → statement_at named n ts ≡ Some (x, Token fixed.While ∷ inside) → condition_at named n inside ≡ Some (e, Token fixed.Semicolon ∷ rest)
    → statement_at named (suc n) (Token fixed.Do ∷ ts) ≡ Some (made_statement (s.do_statement x e), rest)
unfolding statement_at do_at
do_read named n x e ts inside rest a c = rw (a, c) refl

pub for_read : (named : Span → Bool) (n : ℕ) (first : StartTree) (test step : MaybeExprTree) (x : StmtTree) (ts a b c rest : List Lexeme) → start_at named n ts ≡ Some (first, a) → ended_at named n a ≡ Some (test, b)
    → closed_at named n b ≡ Some (step, c) → statement_at named n c ≡ Some (x, rest)
    → statement_at named (suc n) (Token fixed.For ∷ Token fixed.LeftParen ∷ ts) ≡ Some (made_statement (s.for_statement first test step x), rest)
unfolding statement_at for_at for_on
for_read named n first test step x ts a b c rest g h j k = rw (g, h, j, k) refl

pub break_read : (named : Span → Bool) (n : ℕ) (rest : List Lexeme) → statement_at named (suc n) (Token fixed.Break ∷ Token fixed.Semicolon ∷ rest) ≡ Some (made_statement s.break_statement, rest)
unfolding statement_at
break_read named n rest = refl

pub continue_read : (named : Span → Bool) (n : ℕ) (rest : List Lexeme) → statement_at named (suc n) (Token fixed.Continue ∷ Token fixed.Semicolon ∷ rest) ≡ Some (made_statement s.continue_statement, rest)
unfolding statement_at
continue_read named n rest = refl

pub return_read : (named : Span → Bool) (n : ℕ) (e : MaybeExprTree) (ts rest : List Lexeme) → ended_at named n ts ≡ Some (e, rest)
    → statement_at named (suc n) (Token fixed.Return ∷ ts) ≡ Some (made_statement (s.return_statement e), rest)
unfolding statement_at return_at
return_read named n e ts rest by = ap (λ (x : Found MaybeExprTree). x >>= λ e. Some (made_statement (s.return_statement e.0), e.1)) by
