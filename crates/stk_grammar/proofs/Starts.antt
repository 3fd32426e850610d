-- What statements begin with.
use Rattle.std.proofs.Common.{◌≡◌, ℕ, zero, suc, Bool, true, false, cond, ◌||◌, List, [], ◌∷◌, ◌++◌, Some, None, refl, ap, ◌∙◌, arith}
use Rattle.stk_base.specs.declared.span.Span.{Span}
use Rattle.stk_base.specs.declared.token.Class.TheVariants.{Word}
use Rattle.stk_tree.specs.declared.fixed.Fixed.{Fixed}
use Rattle.stk_tree.specs.declared.fixed.Fixed.TheVariants as fixed
use Rattle.stk_tree.specs.declared.fixed.Lexeme.{Lexeme}
use Rattle.stk_tree.specs.declared.fixed.Lexeme.TheVariants.{Leaf, Fixed as Token}
use Rattle.stk_tree.specs.Nesting.{expression_nesting}
use Rattle.stk_tree.specs.Placed.{expression_placed, is_basic, statement_placed}
use Rattle.stk_tree.specs.Syntax.{ExprTree, MaybeExprTree, StmtTree}
use Rattle.stk_tree.specs.Syntax as s
use Rattle.stk_tree.specs.Tokens.{expression_tokens}
use Rattle.stk_tree.specs.Unlaid.{unlaid_expression}
use Rattle.stk_grammar.specs.Expressions.{stops}
use Rattle.stk_tree.specs.Fits.{expression_fits, statement_fits}
use Rattle.stk_grammar.specs.Reading.{Sub, begins_type, behind_right_brace, behind_right_paren, behind_semicolon, climb, expression_at, first_opener, operand_at, is_tag_word, made}
use Rattle.stk_grammar.specs.Stopped.{if_stopped, stopped_at}
use Rattle.stk_grammar.specs.declared.tables.Opener.{Opener}
use Rattle.stk_grammar.specs.declared.tables.Opener.TheVariants as opener
use Rattle.stk_grammar.proofs.Operators.{bind_some, some_is, unless_some}
use Rattle.stk_grammar.proofs.Stopped.{stopped_reads}
use Rattle.stk_grammar.specs.StatementReading.{begins_label, begins_local, begins_static, behind_else, ends_section, kind_at}
use Rattle.stk_grammar.specs.declared.statement_tables.Kind.TheVariants as kind
use Rattle.stk_grammar.proofs.StatementPrints.{prints}

-- some expression begins here
pub record IsOpen (named : Span → Bool) (ts : List Lexeme) : Type 0 where
  pub first : (h : Opener × List Lexeme) × (first_opener ts ≡ Some h)
  pub no_type : begins_type named ts ≡ false

token_no_type : (f : Fixed) (ts : List Lexeme) (h : Opener × List Lexeme) → first_opener (Token f ∷ ts) ≡ Some h → cond (is_basic f) true (is_tag_word f) ≡ false
token_no_type fixed.Void ts h e = absurd cc
token_no_type fixed.Char ts h e = absurd cc
token_no_type fixed.Short ts h e = absurd cc
token_no_type fixed.Int ts h e = absurd cc
token_no_type fixed.Long ts h e = absurd cc
token_no_type fixed.Signed ts h e = absurd cc
token_no_type fixed.Unsigned ts h e = absurd cc
token_no_type fixed.Bool ts h e = absurd cc
token_no_type fixed.Struct ts h e = absurd cc
token_no_type fixed.Enum ts h e = absurd cc
token_no_type f ts h e = refl

no_type_of : (named : Span → Bool) (sub : Sub) (inner least : ℕ) (ts : List Lexeme) (h : Opener × List Lexeme) (a : ExprTree × List Lexeme) → first_opener ts ≡ Some h
    → operand_at named sub inner least h.0 h.1 ≡ Some a → begins_type named ts ≡ false
unfolding operand_at
no_type_of named sub inner least [] h a e by = absurd cc
no_type_of named sub inner least (Leaf Word at ∷ ts) h a e by =
    (unless_some (named at) (Some (made (s.name at), ts)) a (ap (λ (h : Opener × List Lexeme). operand_at named sub inner least h.0 h.1) (some_is (opener.Name at, ts) h e) ∙ by)).0
no_type_of named sub inner least (Leaf class at ∷ ts) h a e by = refl
no_type_of named sub inner least (Token f ∷ ts) h a e by = token_no_type f ts h e

open_of_found : (named : Span → Bool) (room least : ℕ) (ts : List Lexeme) (x : ExprTree × List Lexeme) → expression_at named room least ts ≡ Some x → IsOpen named ts
unfolding expression_at
open_of_found named zero least ts x e = absurd cc
open_of_found named (suc inner) least ts x e =
    let h = bind_some (first_opener ts) _ x e in
    let a = bind_some (operand_at named (expression_at named inner) inner least h.0.0 h.0.1) (λ a. climb (expression_at named inner) inner least (suc (suc inner)) a.0 a.1) x h.2 in
    record { first = (h.0, h.1); no_type = no_type_of named (expression_at named inner) inner least ts h.0 a.0 h.1 a.1 }

pub expression_open : (named : Span → Bool) (least : ℕ) (t : ExprTree) (rest : List Lexeme) → expression_placed least t ≡ true → expression_fits named t ≡ true → stops least rest ≡ true
    → IsOpen named (expression_tokens t ++ rest)
unfolding stopped_at
expression_open named least t rest placed fits stop =
    let room : ℕ = expression_nesting t in
    let ts : List Lexeme = expression_tokens t ++ rest in
    let a = bind_some (expression_at named room least ts) (if_stopped least) (unlaid_expression t, rest) (stopped_reads named room least t rest placed fits (omega arith) stop) in
    open_of_found named room least ts a.0 a.1

-- ---- what no expression begins with

pub no_semicolon : (named : Span → Bool) (ts : List Lexeme) → IsOpen named ts → behind_semicolon ts ≡ None
no_semicolon named [] h = refl
no_semicolon named (Token fixed.Semicolon ∷ ts) h = let e = h.first.1 in absurd cc
no_semicolon named (t ∷ ts) h = refl

pub no_right_paren : (named : Span → Bool) (ts : List Lexeme) → IsOpen named ts → behind_right_paren ts ≡ None
no_right_paren named [] h = refl
no_right_paren named (Token fixed.RightParen ∷ ts) h = let e = h.first.1 in absurd cc
no_right_paren named (t ∷ ts) h = refl

pub plain_open : (named : Span → Bool) (ts : List Lexeme) → IsOpen named ts → kind_at ts ≡ kind.Plain
plain_open named [] h = refl
plain_open named (Leaf class at ∷ ts) h = refl
plain_open named (Token fixed.LeftBrace ∷ ts) h = let e = h.first.1 in absurd cc
plain_open named (Token fixed.If ∷ ts) h = let e = h.first.1 in absurd cc
plain_open named (Token fixed.Switch ∷ ts) h = let e = h.first.1 in absurd cc
plain_open named (Token fixed.While ∷ ts) h = let e = h.first.1 in absurd cc
plain_open named (Token fixed.Do ∷ ts) h = let e = h.first.1 in absurd cc
plain_open named (Token fixed.For ∷ ts) h = let e = h.first.1 in absurd cc
plain_open named (Token fixed.Break ∷ ts) h = let e = h.first.1 in absurd cc
plain_open named (Token fixed.Continue ∷ ts) h = let e = h.first.1 in absurd cc
plain_open named (Token fixed.Return ∷ ts) h = let e = h.first.1 in absurd cc
plain_open named (Token other ∷ ts) h = refl

no_right_brace : (named : Span → Bool) (ts : List Lexeme) → IsOpen named ts → behind_right_brace ts ≡ None
no_right_brace named [] h = refl
no_right_brace named (Token fixed.RightBrace ∷ ts) h = let e = h.first.1 in absurd cc
no_right_brace named (t ∷ ts) h = refl

open_no_else : (named : Span → Bool) (ts : List Lexeme) → IsOpen named ts → behind_else ts ≡ None
open_no_else named [] h = refl
open_no_else named (Token fixed.Else ∷ ts) h = let e = h.first.1 in absurd cc
open_no_else named (t ∷ ts) h = refl

open_no_label : (named : Span → Bool) (ts : List Lexeme) → IsOpen named ts → begins_label ts ≡ false
open_no_label named [] h = refl
open_no_label named (Token fixed.Case ∷ ts) h = let e = h.first.1 in absurd cc
open_no_label named (Token fixed.Default ∷ ts) h = let e = h.first.1 in absurd cc
open_no_label named (t ∷ ts) h = refl

open_no_static : (named : Span → Bool) (ts : List Lexeme) → IsOpen named ts → begins_static ts ≡ false
open_no_static named [] h = refl
open_no_static named (Token fixed.Static ∷ ts) h = let e = h.first.1 in absurd cc
open_no_static named (t ∷ ts) h = refl

-- ---- statements

-- where a statement begins, neither a block nor a section ends, and neither an `else`, a label nor a declaration begins
pub record IsStart (named : Span → Bool) (ts : List Lexeme) : Type 0 where
  pub no_brace : behind_right_brace ts ≡ None
  pub no_else : behind_else ts ≡ None
  pub no_label : begins_label ts ≡ false
  pub no_local : begins_local named ts ≡ false

neither : (a b : Bool) → a ≡ false → b ≡ false → (a || b) ≡ false
neither true b h k = absurd cc
neither false b h k = k

pub start_of_open : (named : Span → Bool) (ts : List Lexeme) → IsOpen named ts → IsStart named ts
start_of_open named ts h = record {
  no_brace = no_right_brace named ts h;
  no_else = open_no_else named ts h;
  no_label = open_no_label named ts h;
  no_local = neither (begins_static ts) (begins_type named ts) (open_no_static named ts h) h.no_type;
}

-- a section goes on where neither a label nor the `}` stands
pub goes_on : (ts : List Lexeme) → behind_right_brace ts ≡ None → begins_label ts ≡ false → ends_section ts ≡ false
goes_on [] h k = refl
goes_on (Token fixed.RightBrace ∷ ts) h k = absurd cc
goes_on (t ∷ ts) h k = k

-- a statement begins as none of these
pub statement_start : (named : Span → Bool) (t : StmtTree) (r : List Lexeme) → statement_placed t ≡ true → statement_fits named t ≡ true → IsStart named (prints t r)
statement_start named (s.statement n (s.block ps)) r p q = record { no_brace = refl; no_else = refl; no_label = refl; no_local = refl }
statement_start named (s.statement n (s.expression_statement s.no_expression)) r p q = record { no_brace = refl; no_else = refl; no_label = refl; no_local = refl }
statement_start named (s.statement n (s.expression_statement (s.some_expression e))) r p q = start_of_open named _ (expression_open named 1 e (Token fixed.Semicolon ∷ r) p q refl)
statement_start named (s.statement n (s.if_statement e x other)) r p q = record { no_brace = refl; no_else = refl; no_label = refl; no_local = refl }
statement_start named (s.statement n (s.switch_statement e xs)) r p q = record { no_brace = refl; no_else = refl; no_label = refl; no_local = refl }
statement_start named (s.statement n (s.while_statement e x)) r p q = record { no_brace = refl; no_else = refl; no_label = refl; no_local = refl }
statement_start named (s.statement n (s.do_statement x e)) r p q = record { no_brace = refl; no_else = refl; no_label = refl; no_local = refl }
statement_start named (s.statement n (s.for_statement first test step x)) r p q = record { no_brace = refl; no_else = refl; no_label = refl; no_local = refl }
statement_start named (s.statement n s.break_statement) r p q = record { no_brace = refl; no_else = refl; no_label = refl; no_local = refl }
statement_start named (s.statement n s.continue_statement) r p q = record { no_brace = refl; no_else = refl; no_label = refl; no_local = refl }
statement_start named (s.statement n (s.return_statement e)) r p q = record { no_brace = refl; no_else = refl; no_label = refl; no_local = refl }
