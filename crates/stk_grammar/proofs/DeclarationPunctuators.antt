-- Punctuators and words at the front of some tokens, and expressions there.
use Rattle.std.proofs.Common.{◌≡◌, ℕ, ◌≤◌, Bool, true, false, List, [], ◌∷◌, Some, None, refl, sym, ap, ◌∙◌}
use Rattle.stk_base.specs.declared.span.Span.{Span}
use Rattle.stk_tree.specs.declared.fixed.Fixed.{Fixed}
use Rattle.stk_tree.specs.declared.fixed.Fixed.TheVariants as fixed
use Rattle.stk_tree.specs.declared.fixed.Lexeme.{Lexeme}
use Rattle.stk_tree.specs.declared.fixed.Lexeme.TheVariants.{Fixed as Token}
use Rattle.stk_tree.specs.Syntax.{ExprTree}
use Rattle.stk_tree.specs.Nesting.{expression_nesting}
use Rattle.stk_tree.specs.Placed.{expression_placed, is_basic}
use Rattle.stk_tree.specs.Unlaid.{unlaid_expression}
use Rattle.stk_grammar.specs.Expressions.{stops}
use Rattle.stk_tree.specs.Fits.{expression_fits}
use Rattle.stk_grammar.specs.Reading.{begins_type, behind_assign, behind_dot, behind_ellipsis, behind_left_brace, behind_left_bracket, behind_left_paren, behind_right_brace, behind_right_paren, behind_semicolon, stars_at, words_at}
use Rattle.stk_grammar.specs.Stopped.{stopped_at}
use Rattle.stk_grammar.proofs.Complete.{Opens, opens}
use Rattle.stk_grammar.proofs.Operators.{some_is}
use Rattle.stk_grammar.proofs.Prints.{prints, tokens-append}
use Rattle.stk_grammar.proofs.Stopped.{stopped_reads, stopped_sound}
use Rattle.stk_grammar.proofs.Well.{well_of}
use Rattle.stk_grammar.specs.DeclarationReading.{begins_designator, optional_word_at}

-- ---- what stands behind a punctuator that was found

pub semicolon_is : (ts rest : List Lexeme) → behind_semicolon ts ≡ Some rest → ts ≡ Token fixed.Semicolon ∷ rest
semicolon_is [] rest e = absurd cc
semicolon_is (Token fixed.Semicolon ∷ ts) rest e = ap (λ x. Token fixed.Semicolon ∷ x) (some_is ts rest e)
semicolon_is (t ∷ ts) rest e = absurd cc

pub left_brace_is : (ts rest : List Lexeme) → behind_left_brace ts ≡ Some rest → ts ≡ Token fixed.LeftBrace ∷ rest
left_brace_is [] rest e = absurd cc
left_brace_is (Token fixed.LeftBrace ∷ ts) rest e = ap (λ x. Token fixed.LeftBrace ∷ x) (some_is ts rest e)
left_brace_is (t ∷ ts) rest e = absurd cc

pub right_brace_is : (ts rest : List Lexeme) → behind_right_brace ts ≡ Some rest → ts ≡ Token fixed.RightBrace ∷ rest
right_brace_is [] rest e = absurd cc
right_brace_is (Token fixed.RightBrace ∷ ts) rest e = ap (λ x. Token fixed.RightBrace ∷ x) (some_is ts rest e)
right_brace_is (t ∷ ts) rest e = absurd cc

pub assign_is : (ts rest : List Lexeme) → behind_assign ts ≡ Some rest → ts ≡ Token fixed.Assign ∷ rest
assign_is [] rest e = absurd cc
assign_is (Token fixed.Assign ∷ ts) rest e = ap (λ x. Token fixed.Assign ∷ x) (some_is ts rest e)
assign_is (t ∷ ts) rest e = absurd cc

pub dot_is : (ts rest : List Lexeme) → behind_dot ts ≡ Some rest → ts ≡ Token fixed.Dot ∷ rest
dot_is [] rest e = absurd cc
dot_is (Token fixed.Dot ∷ ts) rest e = ap (λ x. Token fixed.Dot ∷ x) (some_is ts rest e)
dot_is (t ∷ ts) rest e = absurd cc

pub ellipsis_is : (ts rest : List Lexeme) → behind_ellipsis ts ≡ Some rest → ts ≡ Token fixed.Ellipsis ∷ rest
ellipsis_is [] rest e = absurd cc
ellipsis_is (Token fixed.Ellipsis ∷ ts) rest e = ap (λ x. Token fixed.Ellipsis ∷ x) (some_is ts rest e)
ellipsis_is (t ∷ ts) rest e = absurd cc

-- ---- what ends a declarator: a punctuator that begins no part of one

abbrev pub ends_declarator : List Lexeme → Bool
ends_declarator (Token fixed.Comma ∷ ts) = true
ends_declarator (Token fixed.Semicolon ∷ ts) = true
ends_declarator (Token fixed.RightParen ∷ ts) = true
ends_declarator other = false

pub end_no_assign : (r : List Lexeme) → ends_declarator r ≡ true → behind_assign r ≡ None
end_no_assign (Token fixed.Comma ∷ ts) h = refl
end_no_assign (Token fixed.Semicolon ∷ ts) h = refl
end_no_assign (Token fixed.RightParen ∷ ts) h = refl
end_no_assign other h = absurd cc

pub end_no_bracket : (r : List Lexeme) → ends_declarator r ≡ true → behind_left_bracket r ≡ None
end_no_bracket (Token fixed.Comma ∷ ts) h = refl
end_no_bracket (Token fixed.Semicolon ∷ ts) h = refl
end_no_bracket (Token fixed.RightParen ∷ ts) h = refl
end_no_bracket other h = absurd cc

pub end_no_paren : (r : List Lexeme) → ends_declarator r ≡ true → behind_left_paren r ≡ None
end_no_paren (Token fixed.Comma ∷ ts) h = refl
end_no_paren (Token fixed.Semicolon ∷ ts) h = refl
end_no_paren (Token fixed.RightParen ∷ ts) h = refl
end_no_paren other h = absurd cc

pub end_no_star : (r : List Lexeme) → ends_declarator r ≡ true → (m : ℕ) → stars_at m r ≡ (m, r)
unfolding stars_at
end_no_star (Token fixed.Comma ∷ ts) h m = refl
end_no_star (Token fixed.Semicolon ∷ ts) h m = refl
end_no_star (Token fixed.RightParen ∷ ts) h m = refl
end_no_star other h m = absurd cc

pub end_no_words : (r : List Lexeme) → ends_declarator r ≡ true → words_at r ≡ ([], r)
unfolding words_at
end_no_words (Token fixed.Comma ∷ ts) h = refl
end_no_words (Token fixed.Semicolon ∷ ts) h = refl
end_no_words (Token fixed.RightParen ∷ ts) h = refl
end_no_words other h = absurd cc

pub end_no_name : (r : List Lexeme) → ends_declarator r ≡ true → optional_word_at r ≡ (None, r)
end_no_name (Token fixed.Comma ∷ ts) h = refl
end_no_name (Token fixed.Semicolon ∷ ts) h = refl
end_no_name (Token fixed.RightParen ∷ ts) h = refl
end_no_name other h = absurd cc

pub end_stops : (r : List Lexeme) → ends_declarator r ≡ true → stops 2 r ≡ true
end_stops (Token fixed.Comma ∷ ts) h = refl
end_stops (Token fixed.Semicolon ∷ ts) h = refl
end_stops (Token fixed.RightParen ∷ ts) h = refl
end_stops other h = absurd cc

-- ---- what begins a base

pub type_no_paren : (named : Span → Bool) (ts : List Lexeme) → begins_type named ts ≡ true → behind_right_paren ts ≡ None
type_no_paren named [] h = refl
type_no_paren named (Token fixed.RightParen ∷ ts) h = absurd cc
type_no_paren named (t ∷ ts) h = refl

pub type_no_ellipsis : (named : Span → Bool) (ts : List Lexeme) → begins_type named ts ≡ true → behind_ellipsis ts ≡ None
type_no_ellipsis named [] h = refl
type_no_ellipsis named (Token fixed.Ellipsis ∷ ts) h = absurd cc
type_no_ellipsis named (t ∷ ts) h = refl

pub basic_no_paren : (w : Fixed) (ts : List Lexeme) → is_basic w ≡ true → behind_right_paren (Token w ∷ ts) ≡ None
basic_no_paren fixed.RightParen ts h = absurd cc
basic_no_paren other ts h = refl

pub basic_no_right_brace : (w : Fixed) (ts : List Lexeme) → is_basic w ≡ true → behind_right_brace (Token w ∷ ts) ≡ None
basic_no_right_brace fixed.RightBrace ts h = absurd cc
basic_no_right_brace other ts h = refl

-- ---- expressions

pub opens_no_left_brace : (ts : List Lexeme) → Opens ts → behind_left_brace ts ≡ None
opens_no_left_brace [] h = refl
opens_no_left_brace (Token fixed.LeftBrace ∷ ts) h = let e = h.1 in absurd cc
opens_no_left_brace (t ∷ ts) h = refl

pub opens_no_right_brace : (ts : List Lexeme) → Opens ts → behind_right_brace ts ≡ None
opens_no_right_brace [] h = refl
opens_no_right_brace (Token fixed.RightBrace ∷ ts) h = let e = h.1 in absurd cc
opens_no_right_brace (t ∷ ts) h = refl

pub opens_no_designator : (ts : List Lexeme) → Opens ts → begins_designator ts ≡ false
opens_no_designator [] h = refl
opens_no_designator (Token fixed.Dot ∷ ts) h = let e = h.1 in absurd cc
opens_no_designator (Token fixed.LeftBracket ∷ ts) h = let e = h.1 in absurd cc
opens_no_designator (t ∷ ts) h = refl

-- an expression begins where one is printed
pub expression_opens : (named : Span → Bool) (least : ℕ) (e : ExprTree) (r : List Lexeme) → expression_placed least e ≡ true → expression_fits named e ≡ true → Opens (prints e r)
expression_opens named least e r p f = opens named e r (well_of named least e p f).1

pub expression_read : (named : Span → Bool) (room least : ℕ) (e : ExprTree) (r : List Lexeme) → expression_placed least e ≡ true → expression_fits named e ≡ true → expression_nesting e ≤ room → stops least r ≡ true
    → stopped_at named room least (prints e r) ≡ Some (unlaid_expression e, r)
expression_read named room least e r p f low stop = ap (stopped_at named room least) (sym (tokens-append e r)) ∙ stopped_reads named room least e r p f low stop

-- an expression that was read
pub record ExpressionStands (named : Span → Bool) (room least : ℕ) (ts : List Lexeme) (x : ExprTree × List Lexeme) : Type 0 where
  pub text : ts ≡ prints x.0 x.1
  pub placed : expression_placed least x.0 ≡ true
  pub fits : expression_fits named x.0 ≡ true
  pub low : expression_nesting x.0 ≤ room

pub expression_found : (named : Span → Bool) (room least : ℕ) (ts : List Lexeme) (x : ExprTree × List Lexeme) → least ≤ 17 → stopped_at named room least ts ≡ Some x → ExpressionStands named room least ts x
expression_found named room least ts (t, rest) wide e =
    let a = stopped_sound named room least ts t rest wide e in
    record { text = a.0.tokens ∙ tokens-append t rest; placed = a.0.placed; fits = a.0.fits; low = a.0.nesting }
