-- Where the first `;` outside of brackets stands, and that a declaration ends there (C11 6.7).
use Rattle.std.specs.Prelude.{◌≡◌, ℕ, suc, ◌-◌, Bool, true, false, cond, ◌&&◌, ◌==◌, List, [], ◌∷◌, drop}
use Rattle.stk_base.specs.declared.span.Span.{Span}
use Rattle.stk_lex.specs.Gaps.{one_more}
use Rattle.stk_tree.specs.declared.fixed.Fixed.TheVariants as fixed
use Rattle.stk_tree.specs.declared.fixed.Lexeme.{Lexeme}
use Rattle.stk_tree.specs.declared.fixed.Lexeme.TheVariants.{Fixed as Token}
use Rattle.stk_tree.specs.Syntax.{DeclarationTree}
use Rattle.stk_grammar.specs.Declarations.{IsDeclaration}

-- the depth of brackets behind a token
abbrev pub depth_behind : ℕ → Lexeme → ℕ
depth_behind d (Token fixed.LeftParen) = suc d
depth_behind d (Token fixed.LeftBracket) = suc d
depth_behind d (Token fixed.LeftBrace) = suc d
depth_behind d (Token fixed.RightParen) = d - 1
depth_behind d (Token fixed.RightBracket) = d - 1
depth_behind d (Token fixed.RightBrace) = d - 1
depth_behind d other = d

-- whether a token is a `;`
abbrev pub is_semicolon : Lexeme → Bool
is_semicolon (Token fixed.Semicolon) = true
is_semicolon other = false

-- how many tokens stand up to the first `;` outside of brackets, that one included, from a depth on; 0 where none does
unfoldable pub up_to_semicolon : ℕ → List Lexeme → ℕ
up_to_semicolon d [] = 0
up_to_semicolon d (t ∷ ts) = cond (is_semicolon t && d == 0) 1 (one_more (up_to_semicolon (depth_behind d t) ts))

-- the declaration that begins at a place ends with the first `;` outside of brackets from there on
abbrev pub EndsAtTheFirstSemicolon : Type 0
EndsAtTheFirstSemicolon = (named : Span → Bool) (file : Bool) (ts : List Lexeme) (from to : ℕ) (d : DeclarationTree) → IsDeclaration named file ts from to d
    → up_to_semicolon 0 (drop from ts) ≡ to - from
