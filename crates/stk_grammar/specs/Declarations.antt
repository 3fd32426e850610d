-- Where a declaration, and what stands before a function's body, stand among tokens, and the laws of both (C11 6.7,
-- 6.9.1).
use Rattle.std.specs.Prelude.{◌≡◌, ℕ, ◌≤◌, Bool, true, false, ◌&&◌, IsTrue, List, ◌∷◌, ◌++◌, length, drop, slice_range}
use Rattle.stk_base.specs.declared.span.Span.{Span}
use Rattle.stk_tree.specs.declared.fixed.Fixed.TheVariants as fixed
use Rattle.stk_tree.specs.declared.fixed.Lexeme.{Lexeme}
use Rattle.stk_tree.specs.declared.fixed.Lexeme.TheVariants.{Fixed as Token}
use Rattle.stk_tree.specs.Nesting.{declaration_nesting, most_nesting}
use Rattle.stk_tree.specs.Placed.{base_placed, declarator_placed, file_placed, function_declarator, is_unbraced, local_placed}
use Rattle.stk_tree.specs.Syntax.{DeclarationTree}
use Rattle.stk_tree.specs.Syntax as s
use Rattle.stk_tree.specs.Tokens.{base_tokens, declaration_tokens, declarators_tokens, storage_tokens}
use Rattle.stk_tree.specs.Fits.{declaration_fits}
use Rattle.stk_tree.specs.Unlaid.{unlaid_declaration}

-- whether a declaration may stand at file scope, or else in a block or a `for`
abbrev pub declaration_placed : Bool → DeclarationTree → Bool
declaration_placed true d = file_placed d
declaration_placed false d = local_placed d

-- The tokens from one place up to another are this declaration, its `;` included: at file scope, or else in a block.
pub record IsDeclaration (named : Span → Bool) (file : Bool) (ts : List Lexeme) (from to : ℕ) (d : DeclarationTree) : Type 0 where
  pub within : (from ≤ to) × (to ≤ length ts)
  pub tokens : slice_range ts from to ≡ declaration_tokens d
  pub placed : IsTrue (declaration_placed file d)
  pub fits : IsTrue (declaration_fits named d)
  pub nesting : declaration_nesting d ≤ most_nesting

-- Some tokens begin with this declaration, its `;` included, which is no higher than there is room; the rest stands
-- behind it.
pub record DeclarationLeads (named : Span → Bool) (file : Bool) (room : ℕ) (ts : List Lexeme) (d : DeclarationTree) (rest : List Lexeme) : Type 0 where
  pub tokens : ts ≡ declaration_tokens d ++ rest
  pub placed : IsTrue (declaration_placed file d)
  pub fits : IsTrue (declaration_fits named d)
  pub nesting : declaration_nesting d ≤ room

-- what stands before the body of a function, as a declaration with its one declarator: it prints no `;`
abbrev pub front_tokens : DeclarationTree → List Lexeme
front_tokens (s.declaration word b ds) = storage_tokens word ++ base_tokens b ++ declarators_tokens ds

-- whether a declaration may stand so: a base without braces, and one declarator, with a name and parameters
abbrev pub front_placed : DeclarationTree → Bool
front_placed (s.declaration word b (s.then_declarator d s.no_declarators)) = is_unbraced b && base_placed b && function_declarator d && declarator_placed d
front_placed other = false

-- whether the body of a function begins here
abbrev pub opens_body : List Lexeme → Bool
opens_body (Token fixed.LeftBrace ∷ ts) = true
opens_body ts = false

-- The tokens from one place up to another stand before the body of a function, which begins behind them.
pub record IsFront (named : Span → Bool) (ts : List Lexeme) (from to : ℕ) (d : DeclarationTree) : Type 0 where
  pub within : (from ≤ to) × (to ≤ length ts)
  pub tokens : slice_range ts from to ≡ front_tokens d
  pub placed : IsTrue (front_placed d)
  pub fits : IsTrue (declaration_fits named d)
  pub nesting : declaration_nesting d ≤ most_nesting
  pub body : IsTrue (opens_body (drop to ts))

-- Some tokens begin with what stands before the body of a function, which is no higher than there is room; the body
-- begins behind it.
pub record FrontLeads (named : Span → Bool) (room : ℕ) (ts : List Lexeme) (d : DeclarationTree) (rest : List Lexeme) : Type 0 where
  pub tokens : ts ≡ front_tokens d ++ rest
  pub placed : IsTrue (front_placed d)
  pub fits : IsTrue (declaration_fits named d)
  pub nesting : declaration_nesting d ≤ room
  pub body : IsTrue (opens_body rest)

-- two declarations that begin at one place end at one place, and are equal apart from the records of their nodes
abbrev pub OneDeclaration : Type 0
OneDeclaration = (named : Span → Bool) (file : Bool) (ts : List Lexeme) (from to end : ℕ) (x y : DeclarationTree) → IsDeclaration named file ts from to x → IsDeclaration named file ts from end y
    → (unlaid_declaration x ≡ unlaid_declaration y) × (to ≡ end)

-- so are two fronts of functions
abbrev pub OneFront : Type 0
OneFront = (named : Span → Bool) (ts : List Lexeme) (from to end : ℕ) (x y : DeclarationTree) → IsFront named ts from to x → IsFront named ts from end y
    → (unlaid_declaration x ≡ unlaid_declaration y) × (to ≡ end)
