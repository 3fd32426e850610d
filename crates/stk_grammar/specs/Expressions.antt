-- Where an expression stands among tokens, and the laws of it (C11 6.5).
use Rattle.std.specs.Prelude.{◌≡◌, ℕ, ◌≤◌, Bool, true, false, IsTrue, List, [], ◌∷◌, ◌++◌, length, drop, slice_range, nat_le}
use Rattle.stk_base.specs.declared.span.Span.{Span}
use Rattle.stk_tree.specs.Levels.{comma_level}
use Rattle.stk_tree.specs.declared.fixed.Fixed.{Fixed}
use Rattle.stk_tree.specs.declared.fixed.Fixed.TheVariants as fixed
use Rattle.stk_tree.specs.declared.fixed.Lexeme.{Lexeme}
use Rattle.stk_tree.specs.declared.fixed.Lexeme.TheVariants.{Leaf, Fixed as Token}
use Rattle.stk_tree.specs.Nesting.{expression_nesting, most_nesting}
use Rattle.stk_tree.specs.Placed.{expression_placed}
use Rattle.stk_tree.specs.Syntax.{ExprTree}
use Rattle.stk_tree.specs.Tokens.{expression_tokens}
use Rattle.stk_tree.specs.Unlaid.{unlaid_expression}
use Rattle.stk_tree.specs.Fits.{expression_fits}

-- whether an expression of a level may end before this punctuator: before `)`, `]`, `}`, `;`, `:`, and before `,` from
-- level 2 on
abbrev pub stop_punctuator : ℕ → Fixed → Bool
stop_punctuator least fixed.RightParen = true
stop_punctuator least fixed.RightBracket = true
stop_punctuator least fixed.RightBrace = true
stop_punctuator least fixed.Semicolon = true
stop_punctuator least fixed.Colon = true
stop_punctuator least fixed.Comma = nat_le 2 least
stop_punctuator least other = false

-- whether an expression of a level may end before these tokens: at the end of the tokens, or before such a punctuator
abbrev pub stops : ℕ → List Lexeme → Bool
stops least [] = true
stops least (Token f ∷ ts) = stop_punctuator least f
stops least (Leaf class at ∷ ts) = false

-- The tokens from one place up to another are this expression, of this level or a higher one, and a stop follows.
-- `named` says whether the word at a span is a typedef name in force.
pub record IsExpression (named : Span → Bool) (least : ℕ) (ts : List Lexeme) (from to : ℕ) (t : ExprTree) : Type 0 where
  pub within : (from ≤ to) × (to ≤ length ts)
  pub tokens : slice_range ts from to ≡ expression_tokens t
  pub placed : IsTrue (expression_placed least t)
  pub fits : IsTrue (expression_fits named t)
  pub nesting : expression_nesting t ≤ most_nesting
  pub stop : IsTrue (stops least (drop to ts))

-- Some tokens begin with this expression, of a level or a higher one and no higher than there is room; the rest stands
-- behind it, and begins with a stop.
pub record Leads (named : Span → Bool) (room least : ℕ) (ts : List Lexeme) (t : ExprTree) (rest : List Lexeme) : Type 0 where
  pub tokens : ts ≡ expression_tokens t ++ rest
  pub placed : IsTrue (expression_placed least t)
  pub fits : IsTrue (expression_fits named t)
  pub nesting : expression_nesting t ≤ room
  pub stop : IsTrue (stops least rest)

-- an expression as one that prints all of some tokens: two of them are equal apart from the records of their nodes
abbrev pub OneText : Type 0
OneText = (named : Span → Bool) (x y : ExprTree) → IsTrue (expression_placed comma_level x) → IsTrue (expression_placed comma_level y) → IsTrue (expression_fits named x) → IsTrue (expression_fits named y)
    → expression_tokens x ≡ expression_tokens y → unlaid_expression x ≡ unlaid_expression y

-- two expressions of a level that begin at one place end at one place, and are equal apart from the records of their
-- nodes
abbrev pub OnePlace : Type 0
OnePlace = (named : Span → Bool) (least : ℕ) (ts : List Lexeme) (from to end : ℕ) (x y : ExprTree) → IsExpression named least ts from to x → IsExpression named least ts from end y
    → (unlaid_expression x ≡ unlaid_expression y) × (to ≡ end)
