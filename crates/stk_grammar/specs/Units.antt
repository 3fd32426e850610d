-- What unit some tokens are, and the law of it (C11 6.9).
use Rattle.std.specs.Prelude.{◌≡◌, ◌≤◌, Bool, IsTrue, List}
use Rattle.stk_base.specs.declared.span.Span.{Span}
use Rattle.stk_tree.specs.declared.fixed.Lexeme.{Lexeme}
use Rattle.stk_tree.specs.Nesting.{unit_nesting, most_nesting}
use Rattle.stk_tree.specs.Placed.{unit_placed}
use Rattle.stk_tree.specs.Syntax.{UnitTree}
use Rattle.stk_tree.specs.Tokens.{unit_tokens}
use Rattle.stk_tree.specs.Unlaid.{unlaid_unit}
use Rattle.stk_tree.specs.Fits.{unit_fits}

-- All of these tokens are this unit. `named` says whether the word at a span is a typedef name in force.
pub record IsUnit (named : Span → Bool) (ts : List Lexeme) (u : UnitTree) : Type 0 where
  pub tokens : ts ≡ unit_tokens u
  pub placed : IsTrue (unit_placed u)
  pub fits : IsTrue (unit_fits named u)
  pub nesting : unit_nesting u ≤ most_nesting

-- two units that are the same tokens are equal apart from the records of their nodes
abbrev pub OneUnit : Type 0
OneUnit = (named : Span → Bool) (ts : List Lexeme) (x y : UnitTree) → IsUnit named ts x → IsUnit named ts y → unlaid_unit x ≡ unlaid_unit y
