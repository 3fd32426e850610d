-- That a layout looks at the tokens of its unit alone: each node begins at one of them, and a node that prints no token
-- has its next token among them.
use Rattle.std.specs.Prelude.{◌≡◌, List, ◌++◌, length}
use Rattle.stk_base.specs.declared.span.Span.{Span}
use Rattle.stk_tree.specs.Syntax.{UnitTree}
use Rattle.stk_tree.specs.Tokens.{unit_tokens}
use Rattle.stk_tree.specs.Layout.{unit_laid_out}

-- whatever tokens follow a unit's own, it is laid out the same
abbrev pub LaidOutByItsTokens : Type 0
LaidOutByItsTokens = (u : UnitTree) (spans behind : List Span) → length spans ≡ length (unit_tokens u) → unit_laid_out (spans ++ behind) u ≡ unit_laid_out spans u
