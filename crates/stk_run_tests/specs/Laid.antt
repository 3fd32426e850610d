-- Units whose nodes are numbered and placed.
use Rattle.std.specs.Prelude.{◌≡◌, List}
use Rattle.stk_base.specs.declared.span.Span.{Span}
use Rattle.stk_tree.specs.Syntax.{UnitTree}
use Rattle.stk_tree.specs.Layout.{unit_laid_out}

-- a unit is one that was laid out
pub record IsLaidOut (u : UnitTree) : Type 0 where
  pub spans : List Span
  pub before : UnitTree
  pub is : unit_laid_out spans before ≡ u
