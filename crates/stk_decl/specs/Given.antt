-- What may be missing, as syntax.
use Rattle.std.specs.Prelude.{Option, Some, None}
use Rattle.stk_tree.specs.declared.declaration.Init.{Init}
use Rattle.stk_tree.specs.Syntax.{MaybeInitTree}
use Rattle.stk_tree.specs.Syntax as s
use Rattle.stk_tree.specs.View.{view_initialiser}

-- the syntax of an initialiser that may be missing
abbrev pub given_initialiser : Option Init → MaybeInitTree
given_initialiser None = s.no_initialiser
given_initialiser (Some i) = s.some_initialiser (view_initialiser i)
