-- The sides of comparisons: that their values were made, and what they show.
use Rattle.std.specs.Prelude.{ℤ}
use Rattle.stk_ctype.specs.declared.kind.IntKind.{IntKind}
use Rattle.stk_meaning.specs.Expressions as runs
use Rattle.stk_walk_values.specs.declared.sides.Sides.{Sides}

-- the values of a side whose number has a kind; those of its operands have kinds of their own
pub record SidesMade {V : Type 0} (made : IntKind → V → Type 0) (k : IntKind) (v : Sides V) : Type 0 where
  pub number : made k v.number
  pub left : made v.left.kind v.left.value
  pub right : made v.right.kind v.right.value

-- and their numbers
pub record SidesShow {V : Type 0} (shows : IntKind → V → ℤ → Type 0) (k : IntKind) (v : Sides V) (x : runs.Sides) : Type 0 where
  pub number : shows k v.number x.number
  pub left : shows v.left.kind v.left.value x.left
  pub right : shows v.right.kind v.right.value x.right
