-- What every script that is read meets: it isn't deep.
use Rattle.std.specs.Prelude.{ℕ, ◌<◌, ◌≤◌, List, [], ◌∷◌}
use Rattle.stk_scripts.specs.Syntax.{Defined, Script}
use Rattle.stk_scripts.specs.Scripts.{depth}

-- the terms of definitions nest at most so deep
abbrev pub AreShallow : ℕ → List Defined → Type 0
AreShallow most [] = Unit {0}
AreShallow most (d ∷ ds) = (depth d.body ≤ most) × AreShallow most ds

-- all terms of a script do, a comparison counted
pub record IsShallow (most : ℕ) (s : Script) : Type 0 where
  pub bodies : AreShallow most s.defined
  pub left : depth s.left < most
  pub right : depth s.right < most
