-- What a part of a walk costs.
use Rattle.std.specs.Prelude.{ℕ, ◌+◌, ◌≤◌, ◌≡◌}

-- A part from one store to another, and from so many kept objects to so many: it leaves their number, and where there
-- are at most so many, it raises the cost by at most so much.
pub record Costs {S : Type 0} (cost : S → ℕ) (kept most : ℕ) (a b : S) (before after : ℕ) : Type 0 where
  pub cells : after ≡ before
  pub within : before ≤ kept → cost b ≤ cost a + most
