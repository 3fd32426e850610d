-- Draws: how a state is computed, and how large a draw is.
use Rattle.std.proofs.Common.{◌≡◌, ℕ, ◌+◌, ◌*◌, ◌%◌, ◌^◌, ◌<◌}
use Rattle.std.proofs.Math.Nat.{mod-add-mod, mod-lt}
use Rattle.stk_gen.specs.Drawing.{drawn}

-- a product that wraps, and then a sum that does, wrap as one
pub one_step : (state : ℕ) → (state * 6364136223846793005 % 2 ^ 64 + 1442695040888963407) % 2 ^ 64 ≡ (state * 6364136223846793005 + 1442695040888963407) % 2 ^ 64
one_step state = mod-add-mod (state * 6364136223846793005) (2 ^ 64) 1442695040888963407

-- a draw is below its bound
pub drawn_below : (bound state : ℕ) → 0 < bound → drawn bound state < bound
unfolding drawn
drawn_below bound state some = mod-lt _ some
