-- Numbers that are drawn one after the other: a linear congruential generator modulo 2 to the 64.
use Rattle.std.specs.Prelude.{ℕ, ◌+◌, ◌*◌, ◌/◌, ◌%◌, ◌^◌}

-- the state that a draw leaves
unfoldable pub next_state : ℕ → ℕ
next_state state = (state * 6364136223846793005 + 1442695040888963407) % 2 ^ 64

-- the number below a bound that a draw gives, by the state that it leaves
unfoldable pub drawn : ℕ → ℕ → ℕ
drawn bound state = state / 2 ^ 33 % bound
