-- The numbers in a text.
use Rattle.std.specs.Prelude.{◌≡◌, ℕ, ◌<◌, ◌^◌, true, List, ◌∷◌, ◌++◌, decimal}
use Rattle.stk_line_reading.specs.Cuts.{begins_or_ends}

-- a number of a text
abbrev pub IsNumber : ℕ → Type 0
IsNumber n = n < 2 ^ 64

-- a text begins with a space and this number, and this stands behind them
pub record IsNext (text : List ℕ) (n : ℕ) (behind : List ℕ) : Type 0 where
  pub same : text ≡ 32 ∷ decimal n ++ behind
  pub fits : IsNumber n
  pub stops : begins_or_ends 32 behind ≡ true
