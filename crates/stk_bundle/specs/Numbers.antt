-- The numbers of a line.
use Rattle.std.specs.Prelude.{◌≡◌, ℕ, List, [], ◌∷◌, ◌++◌, decimal}
use Rattle.std.specs.List.{AllByRecursion}
use Rattle.stk_line_reading.specs.Numbers.{IsNumber}

-- numbers, each with a space in front
abbrev pub numbers_text : List ℕ → List ℕ
numbers_text [] = []
numbers_text (n ∷ ns) = 32 ∷ decimal n ++ numbers_text ns

-- a text is these numbers, each with a space in front
pub record AreNumbers (text : List ℕ) (ns : List ℕ) : Type 0 where
  pub same : text ≡ numbers_text ns
  pub fit : AllByRecursion IsNumber ns
