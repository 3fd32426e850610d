-- Texts with a space behind each, and with a space before each.
use Rattle.std.specs.Prelude.{ℕ, List, [], ◌∷◌, ◌++◌}

abbrev pub each_before : List (List ℕ) → List ℕ
each_before [] = []
each_before (x ∷ xs) = (x ++ 32 ∷ []) ++ each_before xs

abbrev pub each_after : List (List ℕ) → List ℕ
each_after [] = []
each_after (x ∷ xs) = 32 ∷ x ++ each_after xs
