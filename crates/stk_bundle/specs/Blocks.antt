-- How many lines a text has, and blocks of lines.
use Rattle.std.specs.Prelude.{◌≡◌, ℕ, Bool, true, nat_eq, List, [], ◌∷◌, count_by}

-- how many lines a text has, those that a newline ends
abbrev pub line_count : List ℕ → ℕ
line_count text = count_by (λ b. nat_eq b 10) text

-- whether a text is empty or a newline ends it
abbrev pub ends_line : List ℕ → Bool
ends_line [] = true
ends_line (b ∷ []) = nat_eq b 10
ends_line (b ∷ c ∷ bs) = ends_line (c ∷ bs)

-- a text is so many lines, each with its newline
pub record IsBlock (lines : ℕ) (text : List ℕ) : Type 0 where
  pub count : line_count text ≡ lines
  pub ends : ends_line text ≡ true
