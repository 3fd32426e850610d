-- The first line of a text.
use Rattle.std.specs.Prelude.{◌≡◌, ℕ, true, List, ◌∷◌, ◌++◌}
use Rattle.std.specs.List.{list_all}
use Rattle.stk_line_reading.specs.Cuts.{is_other}

-- a text is this line with its newline, and what comes behind that
pub record IsFirst (text line behind : List ℕ) : Type 0 where
  pub whole : text ≡ line ++ 10 ∷ behind
  pub others : list_all (is_other 10) line ≡ true
