-- The texts that are gaps. Each test is of a whole text, a list of bytes.
use Rattle.std.specs.Prelude.{ℕ, Bool, false, cond, ◌&&◌, ◌||◌, ◌==◌, not, List, [], ◌∷◌, drop}
use Rattle.std.specs.List.{list_all}
use Rattle.stk_lex.specs.Classes.{is_nil}
use Rattle.stk_lex.specs.Gaps.{is_blank, begins}

-- one white-space byte (C11 6.4)
abbrev pub is_white : List ℕ → Bool
is_white [] = false
is_white (b ∷ bs) = (is_blank b || b == 10) && is_nil bs

-- behind the `/*` of a comment: the first `*/` ends the text
abbrev pub closes_comment : List ℕ → Bool
closes_comment [] = false
closes_comment (b ∷ bs) = cond (b == 42 && begins 47 bs) (is_nil (drop 1 bs)) (closes_comment bs)

-- `*` and what closes the comment
abbrev pub is_starred : List ℕ → Bool
is_starred [] = false
is_starred (b ∷ bs) = b == 42 && closes_comment bs

-- `/*` and all up to the next `*/` (C11 6.4.9p1)
abbrev pub is_block_comment : List ℕ → Bool
is_block_comment [] = false
is_block_comment (b ∷ bs) = b == 47 && is_starred bs

-- no newline is in it
abbrev pub is_one_line : List ℕ → Bool
is_one_line bs = list_all (λ b. not (b == 10)) bs

-- `/` and no newline
abbrev pub is_slashed : List ℕ → Bool
is_slashed [] = false
is_slashed (b ∷ bs) = b == 47 && is_one_line bs

-- `//` and no newline (C11 6.4.9p2)
abbrev pub is_line_comment : List ℕ → Bool
is_line_comment [] = false
is_line_comment (b ∷ bs) = b == 47 && is_slashed bs

-- `#` and no newline (C11 6.10)
abbrev pub is_directive : List ℕ → Bool
is_directive [] = false
is_directive (b ∷ bs) = b == 35 && is_one_line bs

-- a gap; the flag says whether only blanks stand before it on its line, as they must before a directive
abbrev pub is_gap : Bool → List ℕ → Bool
is_gap fresh bs = is_white bs || is_block_comment bs || is_line_comment bs || (fresh && is_directive bs)
