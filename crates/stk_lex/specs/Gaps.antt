-- What stands between tokens: white space, comments and directive lines.
use Rattle.std.specs.Prelude.{ℕ, zero, suc, ◌+◌, ◌<◌, Bool, true, false, cond, ◌&&◌, ◌||◌, ◌==◌, List, [], ◌∷◌, take, drop}

-- a white-space byte other than a newline (C11 6.4): space, tab, carriage return, vertical tab or form feed
abbrev pub is_blank : ℕ → Bool
is_blank b = b == 32 || b == 9 || b == 13 || b == 11 || b == 12

-- how many bytes stand before the next newline, or before the end
unfoldable pub line : List ℕ → ℕ
line [] = 0
line (b ∷ bs) = cond (b == 10) 0 (suc (line bs))

-- the bytes begin with this one
abbrev pub begins : ℕ → List ℕ → Bool
begins a [] = false
begins a (b ∷ bs) = b == a

-- one more, where there is something
abbrev pub one_more : ℕ → ℕ
one_more zero = 0
one_more (suc n) = suc (suc n)

-- how many bytes stand up to the end of the next `*/`, that end included (C11 6.4.9); 0 where there is none
unfoldable pub comment : List ℕ → ℕ
comment [] = 0
comment (b ∷ bs) = cond (b == 42 && begins 47 bs) 2 (one_more (comment bs))

-- whether only blanks stand behind the last newline of a text; the flag says it of what stood before the text
unfoldable pub only_blanks : Bool → List ℕ → Bool
only_blanks so_far [] = so_far
only_blanks so_far (b ∷ bs) = only_blanks (b == 10 || so_far && is_blank b) bs

-- How long the gap is that begins a text, or 0 where none begins it: a blank or a newline (C11 6.4); `/*` to the next
-- `*/`, or `//` up to the end of the line (C11 6.4.9); where only blanks stand before, `#` up to the end of the line,
-- which is a directive (C11 6.10). The flag says whether only blanks stand before.
abbrev pub gap_at : Bool → List ℕ → ℕ
gap_at fresh [] = 0
gap_at fresh (b ∷ bs) =
    cond (is_blank b || b == 10) 1
    (cond (b == 47 && begins 42 bs) (one_more (one_more (comment (drop 1 bs))))
    (cond (b == 47 && begins 47 bs) (line (b ∷ bs))
    (cond (b == 35 && fresh) (line (b ∷ bs)) 0)))

-- the same, of the gap at a place of a text
abbrev pub gap : List ℕ → ℕ → ℕ
gap text at = gap_at (only_blanks true (take at text)) (drop at text)

-- from one place up to another there are only gaps
pub data AreGaps (text : List ℕ) : ℕ → ℕ → Type 0 where
  no_gap : {at : ℕ} → AreGaps text at at
  more_gaps : {at to : ℕ} → 0 < gap text at → AreGaps text (at + gap text at) to → AreGaps text at to
