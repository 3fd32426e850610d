-- Texts of the input: the bytes of a stretch, and the number that digits make.
use Rattle.std.specs.Prelude.{ℕ, ◌+◌, ◌-◌, ◌*◌, Bool, nat_eq, List, [], ◌∷◌, take, drop}
use Rattle.std.specs.Cmp.Lexicographic.{pointwise}
use Rattle.stk_base.specs.declared.span.Span.{Span}

-- the bytes of a stretch
abbrev pub text_of : List ℕ → Span → List ℕ
text_of bytes at = take (at.to - at.from) (drop at.from bytes)

-- whether two texts are spelled alike
abbrev pub same_text : List ℕ → List ℕ → Bool
same_text a b = pointwise nat_eq a b

-- the number that decimal digits make behind a number so far (C11 6.4.4.1)
abbrev pub decimal_behind : ℕ → List ℕ → ℕ
decimal_behind so_far [] = so_far
decimal_behind so_far (b ∷ bs) = decimal_behind (so_far * 10 + (b - 48)) bs

-- the number that decimal digits make
abbrev pub decimal : List ℕ → ℕ
decimal digits = decimal_behind 0 digits
