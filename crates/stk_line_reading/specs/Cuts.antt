-- Where a text is cut in two: in front of the first byte of a kind, or of the end.
use Rattle.std.specs.Prelude.{◌≡◌, ℕ, Bool, true, not, nat_eq, List, [], ◌∷◌, ◌++◌}
use Rattle.std.specs.List.{list_all}

-- whether a byte is another one than this
abbrev pub is_other : ℕ → ℕ → Bool
is_other stop b = not (nat_eq b stop)

-- whether a text is empty or begins with this byte
abbrev pub begins_or_ends : ℕ → List ℕ → Bool
begins_or_ends stop [] = true
begins_or_ends stop (b ∷ bs) = nat_eq b stop

-- a text is these two parts: the bytes in front of the first one that is this byte, or of the end, and the others
pub record IsCut (stop : ℕ) (text front behind : List ℕ) : Type 0 where
  pub whole : text ≡ front ++ behind
  pub others : list_all (is_other stop) front ≡ true
  pub stops : begins_or_ends stop behind ≡ true
