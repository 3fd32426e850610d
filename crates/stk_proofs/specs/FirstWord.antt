-- How a text is cut behind its first word, and behind a line that is dropped.
use Rattle.std.specs.Prelude.{ℕ, nat_eq, if◌then◌else◌, List, [], ◌∷◌}
use Rattle.stk_proofs.specs.Words.{is_blank}

-- the bytes before the first blank
abbrev pub front_word : List ℕ → List ℕ
front_word [] = []
front_word (b ∷ bs) = if is_blank b then [] else b ∷ front_word bs

-- the bytes from the first blank on
abbrev pub behind_word : List ℕ → List ℕ
behind_word [] = []
behind_word (b ∷ bs) = if is_blank b then b ∷ bs else behind_word bs

-- the bytes behind the first newline
abbrev pub behind_line : List ℕ → List ℕ
behind_line [] = []
behind_line (b ∷ bs) = if nat_eq b 10 then bs else behind_line bs
