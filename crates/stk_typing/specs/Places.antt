-- What is kept beside the locals, so that they are found fast. No contract of a public call mentions it.
use Rattle.std.specs.Prelude.{ℕ, ◌+◌, List, [], ◌∷◌, Option}
use Rattle.stk_ctype.specs.Index.{last_meaning}
use Rattle.stk_typing.specs.declared.locals.LocalName.{LocalName}

-- the names of locals with their places, counted from a first one
abbrev pub local_words : ℕ → List LocalName → List (List ℕ × ℕ)
local_words at [] = []
local_words at (l ∷ ls) = (l.name, at) ∷ local_words (at + 1) ls

-- the place of the last local of a name
abbrev pub place_of : List ℕ → List LocalName → Option ℕ
place_of name ls = last_meaning name (local_words 0 ls)
