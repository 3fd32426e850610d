-- The numbers of an input map, as a path run takes them.
use Rattle.std.specs.Prelude.{List, [], ◌∷◌, ℤ}
use Rattle.stk_numbers.specs.Kinds.{wrap}
use Rattle.stk_meaning.specs.Keys.{KeyInfo}

-- numbers, converted each to the kind of its key
abbrev pub wrapped_by : List KeyInfo → List ℤ → List ℤ
wrapped_by [] xs = []
wrapped_by (k ∷ ks) [] = []
wrapped_by (k ∷ ks) (x ∷ xs) = wrap k.kind x ∷ wrapped_by ks xs
