-- A text that may be missing, as the texts that there are.
use Rattle.std.specs.Prelude.{ℕ, List, [], ◌∷◌, Option, Some, None}
use Rattle.std.specs.Global.{Vec}

abbrev pub texts_of : Option (Vec ℕ) → List (List ℕ)
texts_of None = []
texts_of (Some text) = text.items ∷ []
