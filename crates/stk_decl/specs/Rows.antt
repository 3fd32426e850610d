-- Rows with a first element, and whether a punctuator of its own stands before the end.
use Rattle.std.specs.Prelude.{ℕ, suc, Bool, length, Some}
use Rattle.stk_grammar.specs.Reading.{◌>>=◌}
use Rattle.stk_grammar.specs.DeclarationReading.{Reader}

-- an element before a row, and whether that punctuator stands there
abbrev pub paired : {X T : Type 0} → (X → T → T) → X → T × Bool → T × Bool
paired add x y = (add x y.0, y.1)

-- one element, and the row behind it
abbrev pub first_of : {X T : Type 0} → (X → T → T) → Reader X → (ℕ → Reader T) → Reader T
first_of add one row ts = one ts >>= λ x. row (suc (length x.1)) x.1 >>= λ xs. Some (add x.0 xs.0, xs.1)
