-- Inputs that are read off the values of variables.
use Rattle.std.specs.Prelude.{ℕ, ◌+◌, ◌*◌, Bool, List, [], ◌∷◌, take, drop}
use Rattle.stk_terms.specs.Values.{bit}

-- the number that bits are, the least one first
abbrev pub bits_number : List Bool → ℕ
bits_number [] = 0
bits_number (b ∷ bs) = bit b + 2 * bits_number bs

-- the residues of inputs of these widths whose bits are the first values, one input after the other
abbrev pub residues_in : List ℕ → List Bool → List ℕ
residues_in [] values = []
residues_in (w ∷ ws) values = bits_number (take w values) ∷ residues_in ws (drop w values)
