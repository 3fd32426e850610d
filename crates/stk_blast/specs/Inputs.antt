-- The inputs of terms as gates: one for each bit, in the order of the inputs, the least bit first.
use Rattle.std.specs.Prelude.{◌≡◌, ℕ, ◌+◌, ◌<◌, Bool, List, [], ◌∷◌, length, get_or, sum, take}
use Rattle.stk_arith.specs.Rows.{number}
use Rattle.stk_arith.specs.Words.{row_from}

-- the residues of inputs of these widths, where each gate has the value that gates tells and the first bit is the gate
-- `first`
abbrev pub residues_from : ℕ → List ℕ → (ℕ → Bool) → List ℕ
residues_from first [] gates = []
residues_from first (w ∷ ws) gates = number gates (row_from first w) ∷ residues_from (first + w) ws gates

-- the residues that the input gates of a table have: gate 0 is the constant
abbrev pub residues_of : List ℕ → (ℕ → Bool) → List ℕ
residues_of widths gates = residues_from 1 widths gates

-- the first gate of each input
pub record AreFirsts (widths firsts : List ℕ) : Type 0 where
  pub long : length firsts ≡ length widths
  pub each : (k : ℕ) → k < length widths → get_or firsts k 0 ≡ 1 + sum (take k widths)
