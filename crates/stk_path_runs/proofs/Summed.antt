-- Bits of keys.
use Rattle.std.proofs.Common.{◌≡◌, ◌+◌, List, ◌∷◌}
use Rattle.std.proofs.lemmas.List.Sums.{sum_by-cons}
use Rattle.stk_numbers.specs.Kinds.{width_of}
use Rattle.stk_meaning.specs.Keys.{KeyInfo, input_bits}

pub bits-cons : (x : KeyInfo) (xs : List KeyInfo) → input_bits (x ∷ xs) ≡ width_of x.kind + input_bits xs
bits-cons x xs = sum_by-cons (λ (y : KeyInfo). width_of y.kind) x xs

pub ruleset summed = (bits-cons)
