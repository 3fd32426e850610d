-- How many bits inputs have.
use Rattle.std.proofs.Common.{◌≡◌, ℕ, ◌+◌, List, [], ◌∷◌, refl, sym, ap, ◌∙◌}
use Rattle.std.specs.Prelude.{sum}
use Rattle.std.proofs.lemmas.List.Sums.{sum_by-cons}
use Rattle.stk_terms.specs.Ordered.{bits_in}

-- the bits of inputs are the sum of their widths
pub same_bits : (ws : List ℕ) → bits_in ws ≡ sum ws
same_bits [] = refl
same_bits (w ∷ ws) = ap (λ n. w + n) (same_bits ws) ∙ sym (sum_by-cons (λ x. x) w ws)
