-- Rows of one edge, many times.
use Rattle.std.proofs.Common.{◌≡◌, ℕ, zero, suc, ◌+◌, ◌*◌, ◌^◌, Bool, true, false, replicate, refl, ◌∙◌, arith}
use Rattle.std.proofs.Math.Nat.{pow-succ'}
use Rattle.stk_gates.specs.declared.edge.Edge.{Edge}
use Rattle.stk_gates.specs.Edges.{edge_value}
use Rattle.stk_arith.specs.Rows.{bit, number}

pub number-filled_false : (gates : ℕ → Bool) (e : Edge) → edge_value gates e ≡ false → (n : ℕ) → number gates (replicate n e) ≡ 0
number-filled_false gates e h zero = refl
number-filled_false gates e h (suc n) = (λ j. bit (h j) + 2 * number-filled_false gates e h n j)

pub number-filled_true : (gates : ℕ → Bool) (e : Edge) → edge_value gates e ≡ true → (n : ℕ) → number gates (replicate n e) + 1 ≡ 2 ^ n
number-filled_true gates e h zero = refl
number-filled_true gates e h (suc n) =
    let rest = number-filled_true gates e h n in
    let more = pow-succ' 2 n in
    (λ j. bit (h j) + 2 * number gates (replicate n e) + 1) ∙ omega arith
