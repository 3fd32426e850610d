-- The residues that input gates have.
use Rattle.std.proofs.Common.{◌≡◌, ℕ, zero, suc, ◌+◌, ◌*◌, ◌<◌, ◌≤◌, Bool, List, [], ◌∷◌, length, take, get_or, refl, ap, ◌∙◌, arith}
use Rattle.std.specs.Prelude.{sum}
use Rattle.std.proofs.lemmas.List.Sums.{sum_by-cons}
use Rattle.stk_gates.specs.declared.edge.Edge.{Edge}
use Rattle.stk_gates.specs.Tables.{Table, IsEdge, gate_count}
use Rattle.stk_arith.specs.Rows.{number, AreEdges}
use Rattle.stk_arith.specs.Words.{row_from}
use Rattle.stk_blast.specs.Inputs.{residues_from}

pub length-row_from : (first n : ℕ) → length (row_from first n) ≡ n
length-row_from first zero = refl
length-row_from first (suc n) = ap suc (length-row_from (first + 1) n)

edges_more : (t : Table) (e : Edge) (es : List Edge) → IsEdge t e → AreEdges t es → AreEdges t (e ∷ es)
edges_more t e es h k zero d l = h
edges_more t e es h k (suc j) d l = k j d (omega arith)

pub edges_from : (t : Table) (first n : ℕ) → first + n ≤ gate_count t → AreEdges t (row_from first n)
edges_from t first zero h = λ j d l. absurd (omega arith)
edges_from t first (suc n) h = edges_more t (record { 0 = 2 * first }) (row_from (first + 1) n) (omega arith) (edges_from t (first + 1) n (omega arith))

pub residue_at : (gates : ℕ → Bool) (first : ℕ) (ws : List ℕ) (k : ℕ) → k < length ws → get_or (residues_from first ws gates) k 0 ≡ number gates (row_from (first + sum (take k ws)) (get_or ws k 0))
residue_at gates first [] k h = absurd (omega arith)
residue_at gates first (w ∷ ws) zero h = ap (λ n. number gates (row_from n w)) (let e : first ≡ first + 0 = omega arith in e)
residue_at gates first (w ∷ ws) (suc k) h =
    residue_at gates (first + w) ws k (omega arith) ∙ ap (λ n. number gates (row_from n (get_or ws k 0))) (let e : first + w + sum (take k ws) ≡ first + sum (w ∷ take k ws) = omega (arith, sum_by-cons (λ x. x) w (take k ws)) in e)
