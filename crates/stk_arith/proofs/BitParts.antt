-- Rows that are cut, joined and extended.
use Rattle.std.proofs.Common.{◌≡◌, ℕ, ◌+◌, ◌-◌, ◌*◌, ◌/◌, ◌%◌, ◌^◌, ◌<◌, ◌≤◌, Bool, true, false, if◌then◌else◌, List, ◌++◌, length, take, drop, get_or, replicate, sym, ap, ◌∙◌, arith}
use Rattle.std.proofs.lemmas.List.{length-drop}
use Rattle.std.proofs.lemmas.Nat.{pow-add}
use Rattle.std.proofs.Math.Nat.{mul-add, mul-zero}
use Rattle.stk_gates.specs.declared.edge.Edge.{Edge}
use Rattle.stk_gates.specs.Edges.{edge_value}
use Rattle.stk_arith.specs.Rows.{number}
use Rattle.stk_arith.specs.Shifts.{is_negative}
use Rattle.stk_arith.proofs.Numbers.{number-append, number-take, number-drop}
use Rattle.stk_arith.proofs.Alike.{number-filled_false, number-filled_true}
use Rattle.stk_arith.proofs.Shifting.{top_is_sign}
use Rattle.stk_arith.specs.Words.{extended}

module _ (gates : ℕ → Bool) where
  pub number-cut : (row part : List Edge) (low width : ℕ) → low + width ≤ length row → part ≡ take width (drop low row) → number gates part ≡ number gates row / 2 ^ low % 2 ^ width
  number-cut row part low width l is =
      ap (number gates) is ∙ (number-take gates (drop low row) width (omega (arith, length-drop low row)) ∙ ap (λ n. n % 2 ^ width) (number-drop gates row low (omega arith)))

  pub number-joined : (high low row : List Edge) → row ≡ low ++ high → number gates row ≡ number gates high * 2 ^ length low + number gates low
  number-joined high low row is = ap (number gates) is ∙ (number-append gates low high ∙ turned (number gates low) (number gates high) (2 ^ length low))
    where
      turned : (a b p : ℕ) → a + p * b ≡ b * p + a
      turned a b p = grind arith

  pub number-zeros : (row all : List Edge) (k : ℕ) (fill : Edge) → edge_value gates fill ≡ false → all ≡ row ++ replicate k fill → number gates all ≡ number gates row
  number-zeros row all k fill f is =
      ap (number gates) is ∙ (number-append gates row (replicate k fill) ∙ (ap (λ n. number gates row + 2 ^ length row * n) (number-filled_false gates fill f k) ∙ (let none = mul-zero (2 ^ length row) in omega arith)))

  ends : (row all : List Edge) (k : ℕ) (fill : Edge) (v : Bool) → edge_value gates fill ≡ v → all ≡ row ++ replicate k fill
      → number gates all ≡ (if v then number gates row + (2 ^ (length row + k) - 2 ^ length row) else number gates row)
  ends row all k fill false f is = number-zeros row all k fill f is
  ends row all k fill true f is =
      let p = 2 ^ length row in
      let tail = number gates (replicate k fill) in
      let whole : number gates all ≡ number gates row + p * tail = ap (number gates) is ∙ number-append gates row (replicate k fill) in
      let product : p * (tail + 1) ≡ 2 ^ (length row + k) = ap (λ n. p * n) (number-filled_true gates fill f k) ∙ sym (pow-add 2 (length row) k) in
      let spread : p * (tail + 1) ≡ p * tail + p * 1 = mul-add p tail 1 in
      omega arith

  pub number-extended : (row all : List Edge) (width : ℕ) (d : Edge) → 0 < length row → length row ≤ width → all ≡ row ++ replicate (width - length row) (get_or row (length row - 1) d)
      → number gates all ≡ extended (length row) width (number gates row)
  number-extended row all width d some wider is =
      let sum : length row + (width - length row) ≡ width = omega arith in
      ends row all (width - length row) (get_or row (length row - 1) d) _ (top_is_sign gates row d some) is ∙ ap (λ n. if is_negative (length row) (number gates row) then number gates row + (2 ^ n - 2 ^ length row) else number gates row) sum
