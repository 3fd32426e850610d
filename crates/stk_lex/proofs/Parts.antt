-- Parts of a text: one has one length, and none begins within another.
use Rattle.std.proofs.Common.{◌≡◌, ℕ, zero, suc, ◌+◌, ◌<◌, ◌≤◌, List, drop, inl, inr, arith}
use Rattle.std.proofs.lemmas.Bool.{cases_order}
use Rattle.stk_lex.specs.Place.{IsPart, gap_part, token_part, PartBegins, first_part, next_part}
use Rattle.stk_lex.proofs.OneCut.{one_length}

pub part_some : {text : List ℕ} {at n : ℕ} → IsPart text at n → 0 < n
part_some (gap_part some e) = omega arith
part_some (token_part none is) = is.within.0

pub one_part : (text : List ℕ) (at m n : ℕ) → IsPart text at m → IsPart text at n → m ≡ n
one_part text at m n (gap_part some e) (gap_part other f) = omega arith
one_part text at m n (gap_part some e) (token_part none is) = absurd (omega arith)
one_part text at m n (token_part none is) (gap_part some e) = absurd (omega arith)
one_part text at m n (token_part {class = c} none is) (token_part {class = d} other k) = one_length (drop at text) c d m n is k

part_at : (text : List ℕ) (a b n : ℕ) → a ≡ b → IsPart text a n → IsPart text b n
part_at text a b n e h = rw e at h

-- with k above the sum of both places
apart_below : {text : List ℕ} (k : ℕ) {p q : ℕ} (n : ℕ) → p + q < k → PartBegins text p → PartBegins text q → IsPart text p n → p < q → p + n ≤ q
apart_below zero n room here there is before = absurd (omega arith)
apart_below (suc k) n room here first_part is before = absurd (omega arith)
apart_below {text} (suc k) {p} n room here (next_part {at = at} {n = m} there part) is before =
    elim (cases_order at p) [
      | inl same ↦ (let one = one_part text p m n (part_at text at p m same part) is in omega (arith, one, same))
      | inr o ↦ elim o [
        | inl less ↦ (let back = apart_below k m (omega (arith, part_some part, room)) there here part less in absurd (omega (arith, back, before)))
        | inr more ↦ (let on = apart_below k n (omega (arith, part_some part, room)) here there is more in omega (arith, on))
      ]
    ]

-- a part that begins behind another begins behind its end
pub parts_apart : (text : List ℕ) (p q n : ℕ) → PartBegins text p → PartBegins text q → IsPart text p n → p < q → p + n ≤ q
parts_apart text p q n here there is before = apart_below (suc (p + q)) n (omega arith) here there is before
