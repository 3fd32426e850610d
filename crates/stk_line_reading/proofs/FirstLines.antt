-- The first line of a text, and that it has one alone.
use Rattle.std.proofs.Common.{◌≡◌, ℕ, true, List, ◌∷◌, ◌++◌, length, refl, ap, sym, ◌∙◌, arith}
use Rattle.stk_line_reading.specs.Cuts.{begins_or_ends, IsCut}
use Rattle.stk_line_reading.specs.Lines.{IsFirst}
use Rattle.stk_line_reading.proofs.Texts.{one_cut}

-- what is cut at the first newline, where one comes
pub cut_first : (text line rest behind : List ℕ) (first : ℕ) → IsCut 10 text line rest → rest ≡ first ∷ behind → IsFirst text line behind
cut_first text line rest behind first cut e =
    let stop : begins_or_ends 10 (first ∷ behind) ≡ true = ap (begins_or_ends 10) (sym e) ∙ cut.stops in
    let newline : first ≡ 10 = grind (arith, stop) in
    record { whole = cut.whole ∙ ap (λ t. line ++ t) (e ∙ ap (λ b. b ∷ behind) newline); others = cut.others }

-- and where none comes
pub no_first : (text line rest : List ℕ) → IsCut 10 text line rest → length rest ≡ 0 → (other behind : List ℕ) → IsFirst text other behind → ⊥
no_first text line rest cut none other behind h =
    let same = (one_cut 10 text line rest other (10 ∷ behind) cut (record { whole = h.whole; others = h.others; stops = refl })).1 in
    let long = ap length same in
    omega arith

-- a text is cut into its first line and the others in one way alone
pub one_first : (text line behind other rest : List ℕ) → IsFirst text line behind → IsFirst text other rest → (line ≡ other) × (behind ≡ rest)
one_first text line behind other rest h k =
    let parts = one_cut 10 text line (10 ∷ behind) other (10 ∷ rest) (record { whole = h.whole; others = h.others; stops = refl }) (record { whole = k.whole; others = k.others; stops = refl }) in
    (parts.0, tail_of parts.1)
  where
    tail_of : {a b : ℕ} {x y : List ℕ} → a ∷ x ≡ b ∷ y → x ≡ y
    tail_of e = cc
