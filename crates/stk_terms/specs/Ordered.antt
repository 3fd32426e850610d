-- The residues of inputs in their order: by the first input, then by the next.
use Rattle.std.specs.Prelude.{◌≡◌, ◌≢◌, ◌⊎◌, ℕ, ◌+◌, ◌*◌, ◌/◌, ◌%◌, ◌<◌, ◌^◌, List, [], ◌∷◌}
use Rattle.stk_terms.specs.Terms.{Stored}
use Rattle.stk_terms.specs.Fitting.{AreResidues}
use Rattle.stk_terms.specs.Values.{number_at}

-- how many bits inputs of these widths have together
abbrev pub bits_in : List ℕ → ℕ
bits_in [] = 0
bits_in (w ∷ ws) = w + bits_in ws

-- the first residues stand in front of the second ones
abbrev pub IsBefore : List ℕ → List ℕ → Type 0
IsBefore (q ∷ qs) (r ∷ rs) = (q < r) ⊎ ((q ≡ r) × IsBefore qs rs)
IsBefore _ _ = ⊥

-- the residues make the term 1, and none in front of them do
pub record IsFirst (s : Stored) (i : ℕ) (rs : List ℕ) : Type 0 where
  pub residues : AreResidues s.inputs rs
  pub one : number_at s rs i ≡ 1
  pub first : (qs : List ℕ) → AreResidues s.inputs qs → IsBefore qs rs → number_at s qs i ≢ 1

-- the residues with a number, whose lowest bits are those of the last input
abbrev pub residues_at : List ℕ → ℕ → List ℕ
residues_at [] n = []
residues_at (w ∷ ws) n = ((n / 2 ^ bits_in ws) % 2 ^ w) ∷ residues_at ws n

-- the number of residues
abbrev pub number_of : List ℕ → List ℕ → ℕ
number_of (w ∷ ws) (r ∷ rs) = r * 2 ^ bits_in ws + number_of ws rs
number_of _ _ = 0

-- residues in range are those with their number, which is below 2 to their bits; and those in front of others have
-- lower ones
pub record EachHasItsNumber : Type 0 where
  pub below : (ws rs : List ℕ) → AreResidues ws rs → number_of ws rs < 2 ^ bits_in ws
  pub itself : (ws rs : List ℕ) → AreResidues ws rs → residues_at ws (number_of ws rs) ≡ rs
  pub lower : (ws qs rs : List ℕ) → AreResidues ws qs → AreResidues ws rs → IsBefore qs rs → number_of ws qs < number_of ws rs
