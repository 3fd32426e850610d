-- Input maps and the residues of their numbers.
use Rattle.std.specs.Prelude.{◌≡◌, ℕ, List, [], ◌∷◌, ℤ, map}
use Rattle.stk_ctype.specs.declared.kind.IntKind.{IntKind}
use Rattle.stk_numbers.specs.Kinds.{width_of}
use Rattle.stk_terms.specs.Fitting.{AreResidues}
use Rattle.stk_values.specs.Standing.{stands}
use Rattle.stk_symbols.specs.Symbolic.{Covers, residues_of}

-- the map whose numbers have these residues
abbrev pub map_of : List IntKind → List ℕ → List ℤ
map_of [] rs = []
map_of (k ∷ ks) [] = []
map_of (k ∷ ks) (r ∷ rs) = stands k r ∷ map_of ks rs

-- maps that cover keys of these kinds and residues in range of their widths stand for each other, one for one
pub record AreOneForOne (ks : List IntKind) : Type 0 where
  pub in_range : (m : List ℤ) → Covers ks m → AreResidues (map width_of ks) (residues_of ks m)
  pub covers : (rs : List ℕ) → AreResidues (map width_of ks) rs → Covers ks (map_of ks rs)
  pub residues : (rs : List ℕ) → AreResidues (map width_of ks) rs → residues_of ks (map_of ks rs) ≡ rs
  pub numbers : (m : List ℤ) → Covers ks m → map_of ks (residues_of ks m) ≡ m

abbrev pub MapsAreResidues : Type 0
MapsAreResidues = (ks : List IntKind) → AreOneForOne ks
