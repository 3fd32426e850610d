-- Input maps and residues, one for one.
use Rattle.std.proofs.Common.{◌≡◌, ℕ, List, [], ◌∷◌, ℤ, map, refl}
use Rattle.stk_ctype.specs.declared.kind.IntKind.{IntKind}
use Rattle.stk_numbers.specs.Kinds.{width_of, is_signed}
use Rattle.stk_numbers.proofs.Residues.{residue_decoded}
use Rattle.stk_terms.specs.Fitting.{AreResidues}
use Rattle.stk_values.proofs.InRange.{stands_fits, stands_back}
use Rattle.stk_symbols.specs.Symbolic.{Covers, residues_of}
use Rattle.stk_symbols.specs.Laws.{residues_in_range}
use Rattle.stk_symbols.specs.Maps.{map_of, MapsAreResidues}

covered : (ks : List IntKind) (rs : List ℕ) → AreResidues (map width_of ks) rs → Covers ks (map_of ks rs)
covered [] [] h = tt
covered [] (r ∷ rs) h = absurd h
covered (k ∷ ks) [] h = absurd h
covered (k ∷ ks) (r ∷ rs) h = (stands_fits k r h.0, covered ks rs h.1)

same_residues : (ks : List IntKind) (rs : List ℕ) → AreResidues (map width_of ks) rs → residues_of ks (map_of ks rs) ≡ rs
same_residues [] [] h = refl
same_residues [] (r ∷ rs) h = absurd h
same_residues (k ∷ ks) [] h = absurd h
same_residues (k ∷ ks) (r ∷ rs) h = λ j. residue_decoded (is_signed k) (width_of k) r h.0 j ∷ same_residues ks rs h.1 j

same_numbers : (ks : List IntKind) (m : List ℤ) → Covers ks m → map_of ks (residues_of ks m) ≡ m
same_numbers [] [] h = refl
same_numbers [] (z ∷ zs) h = absurd h
same_numbers (k ∷ ks) [] h = absurd h
same_numbers (k ∷ ks) (z ∷ zs) h = λ j. stands_back k z h.0 j ∷ same_numbers ks zs h.1 j

pub one_for_one : MapsAreResidues
one_for_one = λ ks. record { in_range = residues_in_range ks; covers = covered ks; residues = same_residues ks; numbers = same_numbers ks }
