-- Each value that was made has one number under each map that is served, in the range of its kind.
use Rattle.std.specs.Prelude.{◌≡◌, ◌^◌, ◌<◌, List, [], ◌∷◌, ℤ, map, IsTrue}
use Rattle.std.proofs.Common.{refl, sym, subst, ◌∙◌}
use Rattle.stk_ctype.specs.declared.kind.IntKind.{IntKind}
use Rattle.stk_numbers.specs.Kinds.{width_of, fits}
use Rattle.stk_numbers.proofs.Residues.{residue_below}
use Rattle.stk_terms.specs.declared.term.TermId.{TermId}
use Rattle.stk_terms.specs.Fitting.{AreResidues}
use Rattle.stk_terms.specs.Values.{number_at}
use Rattle.stk_terms.proofs.Reading.{below}
use Rattle.stk_values.specs.Standing.{stands}
use Rattle.stk_values.proofs.InRange.{stands_fits}
use Rattle.stk_symbols.specs.Symbolic.{Symbolic, Covers, residues_of, Serves, IsMade, Shows}

pub residues_in_range : (ks : List IntKind) (m : List ℤ) → Covers ks m → AreResidues (map width_of ks) (residues_of ks m)
residues_in_range [] [] h = tt
residues_in_range [] (z ∷ zs) h = absurd h
residues_in_range (k ∷ ks) [] h = absurd h
residues_in_range (k ∷ ks) (z ∷ zs) h = (residue_below (width_of k) z, residues_in_range ks zs h.1)

pub served_residues : (s : Symbolic) (m : List ℤ) → Serves s m → AreResidues s.terms.inputs (residues_of s.kinds m)
served_residues s m h = subst (λ i. AreResidues i (residues_of s.kinds m)) (sym h.inputs_are) (residues_in_range s.kinds m h.covers)

pub number_within : (s : Symbolic) (m : List ℤ) (k : IntKind) (v : TermId) → Serves s m → IsMade s k v → number_at s.terms (residues_of s.kinds m) v.0 < 2 ^ width_of k
number_within s m k v h t = subst (λ w. number_at s.terms (residues_of s.kinds m) v.0 < 2 ^ w) t.term.wide (below s.terms t.sound (residues_of s.kinds m) v.0 (served_residues s m h))

pub numbered : (s : Symbolic) (m : List ℤ) (k : IntKind) (v : TermId) → Serves s m → IsMade s k v → (z : ℤ) × Shows s m k v z × IsTrue (fits k z)
numbered s m k v h t = (stands k (number_at s.terms (residues_of s.kinds m) v.0), record { term = t.term; is = refl }, stands_fits k _ (number_within s m k v h t))

pub one : (s : Symbolic) (m : List ℤ) (k : IntKind) (v : TermId) (x y : ℤ) → Shows s m k v x → Shows s m k v y → x ≡ y
one s m k v x y p q = p.is ∙ sym q.is
