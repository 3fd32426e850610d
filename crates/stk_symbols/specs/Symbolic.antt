-- Values that are terms over the keys of a function: the maps that they serve, and the numbers that they have.
use Rattle.std.specs.Prelude.{◌≡◌, ℕ, List, [], ◌∷◌, ℤ, map, slice_get, Some, IsTrue}
use Rattle.stk_ctype.specs.declared.kind.IntKind.{IntKind}
use Rattle.stk_numbers.specs.Kinds.{width_of, fits}
use Rattle.stk_numbers.specs.Values.{bits_of}
use Rattle.stk_terms.specs.declared.term.TermId.{TermId}
use Rattle.stk_terms.specs.Terms.{Stored}
use Rattle.stk_terms.specs.Fitting.{IsSound}
use Rattle.stk_terms.specs.Values.{number_at}
use Rattle.stk_values.specs.Standing.{stands}
use Rattle.stk_symbols.specs.Valued.{IsTerm}

-- the kinds of the keys, in order, and the terms
pub record Symbolic : Type 0 where
  pub kinds : List IntKind
  pub terms : Stored

-- the map has one number for each key, in the range of its kind
abbrev pub Covers : List IntKind → List ℤ → Type 0
Covers [] [] = Unit
Covers (k ∷ ks) (z ∷ zs) = IsTrue (fits k z) × Covers ks zs
Covers _ _ = ⊥

-- the residues of a map's numbers
abbrev pub residues_of : List IntKind → List ℤ → List ℕ
residues_of [] zs = []
residues_of (k ∷ ks) [] = []
residues_of (k ∷ ks) (z ∷ zs) = bits_of k z ∷ residues_of ks zs

-- the inputs of the terms are the keys, and the map covers them
pub record Serves (s : Symbolic) (m : List ℤ) : Type 0 where
  pub covers : Covers s.kinds m
  pub inputs_are : s.terms.inputs ≡ map width_of s.kinds

-- the inputs of the terms are the keys, and this key has this kind
pub record HasKey (s : Symbolic) (key : ℕ) (k : IntKind) : Type 0 where
  pub known : slice_get s.kinds key ≡ Some k
  pub inputs_are : s.terms.inputs ≡ map width_of s.kinds

-- a term of the store at the width of the kind
pub record IsMade (s : Symbolic) (k : IntKind) (v : TermId) : Type 0 where
  pub term : IsTerm s.terms (width_of k) v.0
  pub sound : IsSound s.terms

-- the term's number for a map's residues stands for the number z of the kind
pub record Shows (s : Symbolic) (m : List ℤ) (k : IntKind) (v : TermId) (z : ℤ) : Type 0 where
  pub term : IsTerm s.terms (width_of k) v.0
  pub is : z ≡ stands k (number_at s.terms (residues_of s.kinds m) v.0)
