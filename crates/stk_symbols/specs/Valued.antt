-- Terms over any numbers that the terms of a store may have.
use Rattle.std.specs.Prelude.{◌≡◌, ℕ, ◌+◌, ◌^◌, ◌<◌, ◌≤◌, Bool, true, false, not, List, length}
use Rattle.stk_terms.specs.Terms.{Stored}
use Rattle.stk_terms.specs.Fitting.{AreResidues}
use Rattle.stk_terms.specs.Values.{width_at, number_at}
use Rattle.stk_terms.specs.Growth.{Keeps}
use Rattle.stk_terms.specs.Cost.{total_cost, IsClosed}

-- v is a term of width w
pub record IsTerm (s : Stored) (w v : ℕ) : Type 0 where
  pub exists_ : v < length s.terms
  pub wide : width_at s v ≡ w

-- these are the numbers of the terms for some residues of the inputs
pub record Obeys (s : Stored) (numbers : ℕ → ℕ) : Type 0 where
  pub residues : List ℕ
  pub in_range : AreResidues s.inputs residues
  pub are : (i : ℕ) → i < length s.terms → numbers i ≡ number_at s residues i
  pub below : (i : ℕ) → i < length s.terms → numbers i < 2 ^ width_at s i

-- older terms stay, and what was made costs at most the charge
pub record Grown (old new : Stored) (charge : ℕ) : Type 0 where
  pub keeps : Keeps old new
  pub costs : total_cost new ≤ total_cost old + charge

-- t is a bit with the numbers of the term v, and depends on no more than v
pub record IsBitOf (s : Stored) (v t : ℕ) : Type 0 where
  pub term : IsTerm s 1 t
  pub same : (residues : List ℕ) → number_at s residues v ≡ number_at s residues t
  pub reached : (chosen : ℕ → Bool) → IsClosed s chosen → chosen v ≡ true → chosen t ≡ true

-- the term at a place is 0, whatever the inputs are
abbrev pub IsZero : Stored → ℕ → Type 0
IsZero s i = (residues : List ℕ) → number_at s residues i ≡ 0

-- whether two truths differ
abbrev pub differ : Bool → Bool → Bool
differ true b = not b
differ false b = b
