-- Terms: an operator and its arguments, each at a place of a store where no term stands twice.
use Rattle.std.specs.Prelude.{◌≡◌, ℕ, zero, suc, List, [], ◌∷◌, ◌++◌, Some, slice_get, get_or}
use Rattle.stk_terms.specs.declared.term.TermOp.{TermOp}
use Rattle.stk_terms.specs.declared.term.TermOp.TheVariants.{Constant}
use Rattle.stk_terms.specs.declared.term.TermId.{TermId}

-- an operator and its arguments
pub record Term : Type 0 where
  pub op : TermOp
  pub args : List TermId

-- the term of an operator and arguments
abbrev pub term_of : TermOp → List TermId → Term
term_of op args = record { op = op; args = args }

-- the widths of the inputs, and the terms made so far, in order
pub record Stored : Type 0 where
  pub inputs : List ℕ
  pub terms : List Term

-- the term t stands at the place i
abbrev pub StandsAt : List Term → ℕ → Term → Type 0
StandsAt ts i t = slice_get ts i ≡ Some t

-- new is old, or old with t behind it
pub data Adds (old : List Term) (t : Term) (new : List Term) : Type 0 where
  Same : new ≡ old → Adds old t new
  More : new ≡ old ++ t ∷ [] → Adds old t new

-- a store without terms
abbrev pub no_terms : List ℕ → Stored
no_terms inputs = record { inputs = inputs; terms = [] }

-- the term at a place, and beyond the last one a constant of width 0
abbrev pub term_at : Stored → ℕ → Term
term_at s i = get_or s.terms i (term_of (Constant 0 0) [])

-- the place of the k-th argument, 0 where there is none
abbrev pub nth : List TermId → ℕ → ℕ
nth [] k = 0
nth (a ∷ args) zero = a.0
nth (a ∷ args) (suc k) = nth args k

-- the place of the k-th argument of the term at a place
abbrev pub child : Stored → ℕ → ℕ → ℕ
child s i k = nth (term_at s i).args k
