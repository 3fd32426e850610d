-- Goals of which some terms are inputs.
use Rattle.std.specs.Prelude.{◌≡◌, ◌<◌, ℕ, List, length, map}
use Rattle.std.specs.List.{All}
use Rattle.stk_terms.specs.declared.term.TermId.{TermId}
use Rattle.stk_terms.specs.Terms.{Stored}
use Rattle.stk_terms.specs.Fitting.{AreResidues}
use Rattle.stk_terms.specs.Values.{width_at, number_at}
use Rattle.stk_cuts.specs.declared.copying.Moved.{Moved}

-- the widths of terms
abbrev pub sizes_of : Stored → List TermId → List ℕ
sizes_of s ids = map (λ i. width_at s i.0) ids

-- the numbers of terms for residues of the inputs
abbrev pub numbers_of : Stored → List ℕ → List TermId → List ℕ
numbers_of s residues ids = map (λ i. number_at s residues i.0) ids

-- the inputs of new are cut terms of old; v is there, with the width of i, and has i's number where each input has
-- that of its cut term
pub record Copies (old : Stored) (cut : List TermId) (new : Stored) (i v : ℕ) : Type 0 where
  pub exists_ : v < length new.terms
  pub wide : width_at new v ≡ width_at old i
  pub value : (residues : List ℕ) → AreResidues old.inputs residues → number_at new (numbers_of old residues cut) v ≡ number_at old residues i

-- each of these terms of old has such a copy
abbrev pub AreCopies : Stored → List TermId → Stored → List Moved → Type 0
AreCopies old cut new moved = All (λ m. Copies old cut new m.from.0 m.to.0) moved
