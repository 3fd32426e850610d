-- What stays when a store grows.
use Rattle.std.specs.Prelude.{◌≡◌, ℕ, ◌<◌, ◌≤◌, List, length}
use Rattle.stk_terms.specs.Terms.{Stored, Term, StandsAt}
use Rattle.stk_terms.specs.Values.{meaning, width_at}

-- older terms keep their operators, arguments, widths and numbers, and the inputs stay
pub record Keeps (old new : Stored) : Type 0 where
  pub inputs_stay : new.inputs ≡ old.inputs
  pub longer : length old.terms ≤ length new.terms
  pub stand : (i : ℕ) (t : Term) → StandsAt old.terms i t → StandsAt new.terms i t
  pub meant : (residues : List ℕ) (i : ℕ) → i < length old.terms → meaning new residues i ≡ meaning old residues i
  pub wide : (i : ℕ) → i < length old.terms → width_at new i ≡ width_at old i
