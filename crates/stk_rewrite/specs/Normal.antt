-- Terms of which no part is the left side of a rule.
use Rattle.std.specs.Prelude.{◌≡◌, ℕ, ◌<◌, Bool, true, false, List, length, get_or}
use Rattle.stk_terms.specs.declared.term.TermId.{TermId}
use Rattle.stk_terms.specs.Terms.{Stored, term_at, child}
use Rattle.stk_terms.specs.Fitting.{AreResidues}
use Rattle.stk_terms.specs.Parts.{IsPart}
use Rattle.stk_terms.specs.Values.{width_at, number_at}
use Rattle.stk_rewrite.specs.Rules.{is_left_at}

-- the term exists, and no part of it is the left side of a rule
pub record IsNormal (s : Stored) (i : ℕ) : Type 0 where
  pub exists_ : i < length s.terms
  pub none : (j : ℕ) → IsPart s j i → is_left_at s j ≡ false

-- no term of the store is the left side of a rule
pub record AreNormal (s : Stored) : Type 0 where
  pub each : (v : ℕ) → v < length s.terms → is_left_at s v ≡ false

-- the term v of new has no such part, and the width and the numbers of the term i of old
pub record Simplifies (old new : Stored) (i v : ℕ) : Type 0 where
  pub normal : IsNormal new v
  pub wide : width_at new v ≡ width_at old i
  pub value : (residues : List ℕ) → AreResidues old.inputs residues → number_at new residues v ≡ number_at old residues i

-- each chosen one of the first terms has one that stands for it
abbrev pub AreSimplified : Stored → (ℕ → Bool) → List TermId → Type 0
AreSimplified s chosen done = (k : ℕ) (e : TermId) → k < length done → chosen k ≡ true → Simplifies s s k (get_or done k e).0

-- each argument of the term has one that stands for it
abbrev pub ChildrenDone : Stored → List TermId → ℕ → Type 0
ChildrenDone s done i = (k : ℕ) (e : TermId) → k < length (term_at s i).args → Simplifies s s (child s i k) (get_or done (child s i k) e).0
