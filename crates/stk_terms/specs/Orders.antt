-- Terms in a row, each behind its arguments.
use Rattle.std.specs.Prelude.{◌≡◌, ℕ, ◌<◌, ◌≤◌, Bool, List, length, get_or, nat_eq}
use Rattle.std.specs.List.{list_any}
use Rattle.stk_terms.specs.declared.term.TermId.{TermId}
use Rattle.stk_terms.specs.Terms.{Stored, term_at, child}
use Rattle.stk_terms.specs.Parts.{IsPart}
use Rattle.stk_terms.specs.Values.{number_at}

-- the place i is among the first n of the list
pub record HasBefore (ps : List ℕ) (n i : ℕ) : Type 0 where
  pub at : ℕ
  pub before : at < n
  pub is : get_or ps at 0 ≡ i

-- the place i is in the list
abbrev pub HasPlace : List ℕ → ℕ → Type 0
HasPlace ps i = HasBefore ps (length ps) i

-- the list has places below n of terms, each behind those of the term's arguments
pub record IsOrder (s : Stored) (n : ℕ) (ps : List ℕ) : Type 0 where
  pub few : n ≤ length s.terms
  pub below : (k : ℕ) → k < length ps → get_or ps k 0 < n
  pub behind : (k j : ℕ) → k < length ps → j < length (term_at s (get_or ps k 0)).args → HasBefore ps k (child s (get_or ps k 0) j)

-- each of the places is below those behind it
abbrev pub Rises : List ℕ → Type 0
Rises ps = (k m : ℕ) → k < m → m < length ps → get_or ps k 0 < get_or ps m 0

-- the list has the places of the parts of the term i, and no others, in ascending order
pub record AreParts (s : Stored) (i : ℕ) (ps : List ℕ) : Type 0 where
  pub rise : Rises ps
  pub all : (j : ℕ) → IsPart s j i → HasPlace ps j
  pub only : (j : ℕ) → HasPlace ps j → IsPart s j i

-- whether j is the place of one of the arguments
abbrev pub is_among : List TermId → ℕ → Bool
is_among args j = list_any (λ a. nat_eq a.0 j) args

-- the numbers of the terms at the first n places of the list stand at these places
abbrev pub AreNumbers : Stored → List ℕ → List ℕ → ℕ → List ℕ → Type 0
AreNumbers s residues ps n numbers = (k : ℕ) → k < n → get_or numbers (get_or ps k 0) 0 ≡ number_at s residues (get_or ps k 0)
