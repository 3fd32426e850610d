-- On which terms a term depends: its parts.
use Rattle.std.specs.Prelude.{◌≡◌, ℕ, zero, suc, ◌+◌, ◌<◌, ◌≤◌, Bool, true, false, ◌||◌, List, [], ◌∷◌, length, get_or, nat_eq, slice_set}
use Rattle.std.specs.List.{list_any}
use Rattle.stk_terms.specs.declared.term.TermId.{TermId}
use Rattle.stk_terms.specs.Terms.{Stored, term_at, child}

-- j is a part of i: i itself, or a part of an argument of i
pub data IsPart (s : Stored) (j : ℕ) : ℕ → Type 0 where
  Whole : (i : ℕ) → i ≡ j → IsPart s j i
  Within : (i k : ℕ) → k < length (term_at s i).args → IsPart s j (child s i k) → IsPart s j i

-- whether j is i, or is reached from it by going to an argument at most n times
abbrev pub reaches : ℕ → Stored → ℕ → ℕ → Bool
reaches zero s i j = nat_eq i j
reaches (suc n) s i j = nat_eq i j || list_any (λ a. reaches n s a.0 j) (term_at s i).args

-- whether j is a part of i: arguments stand before their term, so i goes suffice
abbrev pub is_part : Stored → ℕ → ℕ → Bool
is_part s i j = reaches i s i j

-- the list with true at the places of the arguments
abbrev pub marked : List Bool → List TermId → List Bool
marked m [] = m
marked m (a ∷ args) = marked (slice_set m a.0 true) args

-- only parts of i are marked, i is, and from the place `from` on with each marked term its arguments
pub record AreMarked (s : Stored) (i from : ℕ) (m : List Bool) : Type 0 where
  pub long : length m ≡ i + 1
  pub has : get_or m i false ≡ true
  pub only : (j : ℕ) → get_or m j false ≡ true → IsPart s j i
  pub goes_on : (j k : ℕ) → from ≤ j → get_or m j false ≡ true → k < length (term_at s j).args → get_or m (child s j k) false ≡ true
