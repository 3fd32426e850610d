-- Marks of true literals, and what a look at a clause finds.
use Rattle.std.specs.Prelude.{◌≡◌, ◌≢◌, ℕ, List, slice_index, ◌↔◌, Option, Some, None}
use Rattle.std.specs.List.{Contains}
use Rattle.stk_clauses.specs.declared.literal.Lit.{Lit}
use Rattle.stk_clauses.specs.Literals.{negated, AreBelow}
use Rattle.stk_clauses.specs.Propagation.{HasNoPair}
use Rattle.stk_clauses.specs.Hints.{IsUnit}
use Rattle.stk_check.specs.declared.marks.Seen.{Seen}
use Rattle.stk_check.specs.declared.marks.Seen.TheVariants.{Falsified, Single, Other}

-- a literal is true where its mark is the stamp
abbrev pub IsMarked : List ℕ → ℕ → Lit → Type 0
IsMarked marks stamp l = slice_index marks l.0 ≡ stamp

-- all literals are false; or the one that isn't false is unassigned; or neither
abbrev pub IsSeen : (Lit → Type 0) → List Lit → Seen → Type 0
IsSeen S c Falsified = (m : Lit) → Contains c m → S (negated m)
IsSeen S c (Single l) = IsUnit S c l
IsSeen S c Other = (((m : Lit) → Contains c m → S (negated m)) → ⊥) × ((l : Lit) → IsUnit S c l → ⊥)

-- what a look has found in the literals so far: the one that isn't false, if there is one
abbrev pub IsSeenSoFar : (Lit → Type 0) → List Lit → Option Lit → Type 0
IsSeenSoFar S c None = (m : Lit) → Contains c m → S (negated m)
IsSeenSoFar S c (Some l) = Contains c l × (S (negated l) → ⊥) × ((m : Lit) → Contains c m → m ≢ l → S (negated m))

-- the clause's variables are below vars, and no literal stands beside its negation
abbrev pub IsGood : ℕ → List Lit → Type 0
IsGood vars c = AreBelow vars c × HasNoPair c

-- exactly the negations of the clause's literals are marked
abbrev pub AreFalse : List ℕ → ℕ → List Lit → Type 0
AreFalse marks stamp c = (m : Lit) → IsMarked marks stamp m ↔ Contains c (negated m)
