-- Steps by their hints.
use Rattle.std.specs.Prelude.{◌≡◌, ◌≢◌, ◌⊎◌, ℕ, ◌<◌, List, [], ◌∷◌, length, slice_index_or}
use Rattle.std.specs.List.{Contains}
use Rattle.stk_clauses.specs.declared.literal.Lit.{Lit}
use Rattle.stk_clauses.specs.Literals.{negated, AreBelow}
use Rattle.stk_clauses.specs.Propagation.{HasNoPair}

-- l is the clause's one literal that isn't false, and it isn't true yet, where the literals of S are true
abbrev pub IsUnit : (Lit → Type 0) → List Lit → Lit → Type 0
IsUnit S c l = Contains c l × (S l → ⊥) × (S (negated l) → ⊥) × ((m : Lit) → Contains c m → m ≢ l → S (negated m))

-- the literals of S, and l too
abbrev pub With : (Lit → Type 0) → Lit → Lit → Type 0
With S l m = S m ⊎ (m ≡ l)

-- the hints lead to a falsified clause: each names a clause, each but the last makes one literal true, and the last has
-- only false literals
abbrev pub Leads : List (List Lit) → (Lit → Type 0) → List ℕ → Type 0
Leads cs S [] = ⊥
Leads cs S (h ∷ []) = (h < length cs) × ((m : Lit) → Contains (slice_index_or cs h []) m → S (negated m))
Leads cs S (h ∷ g ∷ hs) = (h < length cs) × ((l : Lit) × IsUnit S (slice_index_or cs h []) l × Leads cs (With S l) (g ∷ hs))

-- the clause is by these hints over the clauses cs: all its literals being assumed false, the hints lead to a falsified
-- clause
abbrev pub IsByHints : ℕ → List (List Lit) → List Lit → List ℕ → Type 0
IsByHints vars cs c hints = AreBelow vars c × HasNoPair c × Leads cs (λ m. Contains c (negated m)) hints
