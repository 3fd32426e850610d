-- What a trail has to do with a list of clauses.
use Rattle.std.specs.Prelude.{◌≡◌, ◌≢◌, ◌⊎◌, ℕ, ◌<◌, ◌≤◌, List, [], length, take, slice_index_or, Option, Some, None}
use Rattle.std.specs.List.{Contains, All}
use Rattle.stk_clauses.specs.declared.literal.Lit.{Lit}
use Rattle.stk_clauses.specs.Literals.{negated, AreBelow}
use Rattle.stk_clauses.specs.Propagation.{IsQuiet}
use Rattle.stk_propagate.specs.Assigned.{Assigned}
use Rattle.stk_propagate.specs.Trailed.{Trailed, IsAssumed}

-- l is in the clause, and its other literals are false
pub record IsReason (t c : List Lit) (l : Lit) : Type 0 where
  pub has : Contains c l
  pub others : (m : Lit) → Contains c m → m ≢ l → Contains t (negated m)

-- each reason is a clause whose other literals were false when its literal became true
abbrev pub AreReasons : Assigned → List (List Lit) → Type 0
AreReasons a cs = (k r : ℕ) (d : Lit) → k < length a.literals → slice_index_or a.reasons k None ≡ Some r → (r < length cs) × IsReason (take k a.literals) (slice_index_or cs r []) (slice_index_or a.literals k d)

-- quiet, or empty
abbrev pub IsSettled : List Lit → List Lit → Type 0
IsSettled t c = IsQuiet t c ⊎ (c ≡ [])

-- two different literals of the clause are watched, or none, where it has fewer than two
abbrev pub IsWatched : List Lit → Option (Lit × Lit) → Type 0
IsWatched c None = length c < 2
IsWatched c (Some w) = Contains c w.0 × Contains c w.1 × (w.0 ≢ w.1)

-- a watched literal that is false where those of s are true has a true one of t beside it; a clause without watched
-- ones has a true one of t
abbrev pub IsCalm : List Lit → List Lit → List Lit → Option (Lit × Lit) → Type 0
IsCalm s t c None = (l : Lit) × Contains c l × Contains t l
IsCalm s t c (Some w) = (Contains s (negated w.0) → Contains t w.1) × (Contains s (negated w.1) → Contains t w.0)

-- the trail is one over these clauses: each has its watched literals; reasons are reasons; at each assumption all
-- clauses were settled, and the watches calm, by the literals before it; and the watches of the clauses that were
-- looked at are calm as far as propagation went
pub record Fits (s : Trailed) (cs : List (List Lit)) : Type 0 where
  pub below : All (AreBelow s.assigned.vars) cs
  pub counted : length s.watches ≡ length cs
  pub watched : (id : ℕ) → id < length cs → IsWatched (slice_index_or cs id []) (slice_index_or s.watches id None)
  pub reasons : AreReasons s.assigned cs
  pub settled : (k id : ℕ) → IsAssumed s.assigned k → id < length cs → IsSettled (take k s.assigned.literals) (slice_index_or cs id [])
  pub calm : (k id : ℕ) → IsAssumed s.assigned k → id < s.looked → IsCalm (take k s.assigned.literals) (take k s.assigned.literals) (slice_index_or cs id []) (slice_index_or s.watches id None)
  pub ahead : (k : ℕ) → IsAssumed s.assigned k → k ≤ s.propagated
  pub going : s.propagated ≤ length s.assigned.literals
  pub looking : s.looked ≤ length cs
  pub covered : (id : ℕ) → id < s.looked → IsCalm (take s.propagated s.assigned.literals) s.assigned.literals (slice_index_or cs id []) (slice_index_or s.watches id None)

-- the clause is empty, or has a literal that isn't false
abbrev pub IsAlive : List Lit → List Lit → Type 0
IsAlive t c = (c ≡ []) ⊎ ((u : Lit) × Contains c u × (Contains t (negated u) → ⊥))

-- where u alone isn't false, nothing is assumed, or another literal became false with the last assumed literal or after
-- it
abbrev pub IsTimely : Assigned → List Lit → Type 0
IsTimely a c = (u : Lit) → Contains c u → (Contains a.literals (negated u) → ⊥) → ((m : Lit) → Contains c m → m ≢ u → Contains a.literals (negated m))
    → ((k : ℕ) → IsAssumed a k → ⊥) ⊎ ((m : Lit) × Contains c m × (m ≢ u) × ((k : ℕ) → IsAssumed a k → Contains (take k a.literals) (negated m) → ⊥))
