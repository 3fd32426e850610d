-- Unit propagation, as the least set of literals that is closed under the unit rule; new clauses; and partial
-- assignments.
use Rattle.std.specs.Prelude.{◌≢◌, ◌⊎◌, List}
use Rattle.std.specs.List.{Contains, All}
use Rattle.stk_clauses.specs.declared.literal.Lit.{Lit}
use Rattle.stk_clauses.specs.Literals.{negated}

-- l is true after unit propagation from the clauses cs, where the literals of A are assumed
pub data Forced (cs : List (List Lit)) (A : Lit → Type 0) : Lit → Type 0 where
  assumed : {l : Lit} → A l → Forced cs A l
  unit : {c : List Lit} {l : Lit} → Contains cs c → Contains c l → ((m : Lit) → Contains c m → m ≢ l → Forced cs A (negated m)) → Forced cs A l

-- unit propagation makes each literal of some clause false
abbrev pub Falsifies : List (List Lit) → (Lit → Type 0) → Type 0
Falsifies cs A = (c : List Lit) × Contains cs c × ((m : Lit) → Contains c m → Forced cs A (negated m))

-- unit propagation leaves l's variable unassigned
abbrev pub Leaves : List (List Lit) → (Lit → Type 0) → Lit → Type 0
Leaves cs A l = (Forced cs A l → ⊥) × (Forced cs A (negated l) → ⊥)

-- the negations of c's literals other than l
abbrev pub OthersFalse : List Lit → Lit → Lit → Type 0
OthersFalse c l m = Contains c (negated m) × (m ≢ negated l)

-- a new clause has a literal such that, its other literals being assumed false, propagation falsifies no clause and
-- leaves it unassigned
abbrev pub IsNew : List (List Lit) → List Lit → Type 0
IsNew cs c = (l : Lit) × Contains c l × (Falsifies cs (OthersFalse c l) → ⊥) × Leaves cs (OthersFalse c l) l

-- neither the literal nor its negation is among the true literals t
abbrev pub IsOpen : List Lit → Lit → Type 0
IsOpen t l = (Contains t l → ⊥) × (Contains t (negated l) → ⊥)

-- each literal of the clause is false, where the literals of t are true
abbrev pub AllFalse : List Lit → List Lit → Type 0
AllFalse t c = (m : Lit) → Contains c m → Contains t (negated m)

-- a clause is quiet where it has a true literal, or two unassigned ones
abbrev pub IsQuiet : List Lit → List Lit → Type 0
IsQuiet t c = ((l : Lit) × Contains c l × Contains t l) ⊎ ((a : Lit) × (b : Lit) × (a ≢ b) × Contains c a × Contains c b × IsOpen t a × IsOpen t b)

-- each clause is quiet
abbrev pub AreQuiet : List Lit → List (List Lit) → Type 0
AreQuiet t cs = All (IsQuiet t) cs

-- no literal stands beside its negation
abbrev pub HasNoPair : List Lit → Type 0
HasNoPair c = (l : Lit) → Contains c l → Contains c (negated l) → ⊥
