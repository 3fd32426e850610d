-- What a learnt clause is, and the levels of a search.
use Rattle.std.specs.Prelude.{◌≡◌, ℕ, ◌<◌, List, ◌∷◌, length, slice_index}
use Rattle.std.specs.List.{Contains}
use Rattle.stk_clauses.specs.declared.literal.Lit.{Lit}
use Rattle.stk_clauses.specs.Literals.{negated}
use Rattle.stk_clauses.specs.Propagation.{IsOpen}
use Rattle.stk_propagate.specs.Assigned.{Assigned}
use Rattle.stk_propagate.specs.Trailed.{IsAssumed}

-- where the literals of t are true, the clause's first literal is unassigned and its others are false
abbrev pub IsAsserting : List Lit → List Lit → Type 0
IsAsserting t c = (first : Lit) × (rest : List Lit) × (c ≡ first ∷ rest) × IsOpen t first × ((m : Lit) → Contains rest m → Contains t (negated m))

-- the places of the assumed literals, in order
pub record AreLevels (a : Assigned) (levels : List ℕ) : Type 0 where
  pub known : (j : ℕ) → j < length levels → IsAssumed a (slice_index levels j)
  pub each : (k : ℕ) → IsAssumed a k → (j : ℕ) × (j < length levels) × (slice_index levels j ≡ k)
  pub rising : (i j : ℕ) → i < j → j < length levels → slice_index levels i < slice_index levels j
