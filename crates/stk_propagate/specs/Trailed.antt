-- A trail as contracts see it.
use Rattle.std.specs.Prelude.{◌≡◌, ℕ, ◌<◌, ◌+◌, ◌++◌, List, map, length, take, slice_index_or, Option, Some, None}
use Rattle.std.specs.List.{sum_by}
use Rattle.stk_clauses.specs.declared.literal.Lit.{Lit}
use Rattle.stk_propagate.specs.Assigned.{Assigned}

-- the true literals with their reasons; of each clause that was taken in its two watched literals, if it has two; how
-- many of the true literals propagation has gone through, and how many of the clauses it has looked at
pub record Trailed : Type 0 where
  pub assigned : Assigned
  pub watches : List (Option (Lit × Lit))
  pub propagated : ℕ
  pub looked : ℕ

-- the literal at the place was assumed
abbrev pub IsAssumed : Assigned → ℕ → Type 0
IsAssumed a k = (k < length a.literals) × (slice_index_or a.reasons k None ≡ None)

-- 1 for an assumed literal, by its reason
abbrev pub one_if_assumed : Option ℕ → ℕ
one_if_assumed None = 1
one_if_assumed (Some r) = 0

-- the level of the literal at the place: how many literals as far as this one were assumed
abbrev pub level_of : List (Option ℕ) → ℕ → ℕ
level_of reasons k = sum_by one_if_assumed (take (k + 1) reasons)

-- the new literals go on from the old ones, each with a clause as its reason
pub record IsGrown (old new : Assigned) : Type 0 where
  pub vars : new.vars ≡ old.vars
  pub more : (xs : List Lit) × (new.literals ≡ old.literals ++ xs)
  pub why : (rs : List ℕ) × (new.reasons ≡ old.reasons ++ map (λ r. Some r) rs)
