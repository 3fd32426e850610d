-- The fields of a trail, and the chains of its watches. The places of the clause id are 2 id, for its first watched
-- literal, and 2 id + 1.
use Rattle.std.specs.Prelude.{◌≡◌, ◌⊎◌, ◌↔◌, ℕ, ◌<◌, ◌+◌, ◌-◌, ◌*◌, ◌/◌, ◌%◌, ◌^◌, ◌==◌, if◌then◌else◌, List, [], length, slice_index_or, Option, Some, None}
use Rattle.std.specs.List.{Contains}
use Rattle.stk_clauses.specs.declared.literal.Lit.{Lit}
use Rattle.stk_propagate.specs.WatchLists.{Chained}
use Rattle.stk_propagate.specs.declared.inner.Inner.{Inner}
use Rattle.stk_propagate.specs.Trailed.{Trailed}

abbrev pub trailed : Inner → Trailed
trailed f = record { assigned = f.assigned; watches = f.watches.items; propagated = f.head; looked = f.looked }

-- the literal that one side of two watched literals watches
abbrev pub side_of : Option (Lit × Lit) → ℕ → Option Lit
side_of None s = None
side_of (Some w) s = Some (if s == 0 then w.0 else w.1)

-- the literal that a place watches
abbrev pub watch_at : List (Option (Lit × Lit)) → ℕ → Option Lit
watch_at watches x = side_of (slice_index_or watches (x / 2) None) (x % 2)

-- the clause's other place
abbrev pub twin : ℕ → ℕ
twin x = x + 1 - 2 * (x % 2)

-- two watched literals, the first one watched by this place
abbrev pub pair_of : ℕ → Lit → Lit → Lit × Lit
pair_of x l other = if x % 2 == 0 then (l, other) else (other, l)

-- a chain of a literal, and the spare one
abbrev pub chain_of : Inner → Lit → List ℕ
chain_of f l = slice_index_or f.chains.chains l.0 []

abbrev pub InSpare : Inner → ℕ → Type 0
InSpare f x = Contains (slice_index_or f.chains.chains (2 * f.assigned.vars) []) x

abbrev pub InSpareOr : Inner → ℕ → ℕ → Type 0
InSpareOr f n x = InSpare f x ⊎ (x ≡ n)

abbrev pub IsFree : Chained → ℕ → Type 0
IsFree c x = (l : ℕ) → Contains (slice_index_or c.chains l []) x → ⊥

-- a chain for each literal and a spare one, over two places for each clause
pub record IsSized (f : Inner) : Type 0 where
  pub many : length f.chains.chains ≡ 2 * f.assigned.vars + 1
  pub numbered : f.chains.numbers ≡ 2 * length f.watches.items
  pub few : length f.watches.items < 2 ^ 31

-- the chain of each literal holds the places that watch it, of the clauses that were looked at; those of w may be in
-- extra too
abbrev pub AreLinked : Inner → Lit → (ℕ → Type 0) → Type 0
AreLinked f w extra = (l : Lit) (x : ℕ) → l.0 < 2 * f.assigned.vars → (Contains (chain_of f l) x ⊎ ((l ≡ w) × extra x)) ↔ ((x / 2 < f.looked) × (watch_at f.watches.items x ≡ Some l))

-- the chain of each literal holds the places that watch it, of the clauses that were looked at, and the spare one is
-- empty
pub record IsLinked (f : Inner) : Type 0 where
  pub sized : IsSized f
  pub linked : (l : Lit) (x : ℕ) → l.0 < 2 * f.assigned.vars → Contains (chain_of f l) x ↔ ((x / 2 < f.looked) × (watch_at f.watches.items x ≡ Some l))
  pub spare : (x : ℕ) → InSpare f x → ⊥

-- each place in the spare chain has a true literal beside it
abbrev pub AreCalmed : Inner → Type 0
AreCalmed f = (x : ℕ) (m : Lit) → InSpare f x → watch_at f.watches.items (twin x) ≡ Some m → Contains f.assigned.literals m
