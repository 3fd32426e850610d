-- What an analysis has come to. t has the true literals in the order in which they became true.
use Rattle.std.specs.Prelude.{◌≡◌, ◌≢◌, ◌⊎◌, ℕ, ◌<◌, ◌≤◌, Bool, List, length, take, reverse, slice_index_or}
use Rattle.std.specs.List.{Contains}
use Rattle.stk_clauses.specs.declared.literal.Lit.{Lit}
use Rattle.stk_clauses.specs.Hints.{Leads}
use Rattle.stk_propagate.specs.Assigned.{Assigned}
use Rattle.stk_propagate.specs.Trailed.{IsAssumed}
use Rattle.stk_solver.specs.Marking.{Marked}

-- the hints, read backwards, lead to a falsified clause from any literals that have the marked ones and, beside them,
-- none but some of the first k
pub record Guided (cs : List (List Lit)) (t : List Lit) (k : ℕ) (marked : List Bool) (back : List ℕ) : Type 0 where
  pub inside : (m : Lit) → Marked marked m → Contains t m
  pub some : 0 < length back
  pub leads : (s : List Lit) → ((m : Lit) → Contains s m → Contains (take k t) m ⊎ Marked marked m) → ((m : Lit) → Marked marked m → Contains s m) → Leads cs (Contains s) (reverse back)

-- the marked literals are the one at this place, and such as stand before low
pub record IsPoint (t : List Lit) (low place : ℕ) (marked : List Bool) : Type 0 where
  pub late : low ≤ place
  pub exists : place < length t
  pub itself : (d : Lit) → Marked marked (slice_index_or t place d)
  pub others : (m d : Lit) → Marked marked m → Contains (take low t) m ⊎ (m ≡ slice_index_or t place d)

-- the literal at this place was assumed, and none behind it
pub record IsLastAssumed (a : Assigned) (low : ℕ) : Type 0 where
  pub itself : IsAssumed a low
  pub last : (k : ℕ) → IsAssumed a k → k ≤ low

-- the literal at the place gave way to such as stand before it
pub record IsReplaced (t : List Lit) (place : ℕ) (old new : List Bool) : Type 0 where
  pub less : (m d : Lit) → Marked new m → (Marked old m × (m ≢ slice_index_or t place d)) ⊎ Contains (take place t) m
  pub kept : (m d : Lit) → Marked old m → m ≢ slice_index_or t place d → Marked new m

-- what is marked now was marked, or stands before the place; and what isn't any more stood at the place
pub record AreWithin (t : List Lit) (place : ℕ) (old new : List Bool) : Type 0 where
  pub less : (m : Lit) → Marked new m → Marked old m ⊎ Contains (take place t) m
  pub kept : (m d : Lit) → Marked old m → m ≢ slice_index_or t place d → Marked new m
