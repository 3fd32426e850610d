-- What a part of a walk does as a whole: to the store, to the walk's state, and under each input map.
use Rattle.std.specs.Prelude.{ℕ, ◌≡◌, List, ◌++◌, ℤ}
use Rattle.stk_ctype.specs.declared.kind.IntKind.{IntKind}
use Rattle.stk_meaning.specs.Places.{Setting}
use Rattle.stk_meaning.specs.Worlds.{Ran}
use Rattle.stk_meaning.specs.Paths.{KeptNumbers}
use Rattle.stk_values.specs.Keeping.{Keeps}
use Rattle.stk_guarded.specs.Standing.{Standing}
use Rattle.stk_walking.specs.declared.state.Event.{Event}
use Rattle.stk_walking.specs.declared.state.WalkState.{WalkState}
use Rattle.stk_walking.specs.Events.{events_in}
use Rattle.stk_walking.specs.Stands.{Stands, IsMade}
use Rattle.stk_walking.specs.Keyed.{AreThere}
use Rattle.stk_walking.specs.Leads.{Leads}

-- what a part of a walk may rest on: the store has the keys, and the values of the state were made
pub record IsReady {S V : Type 0} (has_key : S → ℕ → IntKind → Type 0) (made : S → IntKind → V → Type 0) (kinds : List IntKind) (g : Setting) (a : S) (w : WalkState V) : Type 0 where
  pub keys : AreThere (has_key a) kinds
  pub values_made : IsMade (made a) g w

-- A part of a walk from a store and a state to others, under a premise on the input map: what it answers was made, and
-- so were the values of the state; the steps have these events; under each map it leaves what the run gives; and what
-- the store had, it still has.
pub record Walks {S V A : Type 0} (serves : S → List ℤ → Type 0) (has_key : S → ℕ → IntKind → Type 0) (made : S → IntKind → V → Type 0) (shows : S → List ℤ → IntKind → V → ℤ → Type 0) (g : Setting)
    (premise : List ℤ → Type 0) (answer : S → Type 0) (shown : S → List ℤ → A → Type 0) (run : List ℤ → List ℤ → KeptNumbers → Ran A KeptNumbers) (es : List Event) (a b : S) (w1 w2 : WalkState V) : Type 0 where
  pub answered : answer b
  pub values_made : IsMade (made b) g w2
  pub events : events_in w2.steps.items ≡ events_in w1.steps.items ++ es
  pub leads : (m : List ℤ) (s : Standing) → serves a m → premise m → Stands (shows a m) g w1 s → Leads (shows b m) g (shown b m) (run m s.numbers s.kept) s w2
  pub keeps : Keeps serves has_key made shows a b

-- a part that rests on nothing else and answers a value of a kind
abbrev pub WalksTo : {S V : Type 0} → (S → List ℤ → Type 0) → (S → ℕ → IntKind → Type 0) → (S → IntKind → V → Type 0) → (S → List ℤ → IntKind → V → ℤ → Type 0) → Setting → IntKind → V → (List ℤ → List ℤ → KeptNumbers → Ran ℤ KeptNumbers) → List Event → S → S → WalkState V → WalkState V → Type 0
WalksTo serves has_key made shows g k v run es a b w1 w2 = Walks serves has_key made shows g (λ m. Unit {0}) (λ c. made c k v) (λ c m x. shows c m k v x) run es a b w1 w2
