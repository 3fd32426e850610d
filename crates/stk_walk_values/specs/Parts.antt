-- What parts of the walk of an expression do, by what they answer.
use Rattle.std.specs.Prelude.{ℕ, List, ℤ, pos}
use Rattle.stk_ctype.specs.declared.kind.IntKind.{IntKind}
use Rattle.stk_ctype.specs.declared.kind.IntKind.TheVariants.{ULong}
use Rattle.stk_meaning.specs.Places.{Setting}
use Rattle.stk_meaning.specs.Worlds.{Ran}
use Rattle.stk_meaning.specs.Paths.{KeptNumbers}
use Rattle.stk_meaning.specs.Expressions as runs
use Rattle.stk_walking.specs.declared.state.Event.{Event}
use Rattle.stk_walking.specs.declared.state.WalkState.{WalkState}
use Rattle.stk_walking.specs.Walks.{Walks}
use Rattle.stk_walk_values.specs.declared.sides.Sides.{Sides}
use Rattle.stk_walk_values.specs.Sided.{SidesMade, SidesShow}

-- a run of a part under an input map, from registers and kept numbers
abbrev pub Runs : Type 0 → Type 0
Runs A = List ℤ → List ℤ → KeptNumbers → Ran A KeptNumbers

-- a value of a kind, where the input map has what the part rests on
abbrev pub WalksBehind : {S V : Type 0} → (S → List ℤ → Type 0) → (S → ℕ → IntKind → Type 0) → (S → IntKind → V → Type 0) → (S → List ℤ → IntKind → V → ℤ → Type 0) → Setting → (List ℤ → Type 0) → IntKind → V → Runs ℤ → List Event → S → S → WalkState V → WalkState V → Type 0
WalksBehind serves has_key made shows g premise k v run es a b w1 w2 = Walks serves has_key made shows g premise (λ c. made c k v) (λ c m x. shows c m k v x) run es a b w1 w2

-- the address of a place, which is an `unsigned long`
abbrev pub FindsBehind : {S V : Type 0} → (S → List ℤ → Type 0) → (S → ℕ → IntKind → Type 0) → (S → IntKind → V → Type 0) → (S → List ℤ → IntKind → V → ℤ → Type 0) → Setting → (List ℤ → Type 0) → V → Runs ℕ → List Event → S → S → WalkState V → WalkState V → Type 0
FindsBehind serves has_key made shows g premise v run es a b w1 w2 = Walks serves has_key made shows g premise (λ c. made c ULong v) (λ c m x. shows c m ULong v (pos x)) run es a b w1 w2

abbrev pub Finds : {S V : Type 0} → (S → List ℤ → Type 0) → (S → ℕ → IntKind → Type 0) → (S → IntKind → V → Type 0) → (S → List ℤ → IntKind → V → ℤ → Type 0) → Setting → V → Runs ℕ → List Event → S → S → WalkState V → WalkState V → Type 0
Finds serves has_key made shows g v run es a b w1 w2 = FindsBehind serves has_key made shows g (λ m. Unit {0}) v run es a b w1 w2

-- a side of a comparison
abbrev pub WalksToSides : {S V : Type 0} → (S → List ℤ → Type 0) → (S → ℕ → IntKind → Type 0) → (S → IntKind → V → Type 0) → (S → List ℤ → IntKind → V → ℤ → Type 0) → Setting → IntKind → Sides V → Runs runs.Sides → List Event → S → S → WalkState V → WalkState V → Type 0
WalksToSides serves has_key made shows g k v run es a b w1 w2 = Walks serves has_key made shows g (λ m. Unit {0}) (λ c. SidesMade (made c) k v) (λ c m x. SidesShow (shows c m) k v x) run es a b w1 w2
