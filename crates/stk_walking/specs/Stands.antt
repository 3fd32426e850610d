-- What the values of a walk show at one input map.
use Rattle.std.specs.Prelude.{ℕ, ◌+◌, ◌≡◌, Bool, List, [], ◌∷◌, ℤ, Option, Some, None}
use Rattle.stk_ctype.specs.declared.kind.IntKind.{IntKind}
use Rattle.stk_ctype.specs.declared.kind.IntKind.TheVariants.{Int}
use Rattle.stk_meaning.specs.Operations.{bit}
use Rattle.stk_meaning.specs.Places.{Setting}
use Rattle.stk_meaning.specs.Paths.{KeptNumbers}
use Rattle.stk_kinded.specs.Kinds.{register_kind, cell_kind}
use Rattle.stk_guarded.specs.Standing.{Standing}
use Rattle.stk_guarded.specs.Cells.{content}
use Rattle.stk_walking.specs.declared.state.KeptCell.{KeptCell}
use Rattle.stk_walking.specs.declared.state.GuardedEvent.{GuardedEvent}
use Rattle.stk_walking.specs.declared.state.WalkState.{WalkState}
use Rattle.stk_walking.specs.Events.{Live, events_of}

-- each register from one on has its number, in its kind
abbrev pub RowShows : {V : Type 0} → (IntKind → V → ℤ → Type 0) → (ℕ → IntKind) → ℕ → List V → List ℤ → Type 0
RowShows shows kinds i [] [] = Unit {0}
RowShows shows kinds i [] (x ∷ xs) = ⊥
RowShows shows kinds i (v ∷ vs) [] = ⊥
RowShows shows kinds i (v ∷ vs) (x ∷ xs) = shows (kinds i) v x × RowShows shows kinds (i + 1) vs xs

-- a kept object: whether a number is kept, and that number
pub record CellShows {V : Type 0} (shows : IntKind → V → ℤ → Type 0) (k : IntKind) (c : KeptCell V) (found : Option ℤ) : Type 0 where
  pub known : Bool
  pub number : ℤ
  pub known_is : shows Int c.known (bit known)
  pub number_is : shows k c.number number
  pub is : found ≡ content known number

-- each kept object from one on
abbrev pub CellsShow : {V : Type 0} → (IntKind → V → ℤ → Type 0) → (ℕ → IntKind) → ℕ → List (KeptCell V) → KeptNumbers → Type 0
CellsShow shows kinds q [] [] = Unit {0}
CellsShow shows kinds q [] (x ∷ xs) = ⊥
CellsShow shows kinds q (c ∷ cs) [] = ⊥
CellsShow shows kinds q (c ∷ cs) (x ∷ xs) = CellShows shows (kinds q) c x × CellsShow shows kinds (q + 1) cs xs

-- a test that may be missing
abbrev pub MaybeShows : {V : Type 0} → (V → ℤ → Type 0) → Option V → Option Bool → Type 0
MaybeShows shows None None = Unit {0}
MaybeShows shows None (Some b) = ⊥
MaybeShows shows (Some v) None = ⊥
MaybeShows shows (Some v) (Some b) = shows v (bit b)

-- a walk stands where a run does
pub record Stands {V : Type 0} (shows : IntKind → V → ℤ → Type 0) (g : Setting) (w : WalkState V) (s : Standing) : Type 0 where
  pub guard : shows Int w.guard (bit s.alive)
  pub broken : shows Int w.broken (bit s.broken)
  pub continued : shows Int w.continued (bit s.continued)
  pub numbers : RowShows shows (register_kind g) 0 w.registers.items s.numbers
  pub kept : CellsShow shows (cell_kind g) 0 w.cells.items s.kept
  pub events : Live (shows Int) w.steps.items (events_of s.entries)

-- ---- the values of a walk were made

-- a test that may be missing
abbrev pub MaybeMade : {V : Type 0} → (V → Type 0) → Option V → Type 0
MaybeMade made None = Unit {0}
MaybeMade made (Some v) = made v

-- registers from one on, each in its kind
abbrev pub RowMade : {V : Type 0} → (IntKind → V → Type 0) → (ℕ → IntKind) → ℕ → List V → Type 0
RowMade made kinds i [] = Unit {0}
RowMade made kinds i (v ∷ vs) = made (kinds i) v × RowMade made kinds (i + 1) vs

-- kept objects from one on
abbrev pub CellsMade : {V : Type 0} → (IntKind → V → Type 0) → (ℕ → IntKind) → ℕ → List (KeptCell V) → Type 0
CellsMade made kinds q [] = Unit {0}
CellsMade made kinds q (c ∷ cs) = made Int c.known × (made (kinds q) c.number × CellsMade made kinds (q + 1) cs)

-- the tests of steps
abbrev pub StepsMade : {V : Type 0} → (IntKind → V → Type 0) → List (GuardedEvent V) → Type 0
StepsMade made [] = Unit {0}
StepsMade made (x ∷ xs) = made Int x.test × StepsMade made xs

-- all values of a walk
pub record IsMade {V : Type 0} (made : IntKind → V → Type 0) (g : Setting) (w : WalkState V) : Type 0 where
  pub guard : made Int w.guard
  pub broken : made Int w.broken
  pub continued : made Int w.continued
  pub registers : RowMade made (register_kind g) 0 w.registers.items
  pub cells : CellsMade made (cell_kind g) 0 w.cells.items
  pub steps : StepsMade made w.steps.items
