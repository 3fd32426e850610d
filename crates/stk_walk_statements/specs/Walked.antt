-- What a part of a walk leaves: the values of the walk were made, its steps have the events of the part, what was made
-- keeps its numbers, and under each input map that the store serves the walk stands where a run of the part does.
use Rattle.std.specs.Prelude.{ℕ, ◌≡◌, true, List, ◌++◌, Option, None, ℤ}
use Rattle.stk_ctype.specs.declared.kind.IntKind.{IntKind}
use Rattle.stk_meaning.specs.Places.{Setting}
use Rattle.stk_meaning.specs.Worlds.{Ran, Flow, Normal}
use Rattle.stk_meaning.specs.Paths.{KeptNumbers}
use Rattle.stk_values.specs.Keeping.{Keeps}
use Rattle.stk_guarded.specs.Standing.{Standing, Goes}
use Rattle.stk_guarded.specs.Statements.{Flows, Declares}
use Rattle.stk_guarded.specs.Sections.{begins, Falls}
use Rattle.stk_walking.specs.declared.state.Event.{Event}
use Rattle.stk_walking.specs.declared.state.WalkState.{WalkState}
use Rattle.stk_walking.specs.Events.{events_in}
use Rattle.stk_walking.specs.Stands.{Stands, IsMade}
use Rattle.stk_walk_statements.specs.Selected.{TestsShow}

-- the run of a part under an input map, from registers and kept numbers
abbrev pub RunOf : Type 0
RunOf = List ℤ → List ℤ → KeptNumbers → Ran Flow KeptNumbers

-- how a part goes from where the walk stands to where it stands then, under an input map: as a statement that declares
-- registers for what follows it, as the declaration of some, and as a part that ends as it should
abbrev pub Course : Type 1
Course = List ℤ → Standing → Standing → Type 0

abbrev pub as_flow : List ℕ → RunOf → Course
as_flow ks run m s t = Flows ks (run m s.numbers s.kept) s t

abbrev pub as_declaration : List ℕ → RunOf → Course
as_declaration ks run m s t = Declares ks (run m s.numbers s.kept) Normal s t

abbrev pub as_part : RunOf → Course
as_part run m s t = Goes (run m s.numbers s.kept) Normal s t

-- where a walk stands, under an input map, with what is said of that
pub record Stood {V : Type 0} (shows : IntKind → V → ℤ → Type 0) (g : Setting) (P : Standing → Type 0) (w : WalkState V) : Type 0 where
  pub standing : Standing
  pub stands : Stands shows g w standing
  pub is : P standing

-- a part of a walk, from one store and state to others
pub record Walked {S V : Type 0} (serves : S → List ℤ → Type 0) (has_key : S → ℕ → IntKind → Type 0) (makes : S → IntKind → V → Type 0) (shows : S → List ℤ → IntKind → V → ℤ → Type 0) (g : Setting) (es : List Event) (course : Course) (a b : S) (w1 w2 : WalkState V) : Type 0 where
  pub made : IsMade (makes b) g w2
  pub events : events_in w2.steps.items ≡ events_in w1.steps.items ++ es
  pub follows : (m : List ℤ) (s : Standing) → serves a m → Stands (shows a m) g w1 s → Stood (shows b m) g (course m s) w2
  pub keeps : Keeps serves has_key makes shows a b

-- the sections of a `switch`, whose tests say where control goes that is in none of them, from where it falls into them
-- or goes to
pub record WalkedSections {S V : Type 0} (serves : S → List ℤ → Type 0) (has_key : S → ℕ → IntKind → Type 0) (makes : S → IntKind → V → Type 0) (shows : S → List ℤ → IntKind → V → ℤ → Type 0) (g : Setting) (es : List Event) (tests : List V) (run : List ℤ → ℕ → List ℤ → KeptNumbers → Ran Flow KeptNumbers) (a b : S) (w1 w2 : WalkState V) : Type 0 where
  pub made : IsMade (makes b) g w2
  pub events : events_in w2.steps.items ≡ events_in w1.steps.items ++ es
  pub follows : (m : List ℤ) (s : Standing) (goes_to : Option ℕ) → serves a m → TestsShow (shows a m) tests goes_to → (s.alive ≡ true → goes_to ≡ None) → Stands (shows a m) g w1 s → Stood (shows b m) g (λ t. Falls (run m) (begins s.alive goes_to) s t) w2
  pub keeps : Keeps serves has_key makes shows a b
