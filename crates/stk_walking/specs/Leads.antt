-- What a part of a walk leaves, under each input map that its store serves.
use Rattle.std.specs.Prelude.{ℕ, List, ℤ}
use Rattle.stk_ctype.specs.declared.kind.IntKind.{IntKind}
use Rattle.stk_meaning.specs.Places.{Setting}
use Rattle.stk_meaning.specs.Worlds.{Ran, Flow}
use Rattle.stk_meaning.specs.Paths.{KeptNumbers}
use Rattle.stk_guarded.specs.Standing.{Standing, Goes}
use Rattle.stk_guarded.specs.Statements.{Flows}
use Rattle.stk_walking.specs.declared.state.WalkState.{WalkState}
use Rattle.stk_walking.specs.Stands.{Stands}

-- at one map: a number, where the walk stands, and that both are the run's
pub record Leads {V A : Type 0} (shows : IntKind → V → ℤ → Type 0) (g : Setting) (shown : A → Type 0) (run : Ran A KeptNumbers) (s : Standing) (w : WalkState V) : Type 0 where
  pub number : A
  pub standing : Standing
  pub value : shown number
  pub stands : Stands shows g w standing
  pub goes : Goes run number s standing

-- the same of a statement that declares registers
pub record Ends {V : Type 0} (shows : IntKind → V → ℤ → Type 0) (g : Setting) (ks : List ℕ) (run : Ran Flow KeptNumbers) (s : Standing) (w : WalkState V) : Type 0 where
  pub standing : Standing
  pub stands : Stands shows g w standing
  pub flows : Flows ks run s standing

-- an expression, under each map that is served, from wherever the walk stands
abbrev pub Evaluates : {V A : Type 0} → (List ℤ → Type 0) → (List ℤ → IntKind → V → ℤ → Type 0) → (List ℤ → IntKind → V → ℤ → Type 0) → Setting → (List ℤ → A → Type 0) → (List ℤ → List ℤ → KeptNumbers → Ran A KeptNumbers) → WalkState V → WalkState V → Type 0
Evaluates serves before after g shown run w1 w2 =
    (m : List ℤ) (s : Standing) → serves m → Stands (before m) g w1 s → Leads (after m) g (shown m) (run m s.numbers s.kept) s w2

-- a statement
abbrev pub Performs : {V : Type 0} → (List ℤ → Type 0) → (List ℤ → IntKind → V → ℤ → Type 0) → (List ℤ → IntKind → V → ℤ → Type 0) → Setting → List ℕ → (List ℤ → List ℤ → KeptNumbers → Ran Flow KeptNumbers) → WalkState V → WalkState V → Type 0
Performs serves before after g ks run w1 w2 =
    (m : List ℤ) (s : Standing) → serves m → Stands (before m) g w1 s → Ends (after m) g ks (run m s.numbers s.kept) s w2
