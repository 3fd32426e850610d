-- The events of the walk of a function's body: each is one of the function's conditions or candidates, and none stands
-- twice among them.
use Rattle.std.specs.Prelude.{List, [], ◌∷◌}
use Rattle.stk_tree.specs.Syntax.{FunctionTree}
use Rattle.stk_numbers.specs.declared.conditions.Kinds.{Kinds}
use Rattle.stk_meaning.specs.Typings.{Typing}
use Rattle.stk_meaning.specs.Keys.{setting_of, body_of}
use Rattle.stk_meaning.specs.Lists.{conditions, candidates}
use Rattle.stk_run_laws.specs.Visits.{IsIn, IsNumbered}
use Rattle.stk_run_laws.specs.TypedOperands.{HasScalarOperands}
use Rattle.stk_walking.specs.declared.state.Event.{Event}
use Rattle.stk_walking.specs.declared.state.Event.TheVariants.{Broken, Hit}
use Rattle.stk_walking.specs.StatementEvents.{statement_events}

-- the events of the walk of the body
abbrev pub body_events : Typing → Kinds → FunctionTree → List Event
body_events ty without f = statement_events (setting_of ty without f) (body_of f)

-- one of the function's conditions, or one of its candidates
abbrev pub IsListedEvent : Typing → Kinds → FunctionTree → Event → Type 0
IsListedEvent ty without f (Broken k) = IsIn k (conditions ty without f)
IsListedEvent ty without f (Hit c) = IsIn c (candidates ty f)

abbrev pub EventsAreListed : Type 0
EventsAreListed = (ty : Typing) (without : Kinds) (f : FunctionTree) → HasScalarOperands ty f → (x : Event) → IsIn x (body_events ty without f) → IsListedEvent ty without f x

-- no element of a list stands there twice
abbrev pub StandOnce : {A : Type 0} → List A → Type 0
StandOnce [] = Unit {0}
StandOnce (x ∷ xs) = (IsIn x xs → ⊥) × StandOnce xs

abbrev pub EventsStandOnce : Type 0
EventsStandOnce = (ty : Typing) (without : Kinds) (f : FunctionTree) → IsNumbered ty f → HasScalarOperands ty f → StandOnce (body_events ty without f)
