-- A number that is made before the steps of what is asked of its operands.
use Rattle.std.proofs.Common.{◌≡◌, ℕ, List, ◌++◌, ℤ}
use Rattle.stk_ctype.specs.declared.kind.IntKind.{IntKind}
use Rattle.stk_meaning.specs.declared.entry.Entry.{Entry}
use Rattle.stk_meaning.specs.Places.{Setting}
use Rattle.stk_meaning.specs.Worlds.{Went}
use Rattle.stk_values.specs.Keeping.{Keeps}
use Rattle.stk_guarded.specs.Standing.{Standing, added}
use Rattle.stk_walking.specs.declared.state.Event.{Event}
use Rattle.stk_walking.specs.declared.state.WalkState.{WalkState}
use Rattle.stk_walking.specs.Events.{events_in}
use Rattle.stk_walking.specs.Stands.{Stands, IsMade}
use Rattle.stk_walking.specs.Walks.{Walks}
use Rattle.stk_walking.proofs.Carried.{keeps_then, stands_still}
use Rattle.stk_walking.proofs.Walking.{walks_violated}

module _ {S V : Type 0} {serves : S → List ℤ → Type 0} {has_key : S → ℕ → IntKind → Type 0} {made : S → IntKind → V → Type 0} {shows : S → List ℤ → IntKind → V → ℤ → Type 0} {g : Setting} where
  pub walks_checked : {A : Type 0} {a b c : S} {w1 w2 : WalkState V} {P : List ℤ → Type 0} {answer : S → Type 0} {shown : S → List ℤ → A → Type 0} (x : A) (t : List Entry) {es : List Event} →
      Keeps serves has_key made shows a b → answer c → IsMade (made c) g w2 → events_in w2.steps.items ≡ events_in w1.steps.items ++ es → Keeps serves has_key made shows b c →
      ((m : List ℤ) (s : Standing) → serves a m → serves b m → P m → Stands (shows b m) g w1 s → Stands (shows c m) g w2 (added t s)) → ((m : List ℤ) → serves a m → P m → shown c m x) →
      Walks serves has_key made shows g P answer shown (λ m r k. Went x r k t) es a c w1 w2
  walks_checked {A} {a} {b} {c} {w1} {w2} {P} {answer} {shown} x t k n i e l stands show =
      walks_violated (λ m. x) (λ m. t) n i e (keeps_then serves has_key made shows a b c k l)
      (λ m s served p at. stands m s served (k.served m served) p (stands_still (shows a m) (shows b m) (k.shown m) g w1 s at)) show
