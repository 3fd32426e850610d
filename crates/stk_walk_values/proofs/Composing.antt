-- Parts of expressions one after another: an operand, and two, with what rests on their values.
use Rattle.std.proofs.Common.{ℕ, List, ◌++◌, ℤ}
use Rattle.stk_ctype.specs.declared.kind.IntKind.{IntKind}
use Rattle.stk_meaning.specs.Places.{Setting}
use Rattle.stk_meaning.specs.Worlds.{Ran, and_then}
use Rattle.stk_meaning.specs.Paths.{KeptNumbers}
use Rattle.stk_walking.specs.declared.state.Event.{Event}
use Rattle.stk_walking.specs.declared.state.WalkState.{WalkState}
use Rattle.stk_walking.specs.Walks.{Walks}
use Rattle.stk_walking.proofs.Walking.{walks_then, walks_under}

module _ {S V : Type 0} {serves : S → List ℤ → Type 0} {has_key : S → ℕ → IntKind → Type 0} {made : S → IntKind → V → Type 0} {shows : S → List ℤ → IntKind → V → ℤ → Type 0} {g : Setting} where
  -- what rests on the value of one part
  pub walks_one : {A B : Type 0} {a b c : S} {w1 w2 w3 : WalkState V} {P : List ℤ → Type 0} {answer answer2 : S → Type 0} {shown : S → List ℤ → A → Type 0} {shown2 : S → List ℤ → B → Type 0}
      {R : List ℤ → List ℤ → KeptNumbers → Ran A KeptNumbers} (F : A → List ℤ → List ℤ → KeptNumbers → Ran B KeptNumbers) {es fs : List Event} (z : A) →
      Walks serves has_key made shows g P answer shown R es a b w1 w2 → ((x : A) → Walks serves has_key made shows g (λ m. shown b m x) answer2 shown2 (F x) fs b c w2 w3) →
      Walks serves has_key made shows g P answer2 shown2 (λ m r k. and_then (R m r k) (λ x. F x m)) (es ++ fs) a c w1 w3
  walks_one F z p q = walks_then F z p q (λ m x served h hx. hx)

  -- a part that rests on no value
  pub walks_next : {A B : Type 0} {a b c : S} {w1 w2 w3 : WalkState V} {P : List ℤ → Type 0} {answer answer2 : S → Type 0} {shown : S → List ℤ → A → Type 0} {shown2 : S → List ℤ → B → Type 0}
      {R : List ℤ → List ℤ → KeptNumbers → Ran A KeptNumbers} {Q : List ℤ → List ℤ → KeptNumbers → Ran B KeptNumbers} {es fs : List Event} (z : A) →
      Walks serves has_key made shows g P answer shown R es a b w1 w2 → Walks serves has_key made shows g (λ m. Unit {0}) answer2 shown2 Q fs b c w2 w3 →
      Walks serves has_key made shows g P answer2 shown2 (λ m r k. and_then (R m r k) (λ x. Q m)) (es ++ fs) a c w1 w3
  walks_next {A} {B} {a} {b} {c} {w1} {w2} {w3} {P} {answer} {answer2} {shown} {shown2} {R} {Q} z p q = walks_then (λ x. Q) z p (λ x. q) (λ m x served h hx. tt)

  -- what rests on the values of two parts
  pub walks_two : {A B C : Type 0} {a b c d : S} {w1 w2 w3 w4 : WalkState V} {P : List ℤ → Type 0} {answer1 answer2 answer3 : S → Type 0} {shown1 : S → List ℤ → A → Type 0} {shown2 : S → List ℤ → B → Type 0} {shown3 : S → List ℤ → C → Type 0}
      {R1 : List ℤ → List ℤ → KeptNumbers → Ran A KeptNumbers} {R2 : List ℤ → List ℤ → KeptNumbers → Ran B KeptNumbers} (F : A → B → List ℤ → List ℤ → KeptNumbers → Ran C KeptNumbers) {es fs gs : List Event} (z1 : A) (z2 : B) →
      Walks serves has_key made shows g P answer1 shown1 R1 es a b w1 w2 → Walks serves has_key made shows g (λ m. Unit {0}) answer2 shown2 R2 fs b c w2 w3 →
      ((x : A) (y : B) → Walks serves has_key made shows g (λ m. shown1 c m x × shown2 c m y) answer3 shown3 (F x y) gs c d w3 w4) →
      ((m : List ℤ) (x : A) → shown1 b m x → shown1 c m x) →
      Walks serves has_key made shows g P answer3 shown3 (λ m r k. and_then (R1 m r k) (λ x r k. and_then (R2 m r k) (λ y. F x y m))) (es ++ (fs ++ gs)) a d w1 w4
  walks_two {A} {B} {C} {a} {b} {c} {d} {w1} {w2} {w3} {w4} {P} {answer1} {answer2} {answer3} {shown1} {shown2} {shown3} {R1} {R2} F {es} {fs} {gs} z1 z2 p q e still =
      walks_then (λ x m r k. and_then (R2 m r k) (λ y. F x y m)) z1 p
      (λ x. walks_then {P = λ m. shown1 b m x} {Q = λ y m. shown1 c m x × shown2 c m y} (F x) z2 (walks_under q (λ m h. tt)) (e x) (λ m y served hx hy. (still m x hx, hy))) (λ m x served h hx. hx)
