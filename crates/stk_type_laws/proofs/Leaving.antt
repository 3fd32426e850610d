-- Outcomes of whose values something holds.
use Rattle.std.proofs.Common.{ℕ, List}
use Rattle.stk_type_rules.specs.Facts.{Fact}
use Rattle.stk_type_rules.specs.Outcome.{Outcome, Good, Refused, after, and_then}

pub data Leaves {A : Type 0} (P : A → Type 0) : Outcome A → Type 0 where
  good : {x : A} {t : List Fact} → P x → Leaves P (Good x t)
  refused : {k r : ℕ} → Leaves P (Refused k r)

-- facts that stand before change nothing
after_leaves : {A : Type 0} {P : A → Type 0} {o : Outcome A} (t : List Fact) → Leaves P o → Leaves P (after t o)
after_leaves t (good h) = good h
after_leaves t refused = refused

-- one part after another, which goes on from what holds of the first
pub then_leaves : {A B : Type 0} {P : A → Type 0} {Q : B → Type 0} {o : Outcome A} (next : A → Outcome B) → Leaves P o → ((x : A) → P x → Leaves Q (next x)) → Leaves Q (and_then o next)
then_leaves next (good {x} {t} h) each = after_leaves t (each x h)
then_leaves next refused each = refused

-- the same behind a part of which nothing is asked
pub behind_leaves : {A B : Type 0} {Q : B → Type 0} (o : Outcome A) (next : A → Outcome B) → ((x : A) → Leaves Q (next x)) → Leaves Q (and_then o next)
behind_leaves (Good x t) next each = after_leaves t (each x)
behind_leaves (Refused k r) next each = refused

pub left_by : {A : Type 0} {P : A → Type 0} {x : A} {t : List Fact} → Leaves P (Good x t) → P x
left_by (good h) = h

-- what holds of less
pub leaves_less : {A : Type 0} {P Q : A → Type 0} {o : Outcome A} → ((x : A) → P x → Q x) → Leaves P o → Leaves Q o
leaves_less g (good {x} h) = good (g x h)
leaves_less g refused = refused
