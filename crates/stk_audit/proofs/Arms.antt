-- What the arms of a match over lines hand on.
use Rattle.std.proofs.Common.{◌≡◌, ℕ, false, List, Option, Result, Ok, Err, refl, sym, subst}
use Rattle.std.specs.Prelude.{IfOk, OnOk}
use Rattle.stk_base.specs.declared.failures.NoMemory.{NoMemory}
use Rattle.stk_bundle.specs.declared.line.BundleLine.{BundleLine}
use Rattle.stk_audit_rules.specs.Worlds.{World}
use Rattle.stk_audit.specs.declared.progress.Progress.{Progress}
use Rattle.stk_audit.specs.declared.progress.Step.{Step}
use Rattle.stk_audit.specs.declared.progress.Step.TheVariants as step
use Rattle.stk_audit.specs.Progressing.{known_in}
use Rattle.stk_audit.specs.Hands.{Hand, hand_of}
use Rattle.stk_bundle.specs.declared.line.BundleLine.TheVariants as line
use Rattle.stk_audit.specs.Stepping.{Stepped, AreWithin, IsReady, Derived}
use Rattle.stk_audit.proofs.Lines.{takes_up, brings, same_hand, same_within, derived}

module _ (w : World) (p q : Progress) (given l : BundleLine) (same : given ≡ l) (block : List ℕ) where
  -- of a call that answers a step
  pub arm_step : (r : Result Step NoMemory) → IfOk r (λ s. Stepped w p l block s q) → IfOk r (λ s. Stepped w p given block s q)
  arm_step (Ok s) h = subst (λ x. Stepped w p x block s q) (sym same) h
  arm_step (Err e) h = tt

  pub arm_hand : (old new : Option Hand) → takes_up l ≡ false → IsReady w (known_in p) given → old ≡ hand_of (known_in p) → (r : Result Step NoMemory) → IfOk r (λ s. Stepped w p l block s q) → OnOk r (new ≡ old)
      → IfOk r (λ s. s ≡ step.Holds → new ≡ hand_of (known_in q))
  arm_hand old new none ready is (Ok s) h kept = λ e. same_hand w p q l block s old new h none (subst (IsReady w (known_in p)) same ready) is kept e
  arm_hand old new none ready is (Err e) h kept = tt

  pub arm_within : brings l ≡ false → (r : Result Step NoMemory) → IfOk r (λ s. Stepped w p l block s q) → IfOk r (λ s. s ≡ step.Holds → AreWithin p.clauses → AreWithin q.clauses)
  arm_within none (Ok s) h = λ e within. same_within w p q l block s h none e within
  arm_within none (Err e) h = tt

-- a clause for any block
pub at_block : (P : Step → List ℕ → Type 0) (r : Result Step NoMemory) (block : List ℕ) → IfOk r (λ s. (b : List ℕ) → P s b) → IfOk r (λ s. P s block)
at_block P (Ok s) block h = h block
at_block P (Err e) block h = tt

pub at_number : (P : Step → ℕ → Type 0) (r : Result Step NoMemory) (n : ℕ) → IfOk r (λ s. (m : ℕ) → P s m) → IfOk r (λ s. P s n)
at_number P (Ok s) n h = h n
at_number P (Err e) n h = tt

-- of the line of a derivation
pub arm_derived : (w : World) (p q : Progress) (lines : ℕ) (block : List ℕ) (r : Result Step NoMemory) → IfOk r (λ s. Derived p block s q) → IfOk r (λ s. Stepped w p (line.Steps lines) block s q)
arm_derived w p q lines block (Ok s) h = derived w p q lines block s h
arm_derived w p q lines block (Err e) h = tt

-- where nobody was asked
pub kept_same : (r : Result Step NoMemory) (h : Option Hand) → OnOk r (h ≡ h)
kept_same (Ok s) h = refl
kept_same (Err e) h = tt

-- of the line that brings clauses
pub arm_brought : (w : World) (p q : Progress) (r : Result Step NoMemory) → IfOk r (λ s. s ≡ step.Holds → AreWithin q.clauses) → IfOk r (λ s. s ≡ step.Holds → AreWithin p.clauses → AreWithin q.clauses)
arm_brought w p q (Ok s) h = λ e within. h e
arm_brought w p q (Err e) h = tt
