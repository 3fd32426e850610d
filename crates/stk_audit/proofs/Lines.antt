-- What steps say of lines, by what was changed.
use Rattle.std.proofs.Common.{◌≡◌, ℕ, Bool, true, false, List, Option, Some, refl, sym, ap, subst, ◌∙◌}
use Rattle.stk_clauses.specs.declared.store.Cnf.{Cnf}
use Rattle.stk_bundle.specs.declared.line.BundleLine.{BundleLine}
use Rattle.stk_bundle.specs.declared.line.BundleLine.TheVariants as line
use Rattle.stk_audit_rules.specs.declared.audit.Why.{Why}
use Rattle.stk_audit_rules.specs.declared.audit.Why.TheVariants as why
use Rattle.stk_audit_rules.specs.Worlds.{World}
use Rattle.stk_audit_rules.specs.Knowing.{Known, kinds_taken, with_claim}
use Rattle.stk_audit_rules.specs.Reasons.{Holds, head, source, without, function, left, unstable, hit, need, open_member, tried, clauses, steps, end, Fails, no_steps, no_refutation}
use Rattle.stk_audit_rules.proofs.Claims.{false_true}
use Rattle.stk_audit.specs.declared.progress.Progress.{Progress}
use Rattle.stk_audit.specs.declared.progress.Step.{Step}
use Rattle.stk_audit.specs.declared.progress.Step.TheVariants as step
use Rattle.stk_audit.specs.Progressing.{known_in}
use Rattle.stk_audit.specs.Hands.{Hand, hand_by, hand_of}
use Rattle.stk_audit.specs.Stepping.{Stepped, FailsToRefute, Derived, AreWithin, IsReady}

module _ (w : World) (p : Progress) where
  -- a line holds that leads to what is known
  pub it_holds : (q : Progress) (l : BundleLine) (block : List ℕ) (t : Known) → known_in q ≡ t → q.number ≡ p.number → Holds w (known_in p) p.number l block t → Stepped w p l block step.Holds q
  it_holds q l block t e n h = (subst (λ x. Holds w (known_in p) p.number l block x) (sym e) h, n)

  -- a line fails, by its own number
  pub it_fails : (q : Progress) (l : BundleLine) (block : List ℕ) (r : Step) (reason : Why) → r ≡ step.Fails p.number reason → Fails w (known_in p) p.number l block p.number reason → Stepped w p l block r q
  it_fails q l block r reason e h = subst (λ x. Stepped w p l block x q) (sym e) h

  -- the block of a derivation
  derived_fails : (q : Progress) (lines m : ℕ) (block : List ℕ) (own : Cnf) (reason : Why) → m ≡ p.number → p.clauses ≡ Some own → FailsToRefute own block reason → Fails w (known_in p) p.number (line.Steps lines) block m reason
  derived_fails q lines m block own why.Form e is h = subst (λ x. Fails w (known_in p) p.number (line.Steps lines) block x why.Form) (sym e) (no_steps is h)
  derived_fails q lines m block own why.Derivation e is h =
      subst (λ x. Fails w (known_in p) p.number (line.Steps lines) block x why.Derivation) (sym e) (no_refutation is h.1 h.2)
  derived_fails q lines m block own reason e is h = absurd h

  pub derived : (q : Progress) (lines : ℕ) (block : List ℕ) (r : Step) → Derived p block r q → Stepped w p (line.Steps lines) block r q
  derived q lines block step.Holds h = it_holds q (line.Steps lines) block (with_claim (known_in p) h.at h.c) h.known h.number (steps h.claim.here h.claim.this h.is h.read h.refutes)
  derived q lines block (step.Fails m reason) h = derived_fails q lines m block h.1.0 reason h.0 h.1.1 h.1.2

-- whether a line takes a function up
abbrev pub takes_up : BundleLine → Bool
takes_up (line.Function at) = true
takes_up l = false

-- whether a line brings clauses
abbrev pub brings : BundleLine → Bool
brings (line.Clauses lines) = true
brings l = false

module _ (w : World) where
  hand_stays : (s t : Known) (n : ℕ) (l : BundleLine) (block : List ℕ) → Holds w s n l block t → takes_up l ≡ false → IsReady w s l → hand_of t ≡ hand_of s
  hand_stays s t n l block head e r = refl
  hand_stays s t n l block (source h) e r = refl
  hand_stays s t n l block (without {kinds = ks}) e r = ap (hand_by (kinds_taken ks)) r ∙ sym (ap (hand_by s.without) r)
  hand_stays s t n l block (function h) e r = absurd (false_true (sym e))
  hand_stays s t n l block (left h) e r = refl
  hand_stays s t n l block (unstable h) e r = refl
  hand_stays s t n l block hit e r = refl
  hand_stays s t n l block (need h) e r = refl
  hand_stays s t n l block (open_member h) e r = refl
  hand_stays s t n l block (tried h i j) e r = refl
  hand_stays s t n l block (clauses h i j) e r = refl
  hand_stays s t n l block (steps h i j k m) e r = refl
  hand_stays s t n l block end e r = refl

  clauses_stay : (s t : Known) (n : ℕ) (l : BundleLine) (block : List ℕ) → Holds w s n l block t → brings l ≡ false → t.clauses ≡ s.clauses
  clauses_stay s t n l block head e = refl
  clauses_stay s t n l block (source h) e = refl
  clauses_stay s t n l block without e = refl
  clauses_stay s t n l block (function h) e = refl
  clauses_stay s t n l block (left h) e = refl
  clauses_stay s t n l block (unstable h) e = refl
  clauses_stay s t n l block hit e = refl
  clauses_stay s t n l block (need h) e = refl
  clauses_stay s t n l block (open_member h) e = refl
  clauses_stay s t n l block (tried h i j) e = refl
  clauses_stay s t n l block (clauses h i j) e = absurd (false_true (sym e))
  clauses_stay s t n l block (steps h i j k m) e = refl
  clauses_stay s t n l block end e = refl

  -- who answers has the same function at hand behind a line that takes none up
  pub same_hand : (p q : Progress) (l : BundleLine) (block : List ℕ) (r : Step) (old new : Option Hand) → Stepped w p l block r q → takes_up l ≡ false → IsReady w (known_in p) l → old ≡ hand_of (known_in p) → new ≡ old
      → r ≡ step.Holds → new ≡ hand_of (known_in q)
  same_hand p q l block r old new h no_function ready is kept e =
      let holds : Stepped w p l block step.Holds q = subst (λ x. Stepped w p l block x q) e h in
      kept ∙ (is ∙ sym (hand_stays (known_in p) (known_in q) p.number l block holds.0 no_function ready))

  -- the clauses stay within behind a line that brings none
  pub same_within : (p q : Progress) (l : BundleLine) (block : List ℕ) (r : Step) → Stepped w p l block r q → brings l ≡ false → r ≡ step.Holds → AreWithin p.clauses → AreWithin q.clauses
  same_within p q l block r h none e within =
      let holds : Stepped w p l block step.Holds q = subst (λ x. Stepped w p l block x q) e h in
      subst AreWithin (sym (clauses_stay (known_in p) (known_in q) p.number l block holds.0 none)) within
