-- Lines that close the set of a claim, by what is told of its starts.
use Rattle.std.proofs.Common.{◌≡◌, ◌≢◌, ℕ, Bool, true, false, List, Option, Some, None, sym, ap, subst, ◌∙◌}
use Rattle.stk_numbers.specs.declared.conditions.Candidate.{Candidate}
use Rattle.stk_numbers.specs.declared.conditions.Condition.{Condition}
use Rattle.stk_clauses.specs.declared.store.Cnf.{Cnf}
use Rattle.stk_proofs.specs.Dimacs.{dimacs_in}
use Rattle.stk_bundle.specs.declared.line.BundleLine.{BundleLine}
use Rattle.stk_bundle.specs.declared.line.BundleLine.TheVariants as line
use Rattle.stk_audit_rules.specs.declared.audit.Why.TheVariants as why
use Rattle.stk_audit_rules.specs.Worlds.{World}
use Rattle.stk_audit_rules.specs.Knowing.{Known, with_claim, with_clauses}
use Rattle.stk_audit_rules.specs.Starts.{closes, IsShown, FailsToShow}
use Rattle.stk_audit_rules.specs.Reasons as rules
use Rattle.stk_audit_rules.proofs.Claims.{same_some}
use Rattle.stk_audit.specs.declared.progress.Progress.{Progress}
use Rattle.stk_audit.specs.declared.progress.Step.{Step}
use Rattle.stk_audit.specs.declared.progress.Step.TheVariants as step
use Rattle.stk_audit.specs.Progressing.{known_in}
use Rattle.stk_audit.specs.Hands.{Hand, hand_at, hand_by, hand_of, function_at, TellsNone}
use Rattle.stk_audit.specs.Stepping.{Stepped, TellsStarts}
use Rattle.stk_audit.proofs.Lines.{it_holds, it_fails}

module _ (w : World) (s : Known) (c : Candidate) where
  pub shown_here : (found : Option ℕ) → TellsStarts w s c found → found ≡ None → (at : ℕ) × IsShown w s at c
  shown_here found h e = subst (TellsStarts w s c) e h

  pub fails_here : (found : Option ℕ) (m : ℕ) → TellsStarts w s c found → found ≡ Some m → FailsToShow w s m
  fails_here found m h e = subst (TellsStarts w s c) e h

  -- a start fails, at a line that closes the set
  pub start_fails : (n m : ℕ) (l : BundleLine) (block : List ℕ) (found : Option ℕ) → closes l ≡ true → TellsStarts w s c found → found ≡ Some m → rules.Fails w s n l block m why.Start
  start_fails n m l block found e h is = rules.no_start e (fails_here found m h is)

module _ (w : World) (p : Progress) (c : Candidate) (hand : Option Hand) (here : hand ≡ hand_of (known_in p)) where
  at_hand : (at : ℕ) → IsShown w (known_in p) at c → hand ≡ Some (hand_at p.without at)
  at_hand at h = here ∙ ap (hand_by p.without) h.claim.here

  -- not all maps are to be tried
  pub is_too_wide : (block : List ℕ) (r : Step) (found : Option ℕ) (all : Bool) → TellsStarts w (known_in p) c found → found ≡ None → ((h : Hand) → hand ≡ Some h → all ≡ (function_at w h).subject.tries_all) → all ≡ false
      → r ≡ step.Fails p.number why.Tried → Stepped w p line.Tried block r p
  is_too_wide block r found all told none tells wide is =
      let shown = shown_here w (known_in p) c found told none in
      it_fails w p p line.Tried block r why.Tried is (rules.too_wide shown.1 (sym (tells (hand_at p.without shown.0) (at_hand shown.0 shown.1)) ∙ wide))

  -- a map answers
  pub is_answered : (block : List ℕ) (r : Step) (found : Option ℕ) (members : List Condition) (none : Bool) → TellsStarts w (known_in p) c found → found ≡ None → members ≡ p.members.items
      → ((h : Hand) → hand ≡ Some h → TellsNone (function_at w h).subject c members none) → none ≡ false → r ≡ step.Fails p.number why.Tried → Stepped w p line.Tried block r p
  is_answered block r found members none told nothing same tells answers is =
      let shown = shown_here w (known_in p) c found told nothing in
      let f = function_at w (hand_at p.without shown.0) in
      let some = subst (λ b. TellsNone f.subject c p.members.items b) answers (subst (λ ks. TellsNone f.subject c ks none) same (tells (hand_at p.without shown.0) (at_hand shown.0 shown.1))) in
      it_fails w p p line.Tried block r why.Tried is (rules.answered {map = some.0} shown.1 some.1)

  -- none does
  pub is_tried : (q : Progress) (block : List ℕ) (found : Option ℕ) (members : List Condition) (at : ℕ) (all none : Bool) → TellsStarts w (known_in p) c found → found ≡ None → members ≡ p.members.items → p.at ≡ Some at
      → ((h : Hand) → hand ≡ Some h → all ≡ (function_at w h).subject.tries_all) → all ≡ true → ((h : Hand) → hand ≡ Some h → TellsNone (function_at w h).subject c members none) → none ≡ true
      → known_in q ≡ with_claim (known_in p) at c → q.number ≡ p.number → Stepped w p line.Tried block step.Holds q
  is_tried q block found members at all none told nothing same begins tells_all every tells nowhere known number =
      let shown = shown_here w (known_in p) c found told nothing in
      let f = function_at w (hand_at p.without shown.0) in
      let no_answer = subst (λ b. TellsNone f.subject c p.members.items b) nowhere (subst (λ ks. TellsNone f.subject c ks none) same (tells (hand_at p.without shown.0) (at_hand shown.0 shown.1))) in
      let same_at : shown.0 ≡ at = same_some (sym shown.1.claim.here ∙ begins) in
      it_holds w p q line.Tried block (with_claim (known_in p) at c) known number
      (subst (λ a. rules.Holds w (known_in p) p.number line.Tried block (with_claim (known_in p) a c)) same_at
      (rules.tried shown.1 (sym (tells_all (hand_at p.without shown.0) (at_hand shown.0 shown.1)) ∙ every) no_answer))

  -- the clauses of a claim whose starts show what they should
  module _ (shown : (at : ℕ) × IsShown w (known_in p) at c) (lines : ℕ) (block : List ℕ) where
    pub clauses_unread : (r : Step) → r ≡ step.Fails p.number why.Form → dimacs_in block ≡ None → Stepped w p (line.Clauses lines) block r p
    clauses_unread r is none = it_fails w p p (line.Clauses lines) block r why.Form is (rules.no_clauses shown.1 none)

    own_stands : (members : List Condition) (own : Cnf) → members ≡ p.members.items → ((h : Hand) → hand ≡ Some h → (function_at w h).Stands c members own) → (w.function p.without shown.0).Stands c p.members.items own
    own_stands members own same tells = subst (λ ks. (w.function p.without shown.0).Stands c ks own) same (tells (hand_at p.without shown.0) (at_hand shown.0 shown.1))

    pub clauses_other : (r : Step) (members : List Condition) (own list : Cnf) → members ≡ p.members.items → ((h : Hand) → hand ≡ Some h → (function_at w h).Stands c members own) → r ≡ step.Fails p.number (why.Formula own)
        → dimacs_in block ≡ Some list → list ≢ own → Stepped w p (line.Clauses lines) block r p
    clauses_other r members own list same tells is read other =
        it_fails w p p (line.Clauses lines) block r (why.Formula own) is (rules.other_clauses shown.1 (own_stands members own same tells) read other)

    pub clauses_same : (q : Progress) (members : List Condition) (own : Cnf) → members ≡ p.members.items → ((h : Hand) → hand ≡ Some h → (function_at w h).Stands c members own) → dimacs_in block ≡ Some own
        → known_in q ≡ with_clauses (known_in p) own → q.number ≡ p.number → Stepped w p (line.Clauses lines) block step.Holds q
    clauses_same q members own same tells read known number =
        it_holds w p q (line.Clauses lines) block (with_clauses (known_in p) own) known number (rules.clauses shown.1 (own_stands members own same tells) read)
