-- When an input is too large, and what comes where it isn't.
use Rattle.std.proofs.Common.{◌≡◌, ℕ, ◌≤◌, ◌⊎◌, inl, inr, Bool, true, ◌==◌, List, [], ◌∷◌, ◌++◌, length, Option, Some, None, refl, sym, ap, subst, ◌∙◌, arith, length-append, eqb-true}
use Rattle.std.specs.Prelude.{◌↔◌}
use Rattle.std.proofs.lemmas.List.{append-nil}
use Rattle.stk_base.specs.declared.status.Status.{Status}
use Rattle.stk_base.specs.declared.status.Status.TheVariants.{Stable, Found, Unsure, BadWords, ReadFault, WriteFault, TooLarge, NoMemory, NoCandidate}
use Rattle.stk_base.specs.Streams.{Came, IsSpent}
use Rattle.stk_audit_main.specs.Parts.{HasLargePart, most_input}
use Rattle.stk_audit_main.specs.Ending.{IsAnswered, IsUnaudited, IsTooLarge, CameTooLarge}

-- the answer is this one exactly where what came is too large; W: there are no words
abbrev pub TellsLarge : Type 0 → Option (List ℕ) → Option (List ℕ) → Status → Type 0
TellsLarge W before after status = (came : List ℕ) × Came before after came × ((status ≡ TooLarge) ↔ (W × CameTooLarge came after status))

-- a list of no items
pub none_there : {A : Type 0} (xs : List A) (b : Bool) → b ≡ (length xs == 0) → b ≡ true → xs ≡ []
none_there [] b e h = refl
none_there (x ∷ xs) b e h =
    let none = eqb-true _ _ (sym e ∙ h) in
    absurd (omega (arith, none))

apart_failed : ◌≡◌ {A = Status} TooLarge ReadFault → ⊥
apart_failed e = cc

apart_short : ◌≡◌ {A = Status} TooLarge NoMemory → ⊥
apart_short e = cc

-- all of it was read
pub whole_large : (W : Type 0) (before after : Option (List ℕ)) (status : Status) (bytes given : List ℕ) → W → given ≡ bytes → Came before after bytes → IsSpent after → length bytes ≤ most_input
    → (status ≡ TooLarge → HasLargePart given) → (HasLargePart given → status ≡ TooLarge) → TellsLarge W before after status
whole_large W before after status bytes given words same came spent within large small =
    let only : status ≡ TooLarge → W × CameTooLarge bytes after status =
    λ e. (words, inr (record { spent = spent; not_failed = λ f. apart_failed (sym e ∙ f); not_short = λ f. apart_short (sym e ∙ f) }, subst HasLargePart same (large e))) in
    let all : W × CameTooLarge bytes after status → status ≡ TooLarge = λ h. elim h.1 [
      | inl more ↦ absurd (omega (arith, more, within))
      | inr part ↦ small (subst HasLargePart (sym same) part.1)
    ] in
    (bytes, came, (only, all))

-- ---- what comes where it isn't

-- what came out of a source isn't longer than what it had
came_within : (before after : Option (List ℕ)) (came bytes : List ℕ) → Came before after came → before ≡ Some bytes → length came ≤ length bytes
came_within before None came bytes h e = absurd cc
came_within before (Some rest) came bytes h e =
    let same : bytes ≡ came ++ rest = cc in
    omega (arith, ap length same, length-append came rest)

-- and is all of it where nothing is left
came_whole : (before after : Option (List ℕ)) (came bytes : List ℕ) → Came before after came → before ≡ Some bytes → IsSpent after → came ≡ bytes
came_whole before None came bytes h e spent = absurd cc
came_whole before (Some rest) came bytes h e spent =
    let same : bytes ≡ came ++ rest = cc in
    sym (same ∙ ap (λ (x : List ℕ). came ++ x) (spent rest refl) ∙ append-nil came)

is_too_large : (before after : Option (List ℕ)) (came bytes : List ℕ) (status : Status) → Came before after came → before ≡ Some bytes → CameTooLarge came after status → IsTooLarge bytes
is_too_large before after came bytes status h e (inl more) =
    let within = came_within before after came bytes h e in
    inl (omega (arith, more, within))
is_too_large before after came bytes status h e (inr part) = inr (subst HasLargePart (came_whole before after came bytes h e part.0.spent) part.1)

-- W: there are no words; R, K: a count of faults rose
module _ (W : Type 0) (before after : Option (List ℕ)) (R K : Type 0) where
  abbrev Ends : Status → Type 0
  Ends status = IsAnswered status ⊎ (IsUnaudited status ⊎ ((status ≡ WriteFault) ⊎ (status ≡ NoMemory)))

  pub complete : (status : Status) → Ends status → ((status ≡ BadWords) ↔ (W → ⊥)) → (status ≡ ReadFault → R) → (status ≡ WriteFault → K) → TellsLarge W before after status
      → (bytes : List ℕ) → W → before ≡ Some bytes → (IsTooLarge bytes → ⊥) → ¬ R → ¬ K → IsAnswered status ⊎ (status ≡ NoMemory)
  complete Stable only bad read write large bytes words told small r k = inl tt
  complete Found only bad read write large bytes words told small r k = inl tt
  complete Unsure (inl h) bad read write large bytes words told small r k = absurd h
  complete Unsure (inr (inl h)) bad read write large bytes words told small r k = absurd h
  complete Unsure (inr (inr (inl e))) bad read write large bytes words told small r k = absurd cc
  complete Unsure (inr (inr (inr e))) bad read write large bytes words told small r k = absurd cc
  complete BadWords only bad read write large bytes words told small r k = absurd (bad.0 refl words)
  complete ReadFault only bad read write large bytes words told small r k = absurd (r (read refl))
  complete WriteFault only bad read write large bytes words told small r k = absurd (k (write refl))
  complete TooLarge only bad read write large bytes words told small r k = absurd (small (is_too_large before after large.0 bytes TooLarge large.1 told (large.2.0 refl).1))
  complete NoMemory only bad read write large bytes words told small r k = inr refl
  complete NoCandidate (inl h) bad read write large bytes words told small r k = absurd h
  complete NoCandidate (inr (inl h)) bad read write large bytes words told small r k = absurd h
  complete NoCandidate (inr (inr (inl e))) bad read write large bytes words told small r k = absurd cc
  complete NoCandidate (inr (inr (inr e))) bad read write large bytes words told small r k = absurd cc
