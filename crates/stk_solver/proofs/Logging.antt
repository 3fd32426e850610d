-- One more step in the log.
use Rattle.std.proofs.Common.{◌≡◌, ℕ, suc, ◌+◌, ◌-◌, ◌<◌, ◌≤◌, refl, get_or, drop, reverse, List, [], ◌∷◌, ◌++◌, length, sym, ◌∙◌, ap, inl, inr, arith, append_assoc, length-append}
use Rattle.std.specs.List.{Contains}
use Rattle.std.proofs.lemmas.Bool.{cases_lt}
use Rattle.std.proofs.lemmas.List.{take-append-le, take_at, get_or_append_left, get_or_at, map-append, drop-append-le, length-drop, get_or-drop, reverse-append}
use Rattle.std.proofs.lemmas.List.Elements.{Contains-push_cases}
use Rattle.stk_clauses.specs.declared.literal.Lit.{Lit}
use Rattle.stk_clauses.specs.declared.derivation.Derived.{Derived}
use Rattle.stk_clauses.specs.Propagation.{IsNew}
use Rattle.stk_clauses.specs.Derivations.{clauses_of_steps, IsStep, AreSteps, AreNew, IsRefutation}
use Rattle.stk_solver.specs.Searching.{steps_of}

pub steps_more : (vars : ℕ) (given : List (List Lit)) (log : List Derived) (x : Derived) → AreSteps vars given log → IsStep vars given log x → AreSteps vars given (log ++ x ∷ [])
steps_more vars given log x s h k d lt =
    elim (cases_lt k (length log)) [
      | inl a ↦ rw (take-append-le k log (x ∷ []) (omega (arith, a)), get_or_append_left log (x ∷ []) d k a) (s k d a)
      | inr b ↦ let e : length log ≡ k = omega (arith, b, lt, length-append log (x ∷ [])) in rw (take_at log (x ∷ []) k e, get_or_at log x [] d k e) h
    ]

pub new_more : (given : List (List Lit)) (log : List Derived) (x : Derived) → AreNew given log → IsNew (given ++ clauses_of_steps log) x.clause → AreNew given (log ++ x ∷ [])
new_more given log x s h k d lt =
    elim (cases_lt k (length log)) [
      | inl a ↦ rw (take-append-le k log (x ∷ []) (omega (arith, a)), get_or_append_left log (x ∷ []) d k a) (s k d a)
      | inr b ↦ let e : length log ≡ k = omega (arith, b, lt, length-append log (x ∷ [])) in rw (take_at log (x ∷ []) k e, get_or_at log x [] d k e) h
    ]

pub clauses_pushed : (given : List (List Lit)) (log : List Derived) (x : Derived) → given ++ clauses_of_steps (log ++ x ∷ []) ≡ (given ++ clauses_of_steps log) ++ x.clause ∷ []
clauses_pushed given log x = ap (λ ys. given ++ ys) (map-append (λ (s : Derived). s.clause) log (x ∷ [])) ∙ sym (append_assoc given (clauses_of_steps log) (x.clause ∷ []))

-- no clause is empty, with one that is new
pub still_full : (cs : List (List Lit)) (c : List Lit) → (Contains cs [] → ⊥) → IsNew cs c → Contains (cs ++ c ∷ []) [] → ⊥
still_full cs c full new h =
    elim (Contains-push_cases cs c [] h) [
      | inl a ↦ full a
      | inr e ↦ omega (arith, new.1.1, ap length e)
    ]

pub steps_pushed : (log : List (List ℕ)) (cs : List (List Lit)) (h : List ℕ) (c : List Lit) → length cs ≡ length log → steps_of (log ++ h ∷ []) (cs ++ c ∷ []) ≡ steps_of log cs ++ record { clause = c; hints = h } ∷ []
steps_pushed [] [] h c e = refl
steps_pushed [] (b ∷ cs) h c e = absurd (omega (arith, e))
steps_pushed (g ∷ log) [] h c e = absurd (omega (arith, e))
steps_pushed (g ∷ log) (b ∷ cs) h c e = ap (λ r. record { clause = b; hints = g } ∷ r) (steps_pushed log cs h c (omega (arith, e)))

-- the step of the last hints
pub steps_last : (log : List (List ℕ)) (cs : List (List Lit)) (h : List ℕ) → length log < length cs → steps_of (log ++ h ∷ []) cs ≡ steps_of log cs ++ record { clause = get_or cs (length log) []; hints = h } ∷ []
steps_last [] [] h lt = absurd (omega (arith, lt))
steps_last [] (b ∷ cs) h lt = refl
steps_last (g ∷ log) [] h lt = absurd (omega (arith, lt))
steps_last (g ∷ log) (b ∷ cs) h lt = ap (λ r. record { clause = b; hints = g } ∷ r) (steps_last log cs h (omega (arith, lt)))

pub steps_length : (log : List (List ℕ)) (cs : List (List Lit)) → length log ≤ length cs → length (steps_of log cs) ≡ length log
steps_length [] cs le = refl
steps_length (g ∷ log) [] le = absurd (omega (arith, le))
steps_length (g ∷ log) (b ∷ cs) le = ap suc (steps_length log cs (omega (arith, le)))

-- the learnt clauses are as many as the log's hints
pub learnt_count : (given store : List (List Lit)) (log : List (List ℕ)) → length store ≡ length given + length log → length (drop (length given) store) ≡ length log
learnt_count given store log e = omega (arith, e, length-drop (length given) store)

-- one more clause and its hints are one more step
pub log_pushed : (given store : List (List Lit)) (log : List (List ℕ)) (x : Derived) → length store ≡ length given + length log → steps_of (log ++ x.hints ∷ []) (drop (length given) (store ++ x.clause ∷ [])) ≡ steps_of log (drop (length given) store) ++ x ∷ []
log_pushed given store log x e = rw (drop-append-le (length given) store (x.clause ∷ []) (omega (arith, e))) (steps_pushed log (drop (length given) store) x.hints x.clause (learnt_count given store log e))

-- the steps of a log's front, with those that were made of its last hints, the last one first
pub front_made : (given store : List (List Lit)) (log : List (List ℕ)) (h : List ℕ) (made : List Derived) (d : Derived) → length given + length log < length store → d.clause ≡ get_or store (length given + length log) [] → d.hints ≡ h
    → steps_of (log ++ h ∷ []) (drop (length given) store) ++ reverse made ≡ steps_of log (drop (length given) store) ++ reverse (made ++ d ∷ [])
front_made given store log h made d lt ec eh =
    let cs = drop (length given) store in
    let s : steps_of (log ++ h ∷ []) cs ≡ steps_of log cs ++ record { clause = get_or cs (length log) []; hints = h } ∷ [] = steps_last log cs h (omega (arith, lt, length-drop (length given) store)) in
    let e : get_or cs (length log) [] ≡ d.clause = get_or-drop (length given) store (length log) [] ∙ sym ec in
    let s' : steps_of (log ++ h ∷ []) cs ≡ steps_of log cs ++ d ∷ [] = s ∙ ap (λ c. steps_of log cs ++ record { clause = c; hints = h } ∷ []) e ∙ ap (λ g. steps_of log cs ++ record { clause = d.clause; hints = g } ∷ []) (sym eh) in
    let r : reverse (made ++ d ∷ []) ≡ d ∷ reverse made = reverse-append made (d ∷ []) in
    ap (λ xs. xs ++ reverse made) s' ∙ append_assoc (steps_of log cs) (d ∷ []) (reverse made) ∙ ap (λ xs. steps_of log cs ++ xs) (sym r)

-- with the empty clause as its last step, the log is a refutation
pub refuted_by : (vars : ℕ) (given : List (List Lit)) (log : List Derived) (x : Derived) → AreSteps vars given log → IsStep vars given log x → x.clause ≡ [] → IsRefutation vars given (log ++ x ∷ [])
refuted_by vars given log x s h e = record {
  some = omega (arith, length-append log (x ∷ []));
  each = steps_more vars given log x s h;
  empty = λ d. ap (λ (y : Derived). y.clause) (get_or_at log x [] d (length (log ++ x ∷ []) - 1) (omega (arith, length-append log (x ∷ [])))) ∙ e;
}
