-- How a `switch` and its sections end, each under its guard.
use Rattle.std.proofs.Common.{◌≡◌, ℕ, zero, suc, Bool, true, false, ◌||◌, List, [], Option, Some, None, ℤ, refl, sym, ap, ◌∙◌, subst}
use Rattle.stk_meaning.specs.Worlds.{Ran, Went, Cut, Flow, Normal, Break, Continue, Return, gives, next, left_switch}
use Rattle.stk_meaning.specs.Paths.{KeptNumbers}
use Rattle.stk_guarded.specs.Standing.{Standing, live, gone}
use Rattle.stk_guarded.specs.Statements.{FlowEnds, Flows}
use Rattle.stk_guarded.specs.Sections.{begun, past, begins, is_first, behind_first, Falls}
use Rattle.stk_guarded.proofs.Evaluations.{alive_is, dead_is}
use Rattle.stk_guarded.proofs.Registers.{alike_is}
use Rattle.stk_guarded.proofs.Statements.{still_is, is_still, empty_flows, next_flows}

pub left_flows : (R : Ran Flow KeptNumbers) (s t : Standing) → Flows [] R (begun s) t → Flows [] (left_switch R) s (past s t)
left_flows R s t a = record { on = λ h. by R (a.on h); off = λ h. let e = a.off h in record { alive = ap (λ z. z || t.broken) e.alive ∙ e.broken; broken = refl; continued = e.continued; numbers = e.numbers; kept = e.kept; entries = e.entries } }
  where
    by : (R : Ran Flow KeptNumbers) → FlowEnds [] R (begun s) t → FlowEnds [] (left_switch R) s (past s t)
    by (Went Normal r m u) h = ap (past s) h
    by (Went Break r m u) h =
        ap (λ z. record (past s t) { alive = z || t.broken }) h.alive
        ∙ ap (λ z. record (past s t) { alive = z }) h.broken
        ∙ ap (λ z. record (past s t) { alive = true; continued = z }) h.continued
        ∙ ap (λ z. record (gone r m u s) { numbers = z; kept = t.kept; entries = t.entries }) (alike_is t.numbers r h.numbers)
        ∙ ap (λ z. record (gone r m u s) { kept = z; entries = t.entries }) h.kept
        ∙ ap (λ z. record (gone r m u s) { entries = z }) h.entries
    by (Went Continue r m u) h = record { alive = ap (λ z. z || t.broken) h.alive ∙ h.broken; broken = refl; continued = h.continued; numbers = h.numbers; kept = h.kept; entries = h.entries }
    by (Went Return r m u) h = record { alive = ap (λ z. z || t.broken) h.alive ∙ h.broken; broken = refl; continued = h.continued; entries = h.entries }
    by (Cut u) h = record { alive = ap (λ z. z || t.broken) h.alive ∙ h.broken; broken = refl; continued = h.continued; entries = h.entries }

-- what follows a section that control is in
falls_on : (X : ℕ → List ℤ → KeptNumbers → Ran Flow KeptNumbers) (t u : Standing) → Falls X (begins t.alive None) t u → Flows [] (X zero t.numbers t.kept) t u
falls_on X t u rest = record {
  on = λ h.
      let b = rest.at zero (ap (λ z. begins z None) h) in
      subst (λ (z : Standing). FlowEnds [] (X zero z.numbers z.kept) z u) (alive_is t h) (b.on refl);
  off = λ h. is_still [] t u h (rest.none (ap (λ z. begins z None) h) ∙ dead_is t h);
}

-- one section, and those behind it
pub falls_next : (P : List ℤ → KeptNumbers → Ran Flow KeptNumbers) (X Y : ℕ → List ℤ → KeptNumbers → Ran Flow KeptNumbers) (goes_to : Option ℕ) (s t u : Standing) →
    ((r : List ℤ) (m : KeptNumbers) → Y zero r m ≡ next (P r m) (λ r m. X zero r m)) → ((n : ℕ) (r : List ℤ) (m : KeptNumbers) → Y (suc n) r m ≡ X n r m) →
    (s.alive ≡ true → goes_to ≡ None) →
    Flows [] (P s.numbers s.kept) (live (s.alive || is_first goes_to) s) t → Falls X (begins t.alive (behind_first goes_to)) t u → Falls Y (begins s.alive goes_to) s u
falls_next P X Y goes_to s t u first later only a rest = by s.alive goes_to refl refl
  where
    under : (c : Bool) → (s.alive || is_first goes_to) ≡ c → Flows [] (P s.numbers s.kept) (live c s) t
    under c e = subst (λ c. Flows [] (P s.numbers s.kept) (live c s) t) e a

    behind : (to : Option ℕ) → behind_first goes_to ≡ to → Falls X (begins t.alive to) t u
    behind to e = subst (λ (z : Option ℕ). Falls X (begins t.alive z) t u) e rest

    -- control is in this section
    enters : (s.alive || is_first goes_to) ≡ true → behind_first goes_to ≡ None → Flows [] (Y zero s.numbers s.kept) (live true s) u
    enters e f = subst (λ (R : Ran Flow KeptNumbers). Flows [] R (live true s) u) (sym (first s.numbers s.kept)) (next_flows [] [] (P s.numbers s.kept) (λ r m. X zero r m) (live true s) t u (under true e) (falls_on X t u (behind None f)))

    by : (g : Bool) (to : Option ℕ) → s.alive ≡ g → goes_to ≡ to → Falls Y (begins s.alive goes_to) s u
    by true None e f =
        let start : begins s.alive goes_to ≡ Some zero = ap (λ z. begins z goes_to) e in
        record {
          at = λ n h.
              let same : Some zero ≡ Some n = sym start ∙ h in
              let is : zero ≡ n = cc in
              subst (λ n. Flows [] (Y n s.numbers s.kept) (live true s) u) is (enters (ap (λ z. z || is_first goes_to) e) (ap behind_first f));
          none = λ h. let never : Some zero ≡ None = sym start ∙ h in absurd cc;
        }
    by true (Some k) e f = let never : None ≡ Some k = sym (only e) ∙ f in absurd cc
    by false None e f =
        let start : begins s.alive goes_to ≡ None = ap (λ z. begins z goes_to) e ∙ f in
        let dead = still_is (live false s) t refl ((under false (ap (λ z. z || is_first goes_to) e ∙ ap is_first f)).off refl) in
        record {
          at = λ n h. let never : None ≡ Some n = sym start ∙ h in absurd cc;
          none = λ h. (behind None (ap behind_first f)).none (ap (λ (z : Standing). begins z.alive None) dead) ∙ ap (live false) dead;
        }
    by false (Some zero) e f =
        let start : begins s.alive goes_to ≡ Some zero = ap (λ z. begins z goes_to) e ∙ f in
        record {
          at = λ n h.
              let same : Some zero ≡ Some n = sym start ∙ h in
              let is : zero ≡ n = cc in
              subst (λ n. Flows [] (Y n s.numbers s.kept) (live true s) u) is (enters (ap (λ z. z || is_first goes_to) e ∙ ap is_first f) (ap behind_first f));
          none = λ h. let never : Some zero ≡ None = sym start ∙ h in absurd cc;
        }
    by false (Some (suc k)) e f =
        let start : begins s.alive goes_to ≡ Some (suc k) = ap (λ z. begins z goes_to) e ∙ f in
        let dead = still_is (live false s) t refl ((under false (ap (λ z. z || is_first goes_to) e ∙ ap is_first f)).off refl) in
        let more = (behind (Some k) (ap behind_first f)).at k (ap (λ (z : Standing). begins z.alive (Some k)) dead) in
        let here = subst (λ (z : Standing). Flows [] (X k z.numbers z.kept) (live true z) u) dead more in
        record {
          at = λ n h.
              let same : Some (suc k) ≡ Some n = sym start ∙ h in
              let is : suc k ≡ n = cc in
              subst (λ n. Flows [] (Y n s.numbers s.kept) (live true s) u) is (subst (λ (R : Ran Flow KeptNumbers). Flows [] R (live true s) u) (sym (later k s.numbers s.kept)) here);
          none = λ h. let never : Some (suc k) ≡ None = sym start ∙ h in absurd cc;
        }

-- past the last section
pub falls_end : (X : ℕ → List ℤ → KeptNumbers → Ran Flow KeptNumbers) (s : Standing) → ((n : ℕ) (r : List ℤ) (m : KeptNumbers) → X n r m ≡ gives Normal r m) → Falls X (begins s.alive None) s s
falls_end X s is = by s.alive refl
  where
    by : (g : Bool) → s.alive ≡ g → Falls X (begins s.alive None) s s
    by true e = record {
      at = λ n h. subst (λ (R : Ran Flow KeptNumbers). Flows [] R (live true s) s) (sym (is n s.numbers s.kept)) (subst (λ (z : Standing). Flows [] (gives Normal s.numbers s.kept) z s) (sym (alive_is s e)) (empty_flows s));
      none = λ h. let never : Some zero ≡ None = sym (ap (λ z. begins z None) e) ∙ h in absurd cc;
    }
    by false e = record {
      at = λ n h. let never : None ≡ Some n = sym (ap (λ z. begins z None) e) ∙ h in absurd cc;
      none = λ h. sym (dead_is s e);
    }
