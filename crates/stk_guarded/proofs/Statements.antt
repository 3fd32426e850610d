-- How statements compose, each under its guard.
use Rattle.std.proofs.Common.{◌≡◌, ℕ, Bool, true, false, ◌&&◌, ◌||◌, not, List, [], ◌∷◌, ◌++◌, ℤ, refl, sym, ap, ◌∙◌, subst, append_assoc, set}
use Rattle.std.proofs.lemmas.List.{append-nil}
use Rattle.std.specs.Prelude.{if◌then◌else◌}
use Rattle.stk_meaning.specs.declared.entry.Entry.{Entry}
use Rattle.stk_meaning.specs.Worlds.{Ran, Went, Cut, Flow, Normal, Break, Continue, Return, after, and_then, gives, next, give_back, restored}
use Rattle.stk_meaning.specs.Paths.{KeptNumbers}
use Rattle.stk_guarded.specs.Standing.{Standing, live, added, gone, IsOver, Ends, Goes}
use Rattle.stk_guarded.specs.Statements.{IsLeft, FlowEnds, IsStill, Flows, Declares, breaking, continuing, given_back_to}
use Rattle.stk_guarded.proofs.Evaluations.{never, ends_after, or_false, dead_whole, dead_both, kept_whole, passed_whole, alive_is, dead_is, added_none, added_alive, added_dead, over_after}
use Rattle.stk_guarded.proofs.Registers.{alike_same, alike_is, alike_then, alike_left, alike_right, restored_alike, restored_own, set_alike_one}

-- ---- what nothing changes

-- a standing without freedom is the same
pub still_is : (s t : Standing) → s.alive ≡ false → IsStill [] s t → t ≡ s
still_is s t e h =
    ap (λ b. record t { alive = b }) (h.alive ∙ sym e)
    ∙ ap (λ b. record t { alive = s.alive; broken = b }) h.broken
    ∙ ap (λ b. record t { alive = s.alive; broken = s.broken; continued = b }) h.continued
    ∙ ap (λ r. record s { numbers = r; kept = t.kept; entries = t.entries }) (alike_is t.numbers s.numbers h.numbers)
    ∙ ap (λ m. record s { kept = m; entries = t.entries }) h.kept
    ∙ ap (λ u. record s { entries = u }) h.entries

pub is_still : (ks : List ℕ) (s t : Standing) → s.alive ≡ false → t ≡ s → IsStill ks s t
is_still ks s t e h = record {
  alive = ap (λ (z : Standing). z.alive) h ∙ e;
  broken = ap (λ (z : Standing). z.broken) h;
  continued = ap (λ (z : Standing). z.continued) h;
  numbers = alike_same ks t.numbers s.numbers (ap (λ (z : Standing). z.numbers) h);
  kept = ap (λ (z : Standing). z.kept) h;
  entries = ap (λ (z : Standing). z.entries) h;
}

pub still_then : (js ks : List ℕ) (s t u : Standing) → IsStill js s t → IsStill ks t u → IsStill (js ++ ks) s u
still_then js ks s t u a b = record {
  alive = b.alive;
  broken = b.broken ∙ a.broken;
  continued = b.continued ∙ a.continued;
  numbers = alike_then (js ++ ks) u.numbers t.numbers s.numbers (alike_right js ks u.numbers t.numbers b.numbers) (alike_left js ks t.numbers s.numbers a.numbers);
  kept = b.kept ∙ a.kept;
  entries = b.entries ∙ a.entries;
}

left_still : (js ks : List ℕ) (b c : Bool) (r : List ℤ) (m : KeptNumbers) (t : List Entry) (s s1 s2 : Standing) → IsLeft js b c r m t s s1 → IsStill ks s1 s2 → IsLeft (js ++ ks) b c r m t s s2
left_still js ks b c r m t s s1 s2 a h = record {
  alive = h.alive;
  broken = h.broken ∙ a.broken;
  continued = h.continued ∙ a.continued;
  numbers = alike_then (js ++ ks) s2.numbers s1.numbers r (alike_right js ks s2.numbers s1.numbers h.numbers) (alike_left js ks s1.numbers r a.numbers);
  kept = h.kept ∙ a.kept;
  entries = h.entries ∙ a.entries;
}

over_still : (ks : List ℕ) (t : List Entry) (s s1 s2 : Standing) → IsOver t s s1 → IsStill ks s1 s2 → IsOver t s s2
over_still ks t s s1 s2 a h = record { alive = h.alive; broken = h.broken ∙ a.broken; continued = h.continued ∙ a.continued; entries = h.entries ∙ a.entries }

-- ---- one after another

left_after : (ks : List ℕ) (b c : Bool) (r r0 : List ℤ) (m m0 : KeptNumbers) (t u : List Entry) (s s2 : Standing) → IsLeft ks b c r m u (gone r0 m0 t s) s2 → IsLeft ks b c r m (t ++ u) s s2
left_after ks b c r r0 m m0 t u s s2 h = record { alive = h.alive; broken = h.broken; continued = h.continued; numbers = h.numbers; kept = h.kept; entries = h.entries ∙ append_assoc s.entries t u }

left_more : (js ks : List ℕ) (b c : Bool) (r : List ℤ) (m : KeptNumbers) (u : List Entry) (s s2 : Standing) → IsLeft ks b c r m u s s2 → IsLeft (js ++ ks) b c r m u s s2
left_more js ks b c r m u s s2 h = record { alive = h.alive; broken = h.broken; continued = h.continued; numbers = alike_right js ks s2.numbers r h.numbers; kept = h.kept; entries = h.entries }

flow_after : (ks : List ℕ) (r : List ℤ) (m : KeptNumbers) (t : List Entry) (R : Ran Flow KeptNumbers) (s s2 : Standing) → FlowEnds ks R (gone r m t s) s2 → FlowEnds ks (after t R) s s2
flow_after ks r m t (Went Normal r1 m1 u) s s2 h = h ∙ ap (λ z. record (gone r1 m1 u s) { entries = z }) (append_assoc s.entries t u)
flow_after ks r m t (Went Break r1 m1 u) s s2 h = left_after ks true s.continued r1 r m1 m t u s s2 h
flow_after ks r m t (Went Continue r1 m1 u) s s2 h = left_after ks s.broken true r1 r m1 m t u s s2 h
flow_after ks r m t (Went Return r1 m1 u) s s2 h = over_after t u s (gone r m t s) s2 refl refl refl h
flow_after ks r m t (Cut u) s s2 h = over_after t u s (gone r m t s) s2 refl refl refl h

flow_more : (js ks : List ℕ) (R : Ran Flow KeptNumbers) (s s2 : Standing) → FlowEnds ks R s s2 → FlowEnds (js ++ ks) R s s2
flow_more js ks (Went Normal r m u) s s2 h = h
flow_more js ks (Went Break r m u) s s2 h = left_more js ks true s.continued r m u s s2 h
flow_more js ks (Went Continue r m u) s s2 h = left_more js ks s.broken true r m u s s2 h
flow_more js ks (Went Return r m u) s s2 h = h
flow_more js ks (Cut u) s s2 h = h

flow_from : (js ks : List ℕ) (f : List ℤ → KeptNumbers → Ran Flow KeptNumbers) (r : List ℤ) (m : KeptNumbers) (t : List Entry) (s s1 s2 : Standing) → s1 ≡ gone r m t s → Flows ks (f s1.numbers s1.kept) s1 s2 → FlowEnds (js ++ ks) (after t (f r m)) s s2
flow_from js ks f r m t s s1 s2 e b =
    let b0 = subst (λ (z : Standing). Flows ks (f z.numbers z.kept) z s2) e b in
    flow_more js ks (after t (f r m)) s s2 (flow_after ks r m t (f r m) s s2 (b0.on refl))

-- an expression first
pub then_flows : {A : Type 0} (ks : List ℕ) (R : Ran A KeptNumbers) (f : A → List ℤ → KeptNumbers → Ran Flow KeptNumbers) (x : A) (s s1 s2 : Standing) → Goes R x s s1 → Flows ks (f x s1.numbers s1.kept) s1 s2 → Flows ks (and_then R f) s s2
then_flows {A} ks R f x s s1 s2 a b = record { on = λ h. by R (a.on h); off = λ h. no (a.off h) h }
  where
    by : (R : Ran A KeptNumbers) → Ends R x s s1 → FlowEnds ks (and_then R f) s s2
    by (Went y r m t) e = flow_from [] ks (f y) r m t s s1 s2 e.1 (subst (λ (z : A). Flows ks (f z s1.numbers s1.kept) s1 s2) e.0 b)
    by (Cut t) e = over_still ks t s s1 s2 e (b.off e.alive)

    no : s1 ≡ s → s.alive ≡ false → IsStill ks s s2
    no e h = subst (λ (z : Standing). IsStill ks z s2) e (b.off (ap (λ (z : Standing). z.alive) e ∙ h))

-- one statement after another
pub next_flows : (js ks : List ℕ) (R : Ran Flow KeptNumbers) (f : List ℤ → KeptNumbers → Ran Flow KeptNumbers) (s s1 s2 : Standing) → Flows js R s s1 → Flows ks (f s1.numbers s1.kept) s1 s2 → Flows (js ++ ks) (next R f) s s2
next_flows js ks R f s s1 s2 a b = record { on = λ h. by R (a.on h); off = λ h. let e = a.off h in still_then js ks s s1 s2 e (b.off e.alive) }
  where
    by : (R : Ran Flow KeptNumbers) → FlowEnds js R s s1 → FlowEnds (js ++ ks) (next R f) s s2
    by (Went Normal r m t) e = flow_from js ks f r m t s s1 s2 e b
    by (Went Break r m t) e = left_still js ks true s.continued r m t s s1 s2 e (b.off e.alive)
    by (Went Continue r m t) e = left_still js ks s.broken true r m t s s1 s2 e (b.off e.alive)
    by (Went Return r m t) e = over_still ks t s s1 s2 e (b.off e.alive)
    by (Cut t) e = over_still ks t s s1 s2 e (b.off e.alive)

-- entries before a statement
pub after_flows : (ks : List ℕ) (t : List Entry) (f : List ℤ → KeptNumbers → Ran Flow KeptNumbers) (s s2 : Standing) → Flows ks (f s.numbers s.kept) (added t s) s2 → Flows ks (after t (f s.numbers s.kept)) s s2
after_flows ks t f s s2 b = record {
  on = λ h. flow_from [] ks f s.numbers s.kept t s (added t s) s2 (added_alive t s h) b;
  off = λ h. subst (λ (z : Standing). IsStill ks z s2) (added_dead t s h) (b.off h);
}

ends_normal : (ks : List ℕ) (R : Ran Flow KeptNumbers) (s t : Standing) → Ends R Normal s t → FlowEnds ks R s t
ends_normal ks (Went Normal r m u) s t h = h.1
ends_normal ks (Went Break r m u) s t h = absurd cc
ends_normal ks (Went Continue r m u) s t h = absurd cc
ends_normal ks (Went Return r m u) s t h = absurd cc
ends_normal ks (Cut u) s t h = h

-- an evaluation whose value isn't used, as a statement
pub normal_flows : (ks : List ℕ) (R : Ran Flow KeptNumbers) (s t : Standing) → Goes R Normal s t → Flows ks R s t
normal_flows ks R s t a = record { on = λ h. ends_normal ks R s t (a.on h); off = λ h. is_still ks s t h (a.off h) }

-- ---- declarations

pub declares_flows : (ks : List ℕ) (R : Ran Flow KeptNumbers) (s t : Standing) → Declares ks R Normal s t → Flows ks R s t
declares_flows ks R s t a = record { on = λ h. ends_normal ks R s t (a.on h); off = a.off }

-- what doesn't declare
pub goes_declares : {A : Type 0} (ks : List ℕ) (R : Ran A KeptNumbers) (v : A) (s t : Standing) → Goes R v s t → Declares ks R v s t
goes_declares ks R v s t a = record { on = a.on; off = λ h. is_still ks s t h (a.off h) }

-- one after another
pub declares_then : {A B : Type 0} (js ks : List ℕ) (R : Ran A KeptNumbers) (f : A → List ℤ → KeptNumbers → Ran B KeptNumbers) (x : A) (v : B) (s s1 s2 : Standing) → Declares js R x s s1 → Declares ks (f x s1.numbers s1.kept) v s1 s2 → Declares (js ++ ks) (and_then R f) v s s2
declares_then {A} {B} js ks R f x v s s1 s2 a b = record { on = λ h. by R (a.on h); off = λ h. let e = a.off h in still_then js ks s s1 s2 e (b.off e.alive) }
  where
    by : (R : Ran A KeptNumbers) → Ends R x s s1 → Ends (and_then R f) v s s2
    by (Went y r m t) e =
        let b1 = subst (λ (z : A). Declares ks (f z s1.numbers s1.kept) v s1 s2) e.0 b in
        let b2 = subst (λ (z : Standing). Declares ks (f y z.numbers z.kept) v z s2) e.1 b1 in
        ends_after r m t (f y r m) v s s2 (b2.on refl)
    by (Cut t) e = over_still ks t s s1 s2 e (b.off e.alive)

-- the first part of a `for`, and the loop
pub start_flows : {A : Type 0} (js ks : List ℕ) (R : Ran A KeptNumbers) (f : A → List ℤ → KeptNumbers → Ran Flow KeptNumbers) (x : A) (s s1 s2 : Standing) → Declares js R x s s1 → Flows ks (f x s1.numbers s1.kept) s1 s2 → Flows (js ++ ks) (and_then R f) s s2
start_flows {A} js ks R f x s s1 s2 a b = record { on = λ h. by R (a.on h); off = λ h. let e = a.off h in still_then js ks s s1 s2 e (b.off e.alive) }
  where
    by : (R : Ran A KeptNumbers) → Ends R x s s1 → FlowEnds (js ++ ks) (and_then R f) s s2
    by (Went y r m t) e = flow_from js ks (f y) r m t s s1 s2 e.1 (subst (λ (z : A). Flows ks (f z s1.numbers s1.kept) s1 s2) e.0 b)
    by (Cut t) e = over_still ks t s s1 s2 e (b.off e.alive)

-- a declarator sets its register without a guard
pub set_declares : {A : Type 0} (k : ℕ) (x : ℤ) (v : A) (s : Standing) → Declares (k ∷ []) (Went v (set s.numbers k x) s.kept []) v s (record s { numbers = set s.numbers k x })
set_declares k x v s = record {
  on = λ h. (refl, ap (λ b. record { alive = b; broken = s.broken; continued = s.continued; numbers = set s.numbers k x; kept = s.kept; entries = s.entries }) h ∙ ap (λ u. record (gone (set s.numbers k x) s.kept [] s) { entries = u }) (sym (append-nil s.entries)));
  off = λ h. record { alive = h; broken = refl; continued = refl; numbers = set_alike_one s.numbers k x; kept = refl; entries = refl };
}

-- ---- how statements end

pub empty_flows : (s : Standing) → Flows [] (gives Normal s.numbers s.kept) s s
empty_flows s = record { on = λ h. sym (added_none s) ∙ added_alive [] s h; off = λ h. is_still [] s s h refl }

or_true : (b : Bool) → (b || true) ≡ true
or_true true = refl
or_true false = refl

pub break_flows : (s : Standing) → Flows [] (gives Break s.numbers s.kept) s (breaking s)
break_flows s = record {
  on = λ h. record { alive = refl; broken = ap (λ b. s.broken || b) h ∙ or_true s.broken; continued = refl; numbers = alike_same [] s.numbers s.numbers refl; kept = refl; entries = sym (append-nil s.entries) };
  off = λ h. record { alive = refl; broken = ap (λ b. s.broken || b) h ∙ or_false s.broken; continued = refl; numbers = alike_same [] s.numbers s.numbers refl; kept = refl; entries = refl };
}

pub continue_flows : (s : Standing) → Flows [] (gives Continue s.numbers s.kept) s (continuing s)
continue_flows s = record {
  on = λ h. record { alive = refl; broken = refl; continued = ap (λ b. s.continued || b) h ∙ or_true s.continued; numbers = alike_same [] s.numbers s.numbers refl; kept = refl; entries = sym (append-nil s.entries) };
  off = λ h. record { alive = refl; broken = refl; continued = ap (λ b. s.continued || b) h ∙ or_false s.continued; numbers = alike_same [] s.numbers s.numbers refl; kept = refl; entries = refl };
}

pub return_flows : (s : Standing) → Flows [] (gives Return s.numbers s.kept) s (live false s)
return_flows s = record {
  on = λ h. record { alive = refl; broken = refl; continued = refl; entries = sym (append-nil s.entries) };
  off = λ h. is_still [] s (live false s) h (dead_is s h);
}

left_scope : (ks : List ℕ) (old : List ℤ) (b c : Bool) (r : List ℤ) (m : KeptNumbers) (u : List Entry) (s t : Standing) → IsLeft ks b c r m u s t → IsLeft [] b c (restored ks old r) m u s (given_back_to ks old t)
left_scope ks old b c r m u s t h = record { alive = h.alive; broken = h.broken; continued = h.continued; numbers = alike_same [] (restored ks old t.numbers) (restored ks old r) (restored_alike ks old t.numbers r h.numbers); kept = h.kept; entries = h.entries }

pub scope_flows : (ks : List ℕ) (R : Ran Flow KeptNumbers) (s t : Standing) → Flows ks R s t → Flows [] (give_back ks s.numbers R) s (given_back_to ks s.numbers t)
scope_flows ks R s t a = record {
  on = λ h. by R (a.on h);
  off = λ h.
      let e = a.off h in
      record {
        alive = e.alive;
        broken = e.broken;
        continued = e.continued;
        kept = e.kept;
        entries = e.entries;
        numbers = alike_same [] (restored ks s.numbers t.numbers) s.numbers (restored_alike ks s.numbers t.numbers s.numbers e.numbers ∙ restored_own ks s.numbers);
      };
}
  where
    by : (R : Ran Flow KeptNumbers) → FlowEnds ks R s t → FlowEnds [] (give_back ks s.numbers R) s (given_back_to ks s.numbers t)
    by (Went Normal r m u) e = ap (given_back_to ks s.numbers) e
    by (Went Break r m u) e = left_scope ks s.numbers true s.continued r m u s t e
    by (Went Continue r m u) e = left_scope ks s.numbers s.broken true r m u s t e
    by (Went Return r m u) e = record { alive = e.alive; broken = e.broken; continued = e.continued; entries = e.entries }
    by (Cut u) e = record { alive = e.alive; broken = e.broken; continued = e.continued; entries = e.entries }

-- ---- branches

live_flows : (R : List ℤ → KeptNumbers → Ran Flow KeptNumbers) (s t : Standing) → s.alive ≡ true → Flows [] (R s.numbers s.kept) (live true s) t → Flows [] (R s.numbers s.kept) s t
live_flows R s t e a = subst (λ (z : Standing). Flows [] (R z.numbers z.kept) z t) (alive_is s e) a

dead_flows : (R : Ran Flow KeptNumbers) (s t : Standing) → s.alive ≡ false → Flows [] R (live false s) t → t ≡ s
dead_flows R s t e a = still_is (live false s) t refl (a.off refl) ∙ dead_is s e

-- a test that chooses a statement, or none
pub branch_flows : (b : Bool) (R : List ℤ → KeptNumbers → Ran Flow KeptNumbers) (s t : Standing) → Flows [] (R s.numbers s.kept) (live (s.alive && b) s) t → Flows [] (if b then R s.numbers s.kept else gives Normal s.numbers s.kept) s (live ((s.alive && not b) || t.alive) t)
branch_flows b R s t a = by s.alive b refl refl
  where
    end : Standing
    end = live ((s.alive && not b) || t.alive) t

    under : (c : Bool) → (s.alive && b) ≡ c → Flows [] (R s.numbers s.kept) (live c s) t
    under c e = subst (λ c. Flows [] (R s.numbers s.kept) (live c s) t) e a

    by : (g c : Bool) → s.alive ≡ g → b ≡ c → Flows [] (if b then R s.numbers s.kept else gives Normal s.numbers s.kept) s end
    by true true e f =
        subst (λ c. Flows [] (if c then R s.numbers s.kept else gives Normal s.numbers s.kept) s end) (sym f)
        (subst (λ (u : Standing). Flows [] (R s.numbers s.kept) s u) (sym (kept_whole b s t f)) (live_flows R s t e (under true (ap (λ g. g && b) e ∙ f))))
    by true false e f =
        subst (λ c. Flows [] (if c then R s.numbers s.kept else gives Normal s.numbers s.kept) s end) (sym f)
        (subst (λ (u : Standing). Flows [] (gives Normal s.numbers s.kept) s u) (sym (passed_whole b s t e f (still_is (live false s) t refl ((under false (ap (λ g. g && b) e ∙ f)).off refl)))) (empty_flows s))
    by false c e f =
        let same = dead_flows (R s.numbers s.kept) s t e (under false (ap (λ g. g && b) e)) in
        record { on = λ h. never s.alive h e; off = λ h. is_still [] s end e (dead_whole (not b) s t e same) }

-- either of two statements
pub either_flows : (b : Bool) (R Q : List ℤ → KeptNumbers → Ran Flow KeptNumbers) (s t u : Standing) → Flows [] (R s.numbers s.kept) (live (s.alive && b) s) t → Flows [] (Q t.numbers t.kept) (live (s.alive && not b) t) u → Flows [] (if b then R s.numbers s.kept else Q s.numbers s.kept) s (live (t.alive || u.alive) u)
either_flows b R Q s t u a c = by s.alive b refl refl
  where
    end : Standing
    end = live (t.alive || u.alive) u

    first : (d : Bool) → (s.alive && b) ≡ d → Flows [] (R s.numbers s.kept) (live d s) t
    first d e = subst (λ d. Flows [] (R s.numbers s.kept) (live d s) t) e a

    second : (d : Bool) → (s.alive && not b) ≡ d → Flows [] (Q t.numbers t.kept) (live d t) u
    second d e = subst (λ d. Flows [] (Q t.numbers t.kept) (live d t) u) e c

    by : (g d : Bool) → s.alive ≡ g → b ≡ d → Flows [] (if b then R s.numbers s.kept else Q s.numbers s.kept) s end
    by true true e f =
        let same = still_is (live false t) u refl ((second false (ap (λ g. g && not b) e ∙ ap not f)).off refl) in
        let whole : end ≡ t = ap (λ (z : Standing). live (t.alive || z.alive) z) same ∙ ap (λ d. live d t) (or_false t.alive) in
        subst (λ d. Flows [] (if d then R s.numbers s.kept else Q s.numbers s.kept) s end) (sym f)
        (subst (λ (z : Standing). Flows [] (R s.numbers s.kept) s z) (sym whole) (live_flows R s t e (first true (ap (λ g. g && b) e ∙ f))))
    by true false e f =
        let same = still_is (live false s) t refl ((first false (ap (λ g. g && b) e ∙ f)).off refl) in
        let c0 = subst (λ (z : Standing). Flows [] (Q z.numbers z.kept) (live true z) u) same (second true (ap (λ g. g && not b) e ∙ ap not f)) in
        let whole : end ≡ u = ap (λ (z : Standing). live (z.alive || u.alive) u) same in
        subst (λ d. Flows [] (if d then R s.numbers s.kept else Q s.numbers s.kept) s end) (sym f)
        (subst (λ (z : Standing). Flows [] (Q s.numbers s.kept) s z) (sym whole) (live_flows Q s u e c0))
    by false d e f =
        let same = dead_flows (R s.numbers s.kept) s t e (first false (ap (λ g. g && b) e)) in
        let again = still_is (live false t) u refl ((second false (ap (λ g. g && not b) e)).off refl) in
        record { on = λ h. never s.alive h e; off = λ h. is_still [] s end e (dead_both s t u same again) }
