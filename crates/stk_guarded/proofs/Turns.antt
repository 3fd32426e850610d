-- How a loop's turn ends under its guard.
use Rattle.std.proofs.Common.{◌≡◌, Bool, true, false, ◌&&◌, ◌||◌, not, List, [], ◌++◌, ℤ, refl, sym, ap, ◌∙◌, subst, append_assoc}
use Rattle.std.proofs.lemmas.List.{append-nil}
use Rattle.std.specs.Prelude.{if◌then◌else◌}
use Rattle.stk_meaning.specs.declared.entry.Entry.{Entry}
use Rattle.stk_meaning.specs.Worlds.{Ran, Went, Cut, Flow, Normal, Break, Continue, Return, after, and_then, gives, Turned, Another, Ended, again, behind_body}
use Rattle.stk_meaning.specs.Paths.{KeptNumbers}
use Rattle.stk_guarded.specs.Standing.{Standing, live, moved_to, gone, IsOver, Ends, Goes}
use Rattle.stk_guarded.specs.Statements.{FlowEnds, IsStill, Flows}
use Rattle.stk_guarded.specs.Turns.{opened, closed, no_more, turn_end}
use Rattle.stk_guarded.proofs.Registers.{alike_same, alike_is}
use Rattle.stk_guarded.proofs.Statements.{still_is, then_flows, branch_flows}

-- an evaluation leaves no statement
goes_broken : {A : Type 0} (R : Ran A KeptNumbers) (y : A) (s t : Standing) → Goes R y s t → t.broken ≡ s.broken
goes_broken {A} R y s t a = by s.alive refl
  where
    on : (Q : Ran A KeptNumbers) → Ends Q y s t → t.broken ≡ s.broken
    on (Went x r m u) e = ap (λ (z : Standing). z.broken) e.1
    on (Cut u) e = e.broken

    by : (b : Bool) → s.alive ≡ b → t.broken ≡ s.broken
    by true e = on R (a.on e)
    by false e = ap (λ (z : Standing). z.broken) (a.off e)

module _ {A : Type 0} (q : A → Bool) (S : List ℤ → KeptNumbers → Ran A KeptNumbers) where
  -- the run behind a body that went on
  on_end : (y : A) (R : Ran A KeptNumbers) (r : List ℤ) (m : KeptNumbers) (e : List Entry) (s t u : Standing) → t.broken ≡ false → t.entries ≡ s.entries ++ e → Ends R y t u →
      FlowEnds [] (again (after e (and_then R (λ x. gives (if q x then Another else Ended Normal)))) no_more) s (closed ((u.alive && not (q y)) || u.broken) s u)
  on_end y (Went x r1 m1 e1) r m e s t u b i h = by (q x) refl
    where
      entries : u.entries ≡ s.entries ++ (e ++ (e1 ++ []))
      entries = ap (λ (z : Standing). z.entries) h.1 ∙ ap (λ z. z ++ e1) i ∙ append_assoc s.entries e e1 ∙ ap (λ z. s.entries ++ (e ++ z)) (sym (append-nil e1))

      broken : u.broken ≡ false
      broken = ap (λ (z : Standing). z.broken) h.1 ∙ b

      alive : u.alive ≡ true
      alive = ap (λ (z : Standing). z.alive) h.1

      end : Standing
      end = closed ((u.alive && not (q y)) || u.broken) s u

      by : (c : Bool) → q x ≡ c → FlowEnds [] (again (Went (if c then Another else Ended Normal) r1 m1 (e ++ (e1 ++ []))) no_more) s end
      by true d = record {
        alive = ap (λ g. (g && not (q y)) || u.broken) alive ∙ ap (λ g. not g || u.broken) (ap q h.0 ∙ d) ∙ broken;
        broken = refl;
        continued = refl;
        entries = entries ∙ sym (ap (λ z. s.entries ++ z) (append-nil (e ++ (e1 ++ []))));
      }
      by false d =
          ap (λ g. closed ((g && not (q y)) || u.broken) s u) alive
          ∙ ap (λ g. closed (not g || u.broken) s u) (ap q h.0 ∙ d)
          ∙ ap (λ z. record (gone r1 m1 e s) { numbers = z; kept = u.kept; entries = u.entries }) (ap (λ (z : Standing). z.numbers) h.1)
          ∙ ap (λ z. record (gone r1 m1 e s) { kept = z; entries = u.entries }) (ap (λ (z : Standing). z.kept) h.1)
          ∙ ap (λ z. record (gone r1 m1 e s) { entries = z }) entries
  on_end y (Cut e1) r m e s t u b i h = record {
    alive = ap (λ z. (z && not (q y)) || u.broken) h.alive ∙ (h.broken ∙ b);
    broken = refl;
    continued = refl;
    entries = h.entries ∙ ap (λ z. z ++ e1) i ∙ append_assoc s.entries e e1;
  }

  -- a turn's body and what follows it
  pub turn_flows : (B : List ℤ → KeptNumbers → Ran Flow KeptNumbers) (y : A) (s t u : Standing) → Flows [] (B s.numbers s.kept) (opened s) t → Goes (S t.numbers t.kept) y (live (t.alive || t.continued) t) u →
      Flows [] (again (behind_body (B s.numbers s.kept) (turn_end q S)) no_more) s (closed ((u.alive && not (q y)) || u.broken) s u)
  turn_flows B y s t u a c = record { on = λ h. by (B s.numbers s.kept) (a.on h); off = no }
    where
      w : Standing
      w = closed ((u.alive && not (q y)) || u.broken) s u

      -- nothing goes on
      over : (e : List Entry) (k : Bool) → t.alive ≡ false → t.broken ≡ k → t.continued ≡ false → u ≡ live false t
      over e k d b n = c.off (ap (λ z. z || t.continued) d ∙ n) ∙ ap (λ z. live z t) (ap (λ z. z || t.continued) d ∙ n)

      ended : (e : List Entry) → IsOver e (opened s) t → IsOver e s w
      ended e h =
          let same = over e false h.alive h.broken h.continued in
          record {
            alive = ap (λ (z : Standing). (z.alive && not (q y)) || z.broken) same ∙ h.broken;
            broken = refl;
            continued = refl;
            entries = ap (λ (z : Standing). z.entries) same ∙ h.entries;
          }

      on : (r : List ℤ) (m : KeptNumbers) (e : List Entry) → (t.alive || t.continued) ≡ true → t.broken ≡ false → t.numbers ≡ r → t.kept ≡ m → t.entries ≡ s.entries ++ e → FlowEnds [] (again (after e (turn_end q S r m)) no_more) s w
      on r m e d b n k i =
          let h0 = c.on d in
          let h1 = subst (λ z. Ends (S z t.kept) y (live (t.alive || t.continued) t) u) n h0 in
          let h2 = subst (λ z. Ends (S r z) y (live (t.alive || t.continued) t) u) k h1 in
          on_end y (S r m) r m e s (live (t.alive || t.continued) t) u b i h2

      by : (R : Ran Flow KeptNumbers) → FlowEnds [] R (opened s) t → FlowEnds [] (again (behind_body R (turn_end q S)) no_more) s w
      by (Went Normal r m e) h = on r m e (ap (λ (z : Standing). z.alive || z.continued) h) (ap (λ (z : Standing). z.broken) h) (ap (λ (z : Standing). z.numbers) h) (ap (λ (z : Standing). z.kept) h) (ap (λ (z : Standing). z.entries) h)
      by (Went Continue r m e) h = on r m e (ap (λ z. z || t.continued) h.alive ∙ h.continued) h.broken (alike_is t.numbers r h.numbers) h.kept h.entries
      by (Went Break r m e) h =
          let same = over e true h.alive h.broken h.continued in
          ap (λ (z : Standing). closed ((z.alive && not (q y)) || z.broken) s z) same
          ∙ ap (λ z. record (gone r m e s) { alive = z; numbers = t.numbers; kept = t.kept; entries = t.entries }) h.broken
          ∙ ap (λ z. record (gone r m e s) { numbers = z; kept = t.kept; entries = t.entries }) (alike_is t.numbers r h.numbers)
          ∙ ap (λ z. record (gone r m e s) { kept = z; entries = t.entries }) h.kept
          ∙ ap (λ z. record (gone r m e s) { entries = z }) h.entries
      by (Went Return r m e) h = ended e h
      by (Cut e) h = ended e h

      no : s.alive ≡ false → IsStill [] s w
      no d =
          let still = a.off d in
          let same = over [] false still.alive still.broken still.continued in
          let whole = still_is (opened s) t d still in
          record {
            alive = ap (λ (z : Standing). (z.alive && not (q y)) || z.broken) same ∙ still.broken;
            broken = refl;
            continued = refl;
            numbers = alike_same [] u.numbers s.numbers (ap (λ (z : Standing). z.numbers) same ∙ ap (λ (z : Standing). z.numbers) whole);
            kept = ap (λ (z : Standing). z.kept) same ∙ still.kept;
            entries = ap (λ (z : Standing). z.entries) same ∙ still.entries;
          }

-- ---- the test before a turn

again_after : (t : List Entry) (R : Ran Turned KeptNumbers) → again (after t R) no_more ≡ after t (again R no_more)
again_after t (Went Another r m u) = ap Cut (append_assoc t u [])
again_after t (Went (Ended f) r m u) = refl
again_after t (Cut u) = refl

again_if : (b : Bool) (R : Ran Turned KeptNumbers) (r : List ℤ) (m : KeptNumbers) → again (if b then R else gives (Ended Normal) r m) no_more ≡ (if b then again R no_more else gives Normal r m)
again_if true R r m = refl
again_if false R r m = refl

again_tested : (T : Ran ℤ KeptNumbers) (q : ℤ → Bool) (R : List ℤ → KeptNumbers → Ran Turned KeptNumbers) → again (and_then T (λ x r m. if q x then R r m else gives (Ended Normal) r m)) no_more ≡ and_then T (λ x r m. if q x then again (R r m) no_more else gives Normal r m)
again_tested (Went x r m t) q R = again_after t (if q x then R r m else gives (Ended Normal) r m) ∙ ap (after t) (again_if (q x) (R r m) r m)
again_tested (Cut t) q R = refl

pub tested_flows : (T : Ran ℤ KeptNumbers) (q : ℤ → Bool) (R : List ℤ → KeptNumbers → Ran Turned KeptNumbers) (x : ℤ) (s s1 t : Standing) → Goes T x s s1 → Flows [] (again (R s1.numbers s1.kept) no_more) (live (s1.alive && q x) s1) t →
    Flows [] (again (and_then T (λ x r m. if q x then R r m else gives (Ended Normal) r m)) no_more) s (live ((s1.alive && not (q x)) || t.alive) t)
tested_flows T q R x s s1 t a b =
    subst (λ (z : Ran Flow KeptNumbers). Flows [] z s (live ((s1.alive && not (q x)) || t.alive) t)) (sym (again_tested T q R))
    (then_flows [] T (λ x r m. if q x then again (R r m) no_more else gives Normal r m) x s s1 (live ((s1.alive && not (q x)) || t.alive) t) a
    (branch_flows (q x) (λ r m. again (R r m) no_more) s1 t b))

-- ---- a loop begins with registers and kept numbers of its own

flow_moved : (R : Ran Flow KeptNumbers) (s s1 t : Standing) → s1.broken ≡ s.broken → s1.continued ≡ s.continued → s1.entries ≡ s.entries → FlowEnds [] R s1 t → FlowEnds [] R s t
flow_moved (Went Normal r m u) s s1 t b c e h =
    h ∙ ap (λ z. record { alive = true; broken = z; continued = s1.continued; numbers = r; kept = m; entries = s1.entries ++ u }) b
    ∙ ap (λ z. record { alive = true; broken = s.broken; continued = z; numbers = r; kept = m; entries = s1.entries ++ u }) c
    ∙ ap (λ z. record { alive = true; broken = s.broken; continued = s.continued; numbers = r; kept = m; entries = z ++ u }) e
flow_moved (Went Break r m u) s s1 t b c e h = record { alive = h.alive; broken = h.broken; continued = h.continued ∙ c; numbers = h.numbers; kept = h.kept; entries = h.entries ∙ ap (λ z. z ++ u) e }
flow_moved (Went Continue r m u) s s1 t b c e h = record { alive = h.alive; broken = h.broken ∙ b; continued = h.continued; numbers = h.numbers; kept = h.kept; entries = h.entries ∙ ap (λ z. z ++ u) e }
flow_moved (Went Return r m u) s s1 t b c e h = record { alive = h.alive; broken = h.broken ∙ b; continued = h.continued ∙ c; entries = h.entries ∙ ap (λ z. z ++ u) e }
flow_moved (Cut u) s s1 t b c e h = record { alive = h.alive; broken = h.broken ∙ b; continued = h.continued ∙ c; entries = h.entries ∙ ap (λ z. z ++ u) e }

pub moved_flows : (R : List ℤ → KeptNumbers → Ran Flow KeptNumbers) (r : List ℤ) (m : KeptNumbers) (s t : Standing) → Flows [] (R (moved_to r m s).numbers (moved_to r m s).kept) (moved_to r m s) t → Flows [] (R r m) s t
moved_flows R r m s t a = record { on = λ h. flow_moved (R r m) s (moved_to r m s) t refl refl refl (yes_of h); off = no_of }
  where
    yes_of : s.alive ≡ true → FlowEnds [] (R r m) (moved_to r m s) t
    yes_of h =
        let b0 = a.on h in
        let b1 = subst (λ z. FlowEnds [] (R (if z then r else s.numbers) (if z then m else s.kept)) (moved_to r m s) t) h b0 in
        b1

    no_of : s.alive ≡ false → IsStill [] s t
    no_of h =
        let still = a.off h in
        record {
          alive = still.alive;
          broken = still.broken;
          continued = still.continued;
          entries = still.entries;
          numbers = alike_same [] t.numbers s.numbers (alike_is t.numbers (moved_to r m s).numbers still.numbers ∙ ap (λ (z : Bool). if z then r else s.numbers) h);
          kept = still.kept ∙ ap (λ (z : Bool). if z then m else s.kept) h;
        }
