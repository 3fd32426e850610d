-- The turn of a loop, whose body is entered, and the sections of a `switch`.
use Rattle.std.proofs.Common.{◌≡◌, ℕ, zero, suc, Bool, true, false, ◌&&◌, ◌||◌, List, [], ◌++◌, Option, Some, None, ℤ, refl, sym, ap, ◌∙◌, subst, append_assoc}
use Rattle.stk_meaning.specs.declared.entry.Entry.{Entry}
use Rattle.stk_meaning.specs.Worlds.{Ran, Went, Cut, Flow, Normal, Break, Continue, Return, Turned, after, gives, behind_body, left_switch}
use Rattle.stk_meaning.specs.Paths.{KeptNumbers}
use Rattle.stk_meaning.specs.Statements.{from_chosen}
use Rattle.stk_guarded.specs.Standing.{Standing, live}
use Rattle.stk_guarded.specs.Statements.{Flows}
use Rattle.stk_guarded.specs.Sections.{begun, past, is_first, behind_first, Falls}
use Rattle.stk_guarded.proofs.Statements.{empty_flows, is_still}
use Rattle.stk_guarded.proofs.Sections.{left_flows}
use Rattle.stk_walk_statements.specs.Selected.{goes_if, is_none}

after_then : {A : Type 0} (t u : List Entry) (R : Ran A KeptNumbers) → after (t ++ u) R ≡ after t (after u R)
after_then t u (Went x r m v) = ap (λ z. Went x r m z) (append_assoc t u v)
after_then t u (Cut v) = ap Cut (append_assoc t u v)

-- a body that is entered
pub behind_entered : (t : List Entry) (R : Ran Flow KeptNumbers) (f : List ℤ → KeptNumbers → Ran Turned KeptNumbers) → behind_body (after t R) f ≡ after t (behind_body R f)
behind_entered t (Went Normal r m u) f = after_then t u (f r m)
behind_entered t (Went Continue r m u) f = after_then t u (f r m)
behind_entered t (Went Break r m u) f = refl
behind_entered t (Went Return r m u) f = refl
behind_entered t (Cut u) f = refl

pub or_swapped : (a b : Bool) → (a || b) ≡ (b || a)
or_swapped true true = refl
or_swapped true false = refl
or_swapped false true = refl
or_swapped false false = refl

-- ---- a `switch` to one of its sections, or past all

-- where it ends
abbrev pub switched : Option ℕ → Standing → Standing → Standing
switched o s t = record { alive = (t.alive || t.broken) || (s.alive && is_none o); broken = s.broken; continued = t.continued; numbers = t.numbers; kept = t.kept; entries = t.entries }

or_nothing : (a b : Bool) → b ≡ false → (a || b) ≡ a
or_nothing true b e = refl
or_nothing false b e = e

some_goes : (X : List ℤ → KeptNumbers → Ran Flow KeptNumbers) (n : ℕ) (s t : Standing) → s.alive ≡ true → Flows [] (X s.numbers s.kept) (live true (live false (begun s))) t → Flows [] (left_switch (X s.numbers s.kept)) s (switched (Some n) s t)
some_goes X n s t e h =
    let whole : live true (live false (begun s)) ≡ begun s = ap (λ b. record (begun s) { alive = b }) (sym e) in
    let left = left_flows (X s.numbers s.kept) s t (subst (λ (z : Standing). Flows [] (X s.numbers s.kept) z t) whole h) in
    let same : past s t ≡ switched (Some n) s t = ap (λ b. record (past s t) { alive = b }) (sym (or_nothing (t.alive || t.broken) (s.alive && false) (ap (λ z. z && false) e))) in
    subst (λ (z : Standing). Flows [] (left_switch (X s.numbers s.kept)) s z) same left

-- nothing was walked
stays_at : (o : Option ℕ) (s t : Standing) → t ≡ live false (live false (begun s)) → (s.alive && is_none o) ≡ s.alive → switched o s t ≡ s
stays_at o s t e h = ap (switched o s) e ∙ ap (λ b. record s { alive = b }) h

none_goes : (X : ℕ → List ℤ → KeptNumbers → Ran Flow KeptNumbers) (s t : Standing) → s.alive ≡ true → t ≡ live false (live false (begun s)) → Flows [] (from_chosen None X s.numbers s.kept) s (switched None s t)
none_goes X s t e h =
    let same : switched None s t ≡ s = stays_at None s t h (ap (λ z. z && true) e ∙ sym e) in
    subst (λ (z : Standing). Flows [] (gives Normal s.numbers s.kept) s z) (sym same) (empty_flows s)

dead_goes : (R : Ran Flow KeptNumbers) (o : Option ℕ) (s t : Standing) → s.alive ≡ false → t ≡ live false (live false (begun s)) → Flows [] R s (switched o s t)
dead_goes R o s t e h =
    let same : switched o s t ≡ s = stays_at o s t h (ap (λ z. z && is_none o) e ∙ sym e) in
    record { on = λ k. let never : true ≡ false = sym k ∙ e in absurd cc; off = λ k. is_still [] s (switched o s t) k same }

living_goes : (X : ℕ → List ℤ → KeptNumbers → Ran Flow KeptNumbers) (o : Option ℕ) (s t : Standing) → s.alive ≡ true → Falls X o (live false (begun s)) t → Flows [] (from_chosen o X s.numbers s.kept) s (switched o s t)
living_goes X None s t e h = none_goes X s t e (h.none refl)
living_goes X (Some n) s t e h = some_goes (X n) n s t e (h.at n refl)

pub chosen_flows : (X : ℕ → List ℤ → KeptNumbers → Ran Flow KeptNumbers) (o : Option ℕ) (s t : Standing) → Falls X (goes_if s.alive o) (live false (begun s)) t → Flows [] (from_chosen o X s.numbers s.kept) s (switched o s t)
chosen_flows X o s t h = by s.alive refl
  where
    by : (b : Bool) → s.alive ≡ b → Flows [] (from_chosen o X s.numbers s.kept) s (switched o s t)
    by false e = dead_goes (from_chosen o X s.numbers s.kept) o s t e (h.none (ap (λ b. goes_if b o) e))
    by true e = living_goes X o s t e (subst (λ b. Falls X (goes_if b o) (live false (begun s)) t) e h)

-- ---- one section after the other

-- behind a section that control is in, it goes to no other
pub alone_behind : (R : Ran Flow KeptNumbers) (o : Option ℕ) (s t : Standing) → (s.alive ≡ true → o ≡ None) → Flows [] R (live (s.alive || is_first o) s) t → t.alive ≡ true → behind_first o ≡ None
alone_behind R o s t only h alive = by o s.alive refl refl
  where
    by : (p : Option ℕ) (b : Bool) → o ≡ p → s.alive ≡ b → behind_first o ≡ None
    by None b e f = ap behind_first e
    by (Some zero) b e f = ap behind_first e
    by (Some (suc n)) true e f = ap behind_first (only f)
    by (Some (suc n)) false e f =
        let dead : t.alive ≡ false = (h.off (ap (λ z. z || is_first o) f ∙ ap is_first e)).alive in
        let never : true ≡ false = sym alive ∙ dead in
        absurd cc
