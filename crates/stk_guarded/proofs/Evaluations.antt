-- How evaluations compose, one after another and in branches, each under its guard.
use Rattle.std.proofs.Common.{◌≡◌, Bool, true, false, ◌&&◌, ◌||◌, not, List, [], ◌++◌, ℤ, refl, sym, ap, ◌∙◌, subst, append_assoc}
use Rattle.std.proofs.lemmas.List.{append-nil}
use Rattle.std.specs.Prelude.{if◌then◌else◌}
use Rattle.stk_meaning.specs.declared.entry.Entry.{Entry}
use Rattle.stk_meaning.specs.Worlds.{Ran, Went, Cut, after, and_then, gives}
use Rattle.stk_meaning.specs.Paths.{KeptNumbers}
use Rattle.stk_guarded.specs.Standing.{Standing, live, added, moved_to, gone, IsOver, Ends, Goes}

pub never : {P : Type 0} (b : Bool) → b ≡ true → b ≡ false → P
never true e f = absurd cc
never false e f = absurd cc

-- a standing that is alive is alive
pub alive_is : (s : Standing) → s.alive ≡ true → live true s ≡ s
alive_is s e = ap (λ b. live b s) (sym e)

pub dead_is : (s : Standing) → s.alive ≡ false → live false s ≡ s
dead_is s e = ap (λ b. live b s) (sym e)

-- nothing is added
pub added_none : (s : Standing) → added [] s ≡ s
added_none s = ap (λ u. record s { entries = u }) (by s.alive)
  where
    by : (b : Bool) → s.entries ++ (if b then [] else []) ≡ s.entries
    by true = append-nil s.entries
    by false = append-nil s.entries

pub added_dead : (t : List Entry) (s : Standing) → s.alive ≡ false → added t s ≡ s
added_dead t s e = ap (λ b. record s { entries = s.entries ++ (if b then t else []) }) e ∙ ap (λ u. record s { entries = u }) (append-nil s.entries)

pub added_alive : (t : List Entry) (s : Standing) → s.alive ≡ true → added t s ≡ gone s.numbers s.kept t s
added_alive t s e = ap (λ b. record s { alive = b; entries = s.entries ++ (if b then t else []) }) e

-- ---- one after another

pub over_after : (t u : List Entry) (s s1 s2 : Standing) → s1.broken ≡ s.broken → s1.continued ≡ s.continued → s1.entries ≡ s.entries ++ t → IsOver u s1 s2 → IsOver (t ++ u) s s2
over_after t u s s1 s2 b c e o = record {
  alive = o.alive;
  broken = o.broken ∙ b;
  continued = o.continued ∙ c;
  entries = o.entries ∙ ap (λ z. z ++ u) e ∙ append_assoc s.entries t u;
}

pub ends_after : {A : Type 0} (r : List ℤ) (m : KeptNumbers) (t : List Entry) (R : Ran A KeptNumbers) (v : A) (s s2 : Standing) → Ends R v (gone r m t s) s2 → Ends (after t R) v s s2
ends_after r m t (Went x r1 m1 u) v s s2 h = (h.0, h.1 ∙ ap (λ z. record (gone r1 m1 u s) { entries = z }) (append_assoc s.entries t u))
ends_after r m t (Cut u) v s s2 h = over_after t u s (gone r m t s) s2 refl refl refl h

-- a part that went to a standing, and what follows from there
pub from_gone : {A : Type 0} (f : List ℤ → KeptNumbers → Ran A KeptNumbers) (r : List ℤ) (m : KeptNumbers) (t : List Entry) (v : A) (s s1 s2 : Standing) → s1 ≡ gone r m t s → Goes (f s1.numbers s1.kept) v s1 s2 → Ends (after t (f r m)) v s s2
from_gone f r m t v s s1 s2 e b =
    let b0 = subst (λ (z : Standing). Goes (f z.numbers z.kept) v z s2) e b in
    ends_after r m t (f r m) v s s2 (b0.on refl)

ends_then : {A B : Type 0} (R : Ran A KeptNumbers) (f : A → List ℤ → KeptNumbers → Ran B KeptNumbers) (x : A) (v : B) (s s1 s2 : Standing) → Ends R x s s1 → Goes (f x s1.numbers s1.kept) v s1 s2 → Ends (and_then R f) v s s2
ends_then {A} {B} (Went y r m t) f x v s s1 s2 a b =
    from_gone (f y) r m t v s s1 s2 a.1 (subst (λ (z : A). Goes (f z s1.numbers s1.kept) v s1 s2) a.0 b)
ends_then (Cut t) f x v s s1 s2 a b = subst (λ (z : Standing). IsOver t s z) (sym (b.off a.alive)) a

pub then_goes : {A B : Type 0} (R : Ran A KeptNumbers) (f : A → List ℤ → KeptNumbers → Ran B KeptNumbers) (x : A) (v : B) (s s1 s2 : Standing) → Goes R x s s1 → Goes (f x s1.numbers s1.kept) v s1 s2 → Goes (and_then R f) v s s2
then_goes R f x v s s1 s2 a b = record {
  on = λ h. ends_then R f x v s s1 s2 (a.on h) b;
  off = λ h. let e = a.off h in b.off (ap (λ (z : Standing). z.alive) e ∙ h) ∙ e;
}

-- entries before a part
pub after_goes : {A : Type 0} (t : List Entry) (f : List ℤ → KeptNumbers → Ran A KeptNumbers) (v : A) (s s2 : Standing) → Goes (f s.numbers s.kept) v (added t s) s2 → Goes (after t (f s.numbers s.kept)) v s s2
after_goes t f v s s2 b = record {
  on = λ h. from_gone f s.numbers s.kept t v s (added t s) s2 (added_alive t s h) b;
  off = λ h. b.off h ∙ added_dead t s h;
}

-- a value, and nothing done
pub gives_goes : {A : Type 0} (x : A) (s : Standing) → Goes (gives x s.numbers s.kept) x s s
gives_goes x s = record { on = λ h. (refl, sym (added_none s) ∙ added_alive [] s h); off = λ h. refl }

-- a value behind entries
pub adds_goes : {A : Type 0} (t : List Entry) (x : A) (s : Standing) → Goes (Went x s.numbers s.kept t) x s (added t s)
adds_goes t x s = record { on = λ h. (refl, added_alive t s h); off = λ h. added_dead t s h }

-- a cut
pub cut_goes : {A : Type 0} (v : A) (s : Standing) → Goes {A = A} (Cut []) v s (live false s)
cut_goes v s = record { on = λ h. record { alive = refl; broken = refl; continued = refl; entries = sym (append-nil s.entries) }; off = λ h. dead_is s h }

-- a value with other registers and kept numbers
pub moves_goes : {A : Type 0} (x : A) (r : List ℤ) (m : KeptNumbers) (s : Standing) → Goes (Went x r m []) x s (moved_to r m s)
moves_goes x r m s = record { on = λ h. (refl, by s.alive refl h); off = λ h. no s.alive refl h }
  where
    by : (b : Bool) → s.alive ≡ b → b ≡ true → moved_to r m s ≡ gone r m [] s
    by true e h = ap (λ b. record (moved_to r m s) { alive = b; numbers = if b then r else s.numbers; kept = if b then m else s.kept }) e ∙ ap (λ z. record (gone r m [] s) { entries = z }) (sym (append-nil s.entries))
    by false e h = absurd cc

    no : (b : Bool) → s.alive ≡ b → b ≡ false → moved_to r m s ≡ s
    no true e h = absurd cc
    no false e h = ap (λ b. record s { numbers = if b then r else s.numbers; kept = if b then m else s.kept }) e

-- the same value by another name
pub same_goes : {A : Type 0} (R : Ran A KeptNumbers) (x y : A) (s t : Standing) → x ≡ y → Goes R x s t → Goes R y s t
same_goes R x y s t e a = subst (λ z. Goes R z s t) e a

-- ---- branches

pub or_false : (b : Bool) → (b || false) ≡ b
or_false true = refl
or_false false = refl

pub and_false : (b : Bool) → (b && false) ≡ false
and_false true = refl
and_false false = refl

-- a part that is walked under true
live_goes : {A : Type 0} (R : List ℤ → KeptNumbers → Ran A KeptNumbers) (v : A) (s t : Standing) → s.alive ≡ true → Goes (R s.numbers s.kept) v (live true s) t → Goes (R s.numbers s.kept) v s t
live_goes R v s t e a = subst (λ (z : Standing). Goes (R z.numbers z.kept) v z t) (alive_is s e) a

pub dead_whole : (c : Bool) (s t : Standing) → s.alive ≡ false → t ≡ s → live ((s.alive && c) || t.alive) t ≡ s
dead_whole c s t e same = ap (λ (z : Standing). live ((s.alive && c) || z.alive) z) same ∙ (ap (λ b. live ((b && c) || b) s) e ∙ dead_is s e)

pub dead_both : (s t u : Standing) → t ≡ s → u ≡ live false t → live (t.alive || u.alive) u ≡ s
dead_both s t u same again = ap (λ (z : Standing). live (t.alive || z.alive) z) again ∙ ap (λ b. live b t) (or_false t.alive) ∙ same

pub kept_whole : (b : Bool) (s t : Standing) → b ≡ true → live ((s.alive && not b) || t.alive) t ≡ t
kept_whole b s t f = ap (λ c. live ((s.alive && not c) || t.alive) t) f ∙ ap (λ c. live (c || t.alive) t) (and_false s.alive)

pub passed_whole : (b : Bool) (s t : Standing) → s.alive ≡ true → b ≡ false → t ≡ live false s → live ((s.alive && not b) || t.alive) t ≡ s
passed_whole b s t e f same =
    ap (λ c. live ((s.alive && not c) || t.alive) t) f
    ∙ ap (λ (z : Standing). live ((s.alive && true) || z.alive) z) same
    ∙ ap (λ g. live ((g && true) || false) s) e
    ∙ alive_is s e

-- the branch that a test chooses; where it is false, a value and nothing done
pub branch_goes : {A : Type 0} (b : Bool) (R : List ℤ → KeptNumbers → Ran A KeptNumbers) (v z : A) (s t : Standing) → Goes (R s.numbers s.kept) v (live (s.alive && b) s) t → Goes (if b then R s.numbers s.kept else gives z s.numbers s.kept) (if b then v else z) s (live ((s.alive && not b) || t.alive) t)
branch_goes {A} b R v z s t a = by s.alive b refl refl
  where
    end : Standing
    end = live ((s.alive && not b) || t.alive) t

    under : (c : Bool) → (s.alive && b) ≡ c → Goes (R s.numbers s.kept) v (live c s) t
    under c e = subst (λ c. Goes (R s.numbers s.kept) v (live c s) t) e a

    by : (g c : Bool) → s.alive ≡ g → b ≡ c → Goes (if b then R s.numbers s.kept else gives z s.numbers s.kept) (if b then v else z) s end
    by true true e f =
        subst (λ c. Goes (if c then R s.numbers s.kept else gives z s.numbers s.kept) (if c then v else z) s end) (sym f)
        (subst (λ (u : Standing). Goes (R s.numbers s.kept) v s u) (sym (kept_whole b s t f)) (live_goes R v s t e (under true (ap (λ g. g && b) e ∙ f))))
    by true false e f =
        subst (λ c. Goes (if c then R s.numbers s.kept else gives z s.numbers s.kept) (if c then v else z) s end) (sym f)
        (subst (λ (u : Standing). Goes (gives z s.numbers s.kept) z s u) (sym (passed_whole b s t e f ((under false (ap (λ g. g && b) e ∙ f)).off refl))) (gives_goes z s))
    by false c e f =
        let same : t ≡ s = (under false (ap (λ g. g && b) e)).off refl ∙ dead_is s e in
        record { on = λ h. never s.alive h e; off = λ h. dead_whole (not b) s t e same }

-- either branch
pub either_goes : {A : Type 0} (b : Bool) (R Q : List ℤ → KeptNumbers → Ran A KeptNumbers) (v w : A) (s t u : Standing) → Goes (R s.numbers s.kept) v (live (s.alive && b) s) t → Goes (Q t.numbers t.kept) w (live (s.alive && not b) t) u → Goes (if b then R s.numbers s.kept else Q s.numbers s.kept) (if b then v else w) s (live (t.alive || u.alive) u)
either_goes {A} b R Q v w s t u a c = by s.alive b refl refl
  where
    end : Standing
    end = live (t.alive || u.alive) u

    first : (d : Bool) → (s.alive && b) ≡ d → Goes (R s.numbers s.kept) v (live d s) t
    first d e = subst (λ d. Goes (R s.numbers s.kept) v (live d s) t) e a

    second : (d : Bool) → (s.alive && not b) ≡ d → Goes (Q t.numbers t.kept) w (live d t) u
    second d e = subst (λ d. Goes (Q t.numbers t.kept) w (live d t) u) e c

    by : (g d : Bool) → s.alive ≡ g → b ≡ d → Goes (if b then R s.numbers s.kept else Q s.numbers s.kept) (if b then v else w) s end
    by true true e f =
        let same : u ≡ live false t = (second false (ap (λ g. g && not b) e ∙ ap not f)).off refl in
        let whole : end ≡ t = ap (λ (z : Standing). live (t.alive || z.alive) z) same ∙ ap (λ d. live d t) (or_false t.alive) in
        subst (λ d. Goes (if d then R s.numbers s.kept else Q s.numbers s.kept) (if d then v else w) s end) (sym f)
        (subst (λ (z : Standing). Goes (R s.numbers s.kept) v s z) (sym whole) (live_goes R v s t e (first true (ap (λ g. g && b) e ∙ f))))
    by true false e f =
        let same : t ≡ live false s = (first false (ap (λ g. g && b) e ∙ f)).off refl in
        let c0 = subst (λ (z : Standing). Goes (Q z.numbers z.kept) w (live true z) u) same (second true (ap (λ g. g && not b) e ∙ ap not f)) in
        let whole : end ≡ u = ap (λ (z : Standing). live (z.alive || u.alive) u) same in
        subst (λ d. Goes (if d then R s.numbers s.kept else Q s.numbers s.kept) (if d then v else w) s end) (sym f)
        (subst (λ (z : Standing). Goes (Q s.numbers s.kept) w s z) (sym whole) (live_goes Q w s u e c0))
    by false d e f =
        let same : t ≡ s = (first false (ap (λ g. g && b) e)).off refl ∙ dead_is s e in
        let again : u ≡ live false t = (second false (ap (λ g. g && not b) e)).off refl in
        record { on = λ h. never s.alive h e; off = λ h. dead_both s t u same again }
