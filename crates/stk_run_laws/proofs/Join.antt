-- What an execution shows, some path run shows too: how that composes, for any two states and whatever relation they
-- stand in.
use Rattle.std.proofs.Common.{◌≡◌, ℕ, ◌⊎◌, List, [], ◌∷◌, ◌++◌, ℤ, refl, sym, ap, ◌∙◌, subst, inl, inr, append_assoc}
use Rattle.std.proofs.lemmas.List.{append-nil}
use Rattle.stk_meaning.specs.declared.entry.Entry.{Entry}
use Rattle.stk_meaning.specs.Visits.{Visits, both_visits}
use Rattle.stk_meaning.specs.Paths.{InputMap}
use Rattle.stk_meaning.specs.Worlds.{Ran, Went, Cut, trace_of, after, and_then}
use Rattle.stk_run_laws.specs.Visits.{IsIn}
use Rattle.stk_run_laws.proofs.Nodes.{Stands, Apart, in_left, in_right, in_either}
use Rattle.stk_run_laws.proofs.Maps.{Ground, Agree, Covers, OnlyIn, only_wider, only_both, agree_only}

-- ---- entries

-- each entry of the first list is one of the second
pub record Incl (a b : List Entry) : Type 0 where
  pub by : (e : Entry) → IsIn e a → IsIn e b

pub incl_refl : (a : List Entry) → Incl a a
incl_refl a = record { by = λ e h. h }

-- both parts grow
pub incl_both : (a b c d : List Entry) → Incl a c → Incl b d → Incl (a ++ b) (c ++ d)
incl_both a b c d p q = record { by = λ e h. elim (in_either e a b h) [ inl i ↦ in_left e c d (p.by e i) | inr i ↦ in_right e c d (q.by e i) ] }

pub incl_more : (a b c : List Entry) → Incl a c → Incl a (b ++ c)
incl_more a b c p = record { by = λ e h. in_right e b c (p.by e h) }

-- a place of two lists is a place of the first or one of the second
pub record InFirst (t before : List Entry) (e : Entry) : Type 0 where
  pub rest : List Entry
  pub is : t ≡ before ++ e ∷ rest

pub record InSecond (t u before : List Entry) (e : Entry) (rest : List Entry) : Type 0 where
  pub earlier : List Entry
  pub front : before ≡ t ++ earlier
  pub is : u ≡ earlier ++ e ∷ rest

pub place : (t u before : List Entry) (e : Entry) (rest : List Entry) → t ++ u ≡ before ++ e ∷ rest → InFirst t before e ⊎ InSecond t u before e rest
place [] u before e rest h = inr (record { earlier = before; front = refl; is = h })
place (y ∷ t) u [] e rest h =
    let same : y ≡ e = cc in
    inl (record { rest = t; is = ap (λ z. z ∷ t) same })
place (y ∷ t) u (z ∷ before) e rest h =
    let same : y ≡ z = cc in
    let tail : t ++ u ≡ before ++ e ∷ rest = cc in
    elim (place t u before e rest tail) [
      | inl a ↦ inl (record { rest = a.rest; is = ap (λ w. y ∷ w) a.is ∙ ap (λ w. w ∷ (before ++ e ∷ a.rest)) same })
      | inr b ↦ inr (record { earlier = b.earlier; front = ap (λ w. z ∷ w) b.front ∙ ap (λ w. w ∷ (t ++ b.earlier)) (sym same); is = b.is })
    ]

-- ---- runs

-- what is carried along: what the runs rest on, registers in range, and how the path run's state (T) stands to the
-- execution's (S)
pub record Sides (S T : Type 0) : Type 1 where
  pub ground : Ground
  pub fit : List ℤ → Type 0
  pub right : T → S → Type 0

-- a run that asks the map only at the nodes of a part
pub record Framed {A T : Type 0} (v : Visits) (P : InputMap → Ran A T) : Type 0 where
  pub same : (m m' : InputMap) → Agree v m m' → P m ≡ P m'

-- ---- what is shown too

pub record EndToo {A S T : Type 0} (g : Sides S T) (v : Visits) (m0 : InputMap) (P : InputMap → Ran A T) (x : A) (r : List ℤ) (s : S) (t : List Entry) : Type 0 where
  pub map : InputMap
  pub only : OnlyIn g.ground v m0 map
  pub kept : T
  pub entries : List Entry
  pub is : P map ≡ Went x r kept entries
  pub right : g.right kept s
  pub within : Incl entries t

pub record HitToo {A S T : Type 0} (g : Sides S T) (v : Visits) (m0 : InputMap) (P : InputMap → Ran A T) (before : List Entry) (e : Entry) : Type 0 where
  pub map : InputMap
  pub only : OnlyIn g.ground v m0 map
  pub earlier : List Entry
  pub rest : List Entry
  pub is : trace_of (P map) ≡ earlier ++ e ∷ rest
  pub within : Incl earlier before

abbrev pub EndsToo : {A S T : Type 0} → Sides S T → Visits → InputMap → Ran A S → (InputMap → Ran A T) → Type 0
EndsToo g v m0 (Went x r s t) P = EndToo g v m0 P x r s t
EndsToo g v m0 (Cut t) P = Unit {0}

-- from a map, by a change at the nodes of a part: a path run ends as the run R does, and shows each place of R
pub record Gathered {A S T : Type 0} (g : Sides S T) (v : Visits) (m0 : InputMap) (R : Ran A S) (P : InputMap → Ran A T) : Type 0 where
  pub ends : EndsToo g v m0 R P
  pub hits : (before : List Entry) (e : Entry) (rest : List Entry) → trace_of R ≡ before ++ e ∷ rest → HitToo g v m0 P before e

pub hit_wider : {A S T : Type 0} (g : Sides S T) (v w : Visits) (m0 : InputMap) (P : InputMap → Ran A T) (before : List Entry) (e : Entry) → ((k : ℕ) → Stands k v → Stands k w) → HitToo g v m0 P before e → HitToo g w m0 P before e
hit_wider g v w m0 P before e h a = record { map = a.map; only = only_wider g.ground v w m0 a.map h a.only; earlier = a.earlier; rest = a.rest; is = a.is; within = a.within }

pub gathered_wider : {A S T : Type 0} (g : Sides S T) (v w : Visits) (m0 : InputMap) (R : Ran A S) (P : InputMap → Ran A T) → ((k : ℕ) → Stands k v → Stands k w) → Gathered g v m0 R P → Gathered g w m0 R P
gathered_wider g v w m0 R P i a = record { ends = ends R a.ends; hits = λ before e rest h. hit_wider g v w m0 P before e i (a.hits before e rest h) }
  where
    ends : (R : _) → EndsToo g v m0 R P → EndsToo g w m0 R P
    ends (Went x r s t) a = record { map = a.map; only = only_wider g.ground v w m0 a.map i a.only; kept = a.kept; entries = a.entries; is = a.is; right = a.right; within = a.within }
    ends (Cut t) a = tt

no_place : (before : List Entry) (e : Entry) (rest : List Entry) → [] ≡ before ++ e ∷ rest → ⊥
no_place [] e rest h = cc
no_place (x ∷ before) e rest h = cc

pub gathered_cut : {A S T : Type 0} (g : Sides S T) (v : Visits) (m0 : InputMap) (P : InputMap → Ran A T) → Gathered g v m0 (Cut []) P
gathered_cut g v m0 P = record { ends = tt; hits = λ before e rest h. absurd (no_place before e rest h) }

-- the same run on both sides, at a map that is found, with kept numbers that are right
pub gathered_same : {A S T : Type 0} (g : Sides S T) (v : Visits) (m0 m : InputMap) (x : A) (r : List ℤ) (s : S) (kept : T) (t : List Entry) (P : InputMap → Ran A T) → OnlyIn g.ground v m0 m → g.right kept s → P m ≡ Went x r kept t → Gathered g v m0 (Went x r s t) P
gathered_same g v m0 m x r s kept t P o right h = record {
  ends = record { map = m; only = o; kept = kept; entries = t; is = h; right = right; within = incl_refl t };
  hits = λ before e rest is. record { map = m; only = o; earlier = before; rest = rest; is = ap trace_of h ∙ is; within = incl_refl before };
}

-- either run may be written otherwise
pub gathered_as : {A S T : Type 0} (g : Sides S T) (v : Visits) (m0 : InputMap) (R R' : Ran A S) (P Q : InputMap → Ran A T) → R ≡ R' → ((m : InputMap) → Q m ≡ P m) → Gathered g v m0 R P → Gathered g v m0 R' Q
gathered_as {A} {S} g v m0 R R' P Q real same a = subst (λ R. Gathered g v m0 R Q) real (record {
  ends = ends R a.ends;
  hits = λ before e rest h.
      let b = a.hits before e rest h in
      record { map = b.map; only = b.only; earlier = b.earlier; rest = b.rest; is = ap trace_of (same b.map) ∙ b.is; within = b.within };
})
  where
    ends : (R : Ran A S) → EndsToo g v m0 R P → EndsToo g v m0 R Q
    ends (Went x r s t) b = record { map = b.map; only = b.only; kept = b.kept; entries = b.entries; is = same b.map ∙ b.is; right = b.right; within = b.within }
    ends (Cut t) b = tt

-- P goes on as C
pub record GoesOn {A B T : Type 0} (PA : InputMap → Ran A T) (x : A) (r : List ℤ) (kept : T) (PB C : InputMap → Ran B T) : Type 0 where
  pub goes : (m : InputMap) (t : List Entry) → PA m ≡ Went x r kept t → C m ≡ after t (PB m)

-- C shows what P shows, and then more
pub record Shows {A B T : Type 0} (PA : InputMap → Ran A T) (C : InputMap → Ran B T) : Type 0 where
  pub more : (m : InputMap) → (rest : List Entry) × (trace_of (C m) ≡ trace_of (PA m) ++ rest)

pub trace_after : {A S : Type 0} (t : List Entry) (x : Ran A S) → trace_of (after t x) ≡ t ++ trace_of x
trace_after t (Went x r s u) = refl
trace_after t (Cut u) = refl

pub hit_stays : {A B S T : Type 0} (g : Sides S T) (v : Visits) (m0 : InputMap) (PA : InputMap → Ran A T) (C : InputMap → Ran B T) (before : List Entry) (e : Entry) → Shows PA C → HitToo g v m0 PA before e → HitToo g v m0 C before e
hit_stays g v m0 PA C before e s a =
    let n = s.more a.map in
    record { map = a.map; only = a.only; earlier = a.earlier; rest = a.rest ++ n.0; is = n.1 ∙ ap (λ t. t ++ n.0) a.is ∙ append_assoc a.earlier (e ∷ a.rest) n.0; within = a.within }

-- a first part that ends, and a second part
pub join : {A B S T : Type 0} (g : Sides S T) (v w : Visits) (m0 : InputMap) (x : A) (r : List ℤ) (s : S) (t : List Entry) (PA : InputMap → Ran A T) (RB : Ran B S) (PB C : InputMap → Ran B T) → Apart v w → Framed v PA → (a : EndToo g v m0 PA x r s t) → ((before : List Entry) (e : Entry) (rest : List Entry) → t ≡ before ++ e ∷ rest → HitToo g v m0 PA before e) → Gathered g w a.map RB PB → GoesOn PA x r a.kept PB C → Shows PA C → Gathered g (both_visits v w) m0 (after t RB) C
join g v w m0 x r s t PA RB PB C apart framed a hits b goes_on shows = record { ends = ends RB b.ends; hits = hits_of }
  where
    -- the first part is the same at each map that differs from a.map in the second one alone
    goes : (m : InputMap) → OnlyIn g.ground w a.map m → C m ≡ after a.entries (PB m)
    goes m o = goes_on.goes m a.entries (framed.same m a.map (agree_only g.ground v w a.map m apart.by o) ∙ a.is)

    ends : (RB : _) → EndsToo g w a.map RB PB → EndsToo g (both_visits v w) m0 (after t RB) C
    ends (Went y r' s' u) b = record {
      map = b.map;
      only = only_both g.ground v w (both_visits v w) m0 a.map b.map (λ k h. inl h) (λ k h. inr h) a.only b.only;
      kept = b.kept;
      entries = a.entries ++ b.entries;
      is = goes b.map b.only ∙ ap (after a.entries) b.is;
      right = b.right;
      within = incl_both a.entries b.entries t u a.within b.within;
    }
    ends (Cut u) b = tt

    hits_of : (before : List Entry) (e : Entry) (rest : List Entry) → trace_of (after t RB) ≡ before ++ e ∷ rest → HitToo g (both_visits v w) m0 C before e
    hits_of before e rest h =
        elim (place t (trace_of RB) before e rest (sym (trace_after t RB) ∙ h)) [
          | inl f ↦ hit_wider g v (both_visits v w) m0 C before e (λ k h. inl h) (hit_stays g v m0 PA C before e shows (hits before e f.rest f.is))
          | inr i ↦
              let c = b.hits i.earlier e rest i.is in
              record {
                map = c.map;
                only = only_both g.ground v w (both_visits v w) m0 a.map c.map (λ k h. inl h) (λ k h. inr h) a.only c.only;
                earlier = a.entries ++ c.earlier;
                rest = c.rest;
                is = ap trace_of (goes c.map c.only) ∙ trace_after a.entries (PB c.map) ∙ ap (λ z. a.entries ++ z) c.is ∙ sym (append_assoc a.entries c.earlier (e ∷ c.rest));
                within = subst (Incl (a.entries ++ c.earlier)) (sym i.front) (incl_both a.entries c.earlier t i.earlier a.within c.within);
              }
        ]

-- ---- one run after another

pub shows_then : {A B T : Type 0} (PA : InputMap → Ran A T) (PB : InputMap → A → List ℤ → T → Ran B T) → Shows PA (λ m. and_then (PA m) (PB m))
shows_then {A} {B} {T} PA PB = record { more = λ m. more (PA m) (PB m) }
  where
    more : (x : Ran A T) (f : A → List ℤ → T → Ran B T) → (rest : List Entry) × (trace_of (and_then x f) ≡ trace_of x ++ rest)
    more (Went x r s t) f = (trace_of (f x r s), trace_after t (f x r s))
    more (Cut t) f = ([], sym (append-nil t))

-- what a run ends with: a value of which something holds, and registers in range
abbrev pub EndsIn : {A S : Type 0} → (A → Type 0) → Ran A S → Type 0
EndsIn Q (Went x r s t) = Q x
EndsIn Q (Cut t) = Unit {0}

abbrev pub FitBy : {A S T : Type 0} → Sides S T → Ran A S → Type 0
FitBy g (Went x r s t) = g.fit r
FitBy g (Cut t) = Unit {0}

pub gathered_then : {A B S T : Type 0} (g : Sides S T) (v w : Visits) (Q : A → Type 0) (m0 : InputMap) (RA : Ran A S) (PA : InputMap → Ran A T) (RB : A → List ℤ → S → Ran B S) (PB : InputMap → A → List ℤ → T → Ran B T) → Apart v w → Covers g.ground m0 → FitBy g RA → EndsIn Q RA → Framed v PA → Gathered g v m0 RA PA → ((m : InputMap) (x : A) (r : List ℤ) (s : S) (kept : T) → Q x → Covers g.ground m → g.fit r → g.right kept s → Gathered g w m (RB x r s) (λ m. PB m x r kept)) → Gathered g (both_visits v w) m0 (and_then RA RB) (λ m. and_then (PA m) (PB m))
gathered_then {S = S} g v w Q m0 RA PA RB PB apart base fit ends framed a b = cases RA a fit ends
  where
    cases : (RA : Ran _ S) → Gathered g v m0 RA PA → FitBy g RA → EndsIn Q RA → Gathered g (both_visits v w) m0 (and_then RA RB) (λ m. and_then (PA m) (PB m))
    cases (Went x r s t) a h q =
        join g v w m0 x r s t PA (RB x r s) (λ m. PB m x r a.ends.kept) _ apart framed a.ends a.hits (b a.ends.map x r s a.ends.kept q (a.ends.only.keeps base) h a.ends.right)
        (record { goes = λ m t h. ap (λ z. and_then z (PB m)) h }) (shows_then PA PB)
    cases (Cut t) a h q = record {
      ends = tt;
      hits = λ before e rest h. hit_wider g v (both_visits v w) m0 _ before e (λ k h. inl h) (hit_stays g v m0 PA _ before e (shows_then PA PB) (a.hits before e rest h));
    }
