-- A marked literal gives way to its reason's others, and the hints go on to lead to a falsified clause.
use Rattle.std.proofs.Common.{◌≡◌, ◌≢◌, ◌⊎◌, ℕ, ◌+◌, ◌-◌, ◌<◌, ◌≤◌, Bool, false, List, [], ◌∷◌, ◌++◌, length, get_or, take, drop, set, reverse, sym, ◌∙◌, ap, subst, inl, inr, arith, refl, Some, None, Result, Ok, Err, slice_range, length-append}
use Rattle.std.specs.List.{Contains}
use Rattle.std.specs.Result.{OnOk}
use Rattle.std.proofs.lemmas.Bool.{cases_eq, cases_lt}
use Rattle.std.proofs.lemmas.List.{length-take, length-drop, get_or-take, get_or-drop, get_or_default, reverse-append, take_all}
use Rattle.std.proofs.lemmas.List.Elements.{Contains-push, Contains-append_left, Contains-push_cases, Contains-get_or}
use Rattle.stk_clauses.specs.declared.literal.Lit.{Lit}
use Rattle.stk_clauses.specs.Literals.{negated}
use Rattle.stk_clauses.specs.Propagation.{AllFalse, AreQuiet, HasNoPair, Forced, assumed, unit, Falsifies}
use Rattle.stk_clauses.specs.Hints.{IsUnit, With, Leads}
use Rattle.stk_clauses.proofs.Values.{lit_cases, negated-negated}
use Rattle.stk_clauses.proofs.Units.{no_falsified}
use Rattle.stk_clauses.proofs.Steps.{Leads-same}
use Rattle.stk_propagate.specs.Assigned.{AreFresh}
use Rattle.stk_propagate.proofs.Dropping.{one_place}
use Rattle.stk_propagate.specs.Fitting.{IsReason}
use Rattle.stk_propagate.proofs.Lists.{in_take, no_pair}
use Rattle.stk_solver.specs.declared.marks.Marks.{Marks}
use Rattle.stk_solver.specs.Marking.{Marked, IsNoted}
use Rattle.stk_solver.specs.Guides.{Guided, IsPoint, AreWithin, IsReplaced}
use Rattle.stk_solver.proofs.Marking.{AreMarkedToo, marked_clear}

pub take_grows : (t : List Lit) (i j : ℕ) (m : Lit) → i ≤ j → Contains (take i t) m → Contains (take j t) m
take_grows t i j m le (k, lt, e) =
    let a : k < i = omega (arith, lt, length-take i t) in
    let b : k < length (take j t) = omega (arith, lt, length-take i t, length-take j t, le) in
    (k, b, get_or-take j t k m (omega (arith, a, le)) ∙ sym (get_or-take i t k m a) ∙ e)

in_front : (t : List Lit) (x : Lit) (i k : ℕ) → i < k → i < length t → get_or t i x ≡ x → Contains (take k t) x
in_front t x i k lt in' e = (i, omega (arith, lt, in', length-take k t), get_or-take k t i x lt ∙ e)

first_hint : (cs : List (List Lit)) (S : Lit → Type 0) (r : ℕ) (p : Lit) (hs : List ℕ) → r < length cs → IsUnit S (get_or cs r []) p → Leads cs (With S p) hs → Leads cs S (r ∷ hs)
first_hint cs S r p [] lt u h = absurd h
first_hint cs S r p (g ∷ hs) lt u h = (lt, (p, u, h))

module _ (cs : List (List Lit)) (t : List Lit) (place k r : ℕ) (d : Lit) (old new : List Bool) (back : List ℕ) (fresh : AreFresh t) (in' : place < length t) (lt : place < k) (why : (r < length cs) × IsReason (take place t) (get_or cs r []) (get_or t place d))
    (marked : Marked old (get_or t place d)) (step : IsReplaced t place old new) (put : (m : Lit) → Contains (get_or cs r []) m → m ≢ get_or t place d → Marked new (negated m)) (g : Guided cs t k old back) where
  abbrev p : Lit
  p = get_or t place d

  here : Contains t p
  here = Contains-get_or t place d in'

  with_it : (s : List Lit) → ((m : Lit) → Contains s m → Contains (take place t) m ⊎ Marked new m) → (m : Lit) → Contains (s ++ p ∷ []) m → Contains (take k t) m ⊎ Marked old m
  with_it s within m h =
      elim (Contains-push_cases s p m h) [
        | inl a ↦ elim (within m a) [
          | inl b ↦ inl (take_grows t place k m (omega (arith, lt)) b)
          | inr b ↦ elim (step.less m d b) [ inl c ↦ inr c.0 | inr c ↦ inl (take_grows t place k m (omega (arith, lt)) c) ]
        ]
        | inr e ↦ inr (subst (λ y. Marked old y) e marked)
      ]

  all_of : (s : List Lit) → ((m : Lit) → Marked new m → Contains s m) → (m : Lit) → Marked old m → Contains (s ++ p ∷ []) m
  all_of s has m h =
      elim (lit_cases m p) [
        | inl e ↦ subst (λ y. Contains (s ++ p ∷ []) y) (sym e) (Contains-push s p)
        | inr n ↦ Contains-append_left s (p ∷ []) m (has m (step.kept m d h n))
      ]

  not_it : (s : List Lit) → ((m : Lit) → Contains s m → Contains (take place t) m ⊎ Marked new m) → Contains s p → ⊥
  not_it s within h =
      elim (within p h) [
        | inl a ↦ (fresh place d in').0 a
        | inr b ↦ elim (step.less p d b) [ inl c ↦ c.1 refl | inr c ↦ (fresh place d in').0 c ]
      ]

  not_negated : (s : List Lit) → ((m : Lit) → Contains s m → Contains (take place t) m ⊎ Marked new m) → Contains s (negated p) → ⊥
  not_negated s within h =
      elim (within (negated p) h) [
        | inl a ↦ (fresh place d in').1 a
        | inr b ↦ elim (step.less (negated p) d b) [ inl c ↦ no_pair t fresh p here (g.inside (negated p) c.0) | inr c ↦ (fresh place d in').1 c ]
      ]

  pub guided_resolved : Guided cs t place new (back ++ r ∷ [])
  guided_resolved = record {
    inside = λ m h. elim (step.less m d h) [ inl a ↦ g.inside m a.0 | inr b ↦ in_take t place m b ];
    some = omega (arith, length-append back (r ∷ []));
    leads = λ s within has.
        let u : List Lit = s ++ p ∷ [] in
        let rest : Leads cs (Contains u) (reverse back) = g.leads u (with_it s within) (all_of s has) in
        let rest' : Leads cs (With (Contains s) p) (reverse back) = Leads-same cs (Contains u) (With (Contains s) p) (reverse back)
        (λ m h. elim (Contains-push_cases s p m h) [ inl a ↦ inl a | inr e ↦ inr (sym e) ])
        (λ m w. elim w [ inl a ↦ Contains-append_left s (p ∷ []) m a | inr e ↦ subst (λ y. Contains u y) (sym e) (Contains-push s p) ]) rest in
        let is_unit : IsUnit (Contains s) (get_or cs r []) p = (why.1.has, not_it s within, not_negated s within, (λ m cm ne. has (negated m) (put m cm ne))) in
        rw (reverse-append back (r ∷ [])) (first_hint cs (Contains s) r p (reverse back) why.0 is_unit rest');
  }

-- what a step of the analysis leaves of the marks
module _ (cs : List (List Lit)) (t : List Lit) (place r : ℕ) (d : Lit) (old new : List Bool) (why : IsReason (take place t) (get_or cs r []) (get_or t place d)) (in' : (get_or t place d).0 < length old)
    (done : AreMarkedToo (set old (get_or t place d).0 false) new (get_or cs r []) (Some (get_or t place d))) where
  pub step_replaced : (in_t : place < length t) → IsReplaced t place old new
  step_replaced in_t = record {
    less = λ m e h. elim ((done m).0 h) [
      | inl a ↦
          let b = (marked_clear old (get_or t place d) in' m).0 a in
          inl (b.0, λ f. b.1 (f ∙ get_or_default t place e d in_t))
      | inr b ↦ inr (subst (λ y. Contains (take place t) y) (negated-negated m) (why.others (negated m) b.0 (λ f. b.1 (ap (λ (y : Lit). Some y) (sym f)))))
    ];
    kept = λ m e h ne. (done m).1 (inl ((marked_clear old (get_or t place d) in' m).1 h (λ f. ne (f ∙ get_or_default t place d e in_t))));
  }

  pub step_put : (m : Lit) → Contains (get_or cs r []) m → m ≢ get_or t place d → Marked new (negated m)
  step_put m cm ne =
      (done (negated m)).1 (inr (
        subst (λ y. Contains (get_or cs r []) y) (sym (negated-negated m)) cm,
        λ f. let h : get_or t place d ≡ negated (negated m) = cc in ne (sym (h ∙ negated-negated m)),
      ))

pub guided_lower : (cs : List (List Lit)) (t : List Lit) (i j : ℕ) (marked : List Bool) (back : List ℕ) → i ≤ j → Guided cs t j marked back → Guided cs t i marked back
guided_lower cs t i j marked back le g = record {
  inside = g.inside;
  some = g.some;
  leads = λ s within has. g.leads s (λ m h. elim (within m h) [ inl a ↦ inl (take_grows t i j m le a) | inr b ↦ inr b ]) has;
}

-- one clause that is falsified
pub guided_first : (cs : List (List Lit)) (t : List Lit) (id : ℕ) (old new : List Bool) (hints : List ℕ) → id < length cs → AllFalse t (get_or cs id []) → ((m : Lit) → Marked old m → ⊥) → AreMarkedToo old new (get_or cs id []) None → hints ≡ id ∷ [] → Guided cs t (length t) new hints
guided_first cs t id old new hints lt falsified clean done e = record {
  inside = λ m h. elim ((done m).0 h) [ inl a ↦ absurd (clean m a) | inr b ↦ subst (λ y. Contains t y) (negated-negated m) (falsified (negated m) b.0) ];
  some = omega (arith, ap length e);
  leads = λ s within has. subst (λ hs. Leads cs (Contains s) (reverse hs)) (sym e) (
    lt,
    λ m cm. has (negated m) ((done (negated m)).1 (inr (subst (λ y. Contains (get_or cs id []) y) (sym (negated-negated m)) cm, λ f. cc))),
  );
}

forced_trans : (cs : List (List Lit)) (A B : Lit → Type 0) → ((m : Lit) → A m → Forced cs B m) → (l : Lit) → Forced cs A l → Forced cs B l
forced_trans cs A B f l (assumed a) = f l a
forced_trans cs A B f l (unit {c} fc cl others) = unit fc cl (λ m cm ne. forced_trans cs A B f (negated m) (others m cm ne))

-- what hints lead to is found by unit propagation
pub leads_falsify : (cs : List (List Lit)) (S : Lit → Type 0) (hs : List ℕ) → Leads cs S hs → Falsifies cs S
leads_falsify cs S [] r = absurd r
leads_falsify cs S (h ∷ []) r = (get_or cs h [], Contains-get_or cs h [] r.0, λ m cm. assumed (r.1 m cm))
leads_falsify cs S (h ∷ g ∷ hs) (lt, (l, (cl, nt, nf, others), rest)) =
    let f = leads_falsify cs (With S l) (g ∷ hs) rest in
    let here' : Forced cs S l = unit (Contains-get_or cs h [] lt) cl (λ m cm ne. assumed (others m cm ne)) in
    (f.0, f.1, λ m cm. forced_trans cs (With S l) S (λ x w. elim w [ inl a ↦ assumed a | inr e ↦ subst (λ y. Forced cs S y) (sym e) here' ]) (negated m) (f.2 m cm))

pub fresh_front : (t : List Lit) (k : ℕ) → HasNoPair t → HasNoPair (take k t)
fresh_front t k ok l a b = ok l (in_take t k l a) (in_take t k (negated l) b)

-- where all is quiet, no marked literals are all true
pub nothing_left : (cs : List (List Lit)) (t : List Lit) (low : ℕ) (marked : List Bool) (back : List ℕ) → AreFresh t → AreQuiet (take low t) cs → Guided cs t low marked back → ((m : Lit) → Marked marked m → Contains (take low t) m) → ⊥
nothing_left cs t low marked back fresh quiet g below =
    no_falsified cs (Contains (take low t)) (take low t) (λ m h. h) (fresh_front t low (no_pair t fresh)) quiet
    (leads_falsify cs (Contains (take low t)) (reverse back) (g.leads (take low t) (λ m h. inl h) below))

in_range : (t : List Lit) (low e j : ℕ) (m : Lit) → low ≤ j → j < e → e ≤ length t → get_or t j m ≡ m → Contains (slice_range t low e) m
in_range t low e j m a b c q =
    let n : j - low < length (slice_range t low e) = omega (arith, length-take (e - low) (drop low t), length-drop low t) in
    let f : low + (j - low) ≡ j = omega arith in
    let lt : j - low < e - low = omega arith in
    (j - low, n, get_or-take (e - low) (drop low t) (j - low) m lt ∙ get_or-drop low t (j - low) m ∙ ap (λ x. get_or t x m) f ∙ q)

-- the point is found
pub point_found : (t : List Lit) (low end place : ℕ) (d : Lit) (marked : List Bool) → place + 1 ≡ end → low ≤ place → end ≤ length t → Marked marked (get_or t place d) → ((m : Lit) → Marked marked m → Contains (take end t) m)
    → ((m : Lit) → Contains (slice_range t low place) m → Marked marked m → ⊥) → IsPoint t low place marked
point_found t low end place d marked is late le here' inside none =
    let in' : place < length t = omega arith in
    record {
      late = late;
      exists = in';
      itself = λ e. subst (λ y. Marked marked y) (get_or_default t place d e in') here';
      others = λ m e h. at m e h (inside m h);
    }
  where
    at : (m e : Lit) → Marked marked m → Contains (take end t) m → Contains (take low t) m ⊎ (m ≡ get_or t place e)
    at m e h (j, jlt, q) =
        let b : j < end = omega (arith, jlt, length-take end t) in
        let q' : get_or t j m ≡ m = sym (get_or-take end t j m b) ∙ q in
        elim (cases_lt j low) [
          | inl a ↦ inl (in_front t m j low a (omega (arith, b, le)) q')
          | inr a ↦ elim (cases_eq j place) [
            | inl f ↦ inr (sym q' ∙ ap (λ n. get_or t n m) f ∙ get_or_default t place m e (omega (arith, is, le)))
            | inr n ↦ absurd (none m (in_range t low place j m a (omega (arith, b, n, is)) (omega (arith, is, le)) q') h)
          ]
        ]

-- the range that is empty has no marked literals
pub none_between : (t : List Lit) (low place : ℕ) (marked : List Bool) → place ≡ low → (m : Lit) → Contains (slice_range t low place) m → Marked marked m → ⊥
none_between t low place marked e m c h = omega (arith, c.1, length-take (place - low) (drop low t), e)

-- no marked literal stands behind the place
pub inside_lower : (t : List Lit) (marked : List Bool) (place end : ℕ) (d : Lit) → place + 1 ≡ end → place < length t → ((m : Lit) → Marked marked m → Contains (take end t) m) → (Marked marked (get_or t place d) → ⊥) → (m : Lit) → Marked marked m → Contains (take place t) m
inside_lower t marked place end d is lt inside none m h = at (inside m h)
  where
    at : Contains (take end t) m → Contains (take place t) m
    at (j, jlt, q) =
        let b : j < end = omega (arith, jlt, length-take end t) in
        let q' : get_or t j m ≡ m = sym (get_or-take end t j m b) ∙ q in
        elim (cases_eq j place) [
          | inl f ↦ let e : get_or t place d ≡ m = get_or_default t place d m lt ∙ ap (λ n. get_or t n m) (sym f) ∙ q' in absurd (none (subst (λ y. Marked marked y) (sym e) h))
          | inr n ↦ in_front t m j place (omega (arith, b, n, is)) (omega (arith, b, is, lt)) q'
        ]

pub inside_replaced : (t : List Lit) (old new : List Bool) (place end : ℕ) (d : Lit) → place + 1 ≡ end → place < length t → ((m : Lit) → Marked old m → Contains (take end t) m) → IsReplaced t place old new → (m : Lit) → Marked new m → Contains (take place t) m
inside_replaced t old new place end d is lt inside step m h =
    elim (step.less m d h) [ inl a ↦ at (inside m a.0) a.1 | inr b ↦ b ]
  where
    at : Contains (take end t) m → m ≢ get_or t place d → Contains (take place t) m
    at (j, jlt, q) ne =
        let b : j < end = omega (arith, jlt, length-take end t) in
        let q' : get_or t j m ≡ m = sym (get_or-take end t j m b) ∙ q in
        elim (cases_eq j place) [
          | inl f ↦ absurd (ne (sym q' ∙ ap (λ n. get_or t n m) f ∙ get_or_default t place m d lt))
          | inr n ↦ in_front t m j place (omega (arith, b, n, is)) (omega (arith, b, is, lt)) q'
        ]

-- the point stays where a literal before it gives way
pub point_kept : (t : List Lit) (low point place : ℕ) (old new : List Bool) → AreFresh t → place < low → IsPoint t low point old → AreWithin t place old new → IsPoint t low point new
point_kept t low point place old new fresh lt p w = record {
  late = p.late;
  exists = p.exists;
  itself = λ d. w.kept (get_or t point d) d (p.itself d) (λ e. let same : point ≡ place = one_place t (get_or t point d) point place fresh p.exists (omega (arith, lt, p.late, p.exists)) (get_or_default t point (get_or t point d) d p.exists) (get_or_default t place (get_or t point d) d (omega (arith, lt, p.late, p.exists)) ∙ sym e) in omega (arith, same, lt, p.late));
  others = λ m d h. elim (w.less m h) [ inl a ↦ p.others m d a | inr b ↦ inl (take_grows t place low m (omega (arith, lt)) b) ];
}

pub within_refl : (t : List Lit) (place : ℕ) (marked : List Bool) → AreWithin t place marked marked
within_refl t place marked = record { less = λ m h. inl h; kept = λ m d h n. h }

pub within_replaced : (t : List Lit) (place : ℕ) (d : Lit) (old new : List Bool) → IsReplaced t place old new → AreWithin t place old new
within_replaced t place d old new s = record { less = λ m h. elim (s.less m d h) [ inl a ↦ inl a.0 | inr b ↦ inr b ]; kept = s.kept }

-- all literals stand among the first as many as there are
pub inside_all : (t : List Lit) (n : ℕ) (marked : List Bool) → length t ≤ n → ((m : Lit) → Marked marked m → Contains t m) → (m : Lit) → Marked marked m → Contains (take n t) m
inside_all t n marked le inside m h = subst (λ ys. Contains ys m) (sym (take_all n t le)) (inside m h)

pub on_ok : {A B : Type 0} (r : Result A B) (P Q : Type 0) → (P → Q) → OnOk r P → OnOk r Q
on_ok (Ok x) P Q f h = f h
on_ok (Err e) P Q f h = h

-- what shortening keeps
pub record IsShorter (cs : List (List Lit)) (t : List Lit) (count low place bound : ℕ) (f : Marks) : Type 0 where
  pub noted : IsNoted f
  pub vars : f.vars ≡ count
  pub bound_low : bound ≤ low
  pub guided : Guided cs t bound f.marked.items f.hints.items
  pub point : IsPoint t low place f.marked.items

pub shorter_step : (cs : List (List Lit)) (t : List Lit) (count low point bound place : ℕ) (f g : Marks) → AreFresh t → place < bound → IsNoted g → g.vars ≡ f.vars → Guided cs t place g.marked.items g.hints.items → AreWithin t place f.marked.items g.marked.items
    → IsShorter cs t count low point bound f → IsShorter cs t count low point place g
shorter_step cs t count low point bound place f g fresh lt noted vars guided within s = record {
  noted = noted;
  vars = vars ∙ s.vars;
  bound_low = omega (arith, lt, s.bound_low);
  guided = guided;
  point = point_kept t low point place f.marked.items g.marked.items fresh (omega (arith, lt, s.bound_low)) s.point within;
}
