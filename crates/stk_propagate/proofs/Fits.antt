-- A trail goes on to fit its clauses.
use Rattle.std.proofs.Common.{◌≡◌, ◌⊎◌, ℕ, ◌+◌, ◌<◌, ◌≤◌, List, [], ◌∷◌, ◌++◌, length, get_or, take, set, sym, ◌∙◌, ap, subst, inl, inr, refl, arith, Option, Some, None, length-append}
use Rattle.std.specs.List.{Contains, All}
use Rattle.std.proofs.lemmas.Bool.{cases_eq, cases_lt}
use Rattle.std.proofs.lemmas.List.{length-take, get_or-take, take-take, take-append-le, take_all, take_at, take_more, get_or_append_left, get_or_at, get_or-set_same, get_or-set_other, length-set}
use Rattle.std.proofs.lemmas.List.Elements.{Contains-append_left, Contains-push, Contains-push_cases, All-push}
use Rattle.stk_clauses.specs.declared.literal.Lit.{Lit}
use Rattle.stk_clauses.specs.Literals.{negated, AreBelow}
use Rattle.stk_clauses.specs.Propagation.{AreQuiet}
use Rattle.stk_clauses.proofs.Values.{negated-negated, negated-other}
use Rattle.stk_propagate.specs.Assigned.{Assigned}
use Rattle.stk_propagate.specs.Trailed.{Trailed, IsAssumed}
use Rattle.stk_propagate.specs.Fitting.{IsReason, AreReasons, IsSettled, IsWatched, IsCalm, Fits}
use Rattle.stk_propagate.proofs.Calm.{calm_more}

-- the trail with other true literals
pub fits_assigned : (s : Trailed) (b : Assigned) (cs : List (List Lit)) → Fits s cs → b.vars ≡ s.assigned.vars → AreReasons b cs
    → ((k : ℕ) → IsAssumed b k → IsAssumed s.assigned k × (take k b.literals ≡ take k s.assigned.literals)) → take s.propagated b.literals ≡ take s.propagated s.assigned.literals
    → ((x : Lit) → Contains s.assigned.literals x → Contains b.literals x) → length s.assigned.literals ≤ length b.literals → Fits (record s { assigned = b }) cs
fits_assigned s b cs f ev reasons front ahead more longer = record {
  below = subst (λ v. All (AreBelow v) cs) (sym ev) f.below;
  counted = f.counted;
  watched = f.watched;
  reasons = reasons;
  settled = λ k id h lt. let p = front k h in rw p.1 (f.settled k id p.0 lt);
  calm = λ k id h lt. let p = front k h in rw p.1 (f.calm k id p.0 lt);
  ahead = λ k h. f.ahead k (front k h).0;
  going = omega (arith, f.going, longer);
  looking = f.looking;
  covered = λ id lt. rw ahead (calm_more (take s.propagated s.assigned.literals) s.assigned.literals b.literals (get_or cs id []) (get_or s.watches id None) more (f.covered id lt));
}

-- one more literal l, with this entry in the list of reasons
module _ (a b : Assigned) (l : Lit) (r : Option ℕ) (paired : length a.reasons ≡ length a.literals) (el : b.literals ≡ a.literals ++ l ∷ []) (er : b.reasons ≡ a.reasons ++ r ∷ []) where
  pub longer : length b.literals ≡ length a.literals + 1
  longer = ap length el ∙ length-append a.literals (l ∷ [])

  pub take_old : (k : ℕ) → k ≤ length a.literals → take k b.literals ≡ take k a.literals
  take_old k le = ap (take k) el ∙ take-append-le k a.literals (l ∷ []) le

  pub take_now : (k : ℕ) → k ≡ length a.literals → take k b.literals ≡ a.literals
  take_now k e = ap (take k) el ∙ take_at a.literals (l ∷ []) k (sym e)

  pub reason_old : (k : ℕ) → k < length a.literals → get_or b.reasons k None ≡ get_or a.reasons k None
  reason_old k lt = ap (λ (rs : List (Option ℕ)). get_or rs k None) er ∙ get_or_append_left a.reasons (r ∷ []) None k (omega (arith, lt, paired))

  pub reason_now : (k : ℕ) → k ≡ length a.literals → get_or b.reasons k None ≡ r
  reason_now k e = ap (λ (rs : List (Option ℕ)). get_or rs k None) er ∙ get_or_at a.reasons r [] None k (paired ∙ sym e)

  pub literal_old : (k : ℕ) (d : Lit) → k < length a.literals → get_or b.literals k d ≡ get_or a.literals k d
  literal_old k d lt = ap (λ (xs : List Lit). get_or xs k d) el ∙ get_or_append_left a.literals (l ∷ []) d k lt

  pub literal_now : (k : ℕ) (d : Lit) → k ≡ length a.literals → get_or b.literals k d ≡ l
  literal_now k d e = ap (λ (xs : List Lit). get_or xs k d) el ∙ get_or_at a.literals l [] d k (sym e)

  pub more_true : (x : Lit) → Contains a.literals x → Contains b.literals x
  more_true x h = subst (λ xs. Contains xs x) (sym el) (Contains-append_left a.literals (l ∷ []) x h)

  pub now_true : Contains b.literals l
  now_true = subst (λ xs. Contains xs l) (sym el) (Contains-push a.literals l)

  pub reasons_push : (cs : List (List Lit)) → AreReasons a cs → ((id : ℕ) → r ≡ Some id → (id < length cs) × IsReason a.literals (get_or cs id []) l) → AreReasons b cs
  reasons_push cs old new k q d lt e =
      elim (cases_lt k (length a.literals)) [
        | inl h ↦
            let le : k ≤ length a.literals = omega arith in
            rw (take_old k le, literal_old k d h) (old k q d h (sym (reason_old k h) ∙ e))
        | inr h ↦
            let is : k ≡ length a.literals = omega (arith, h, lt, longer) in
            rw (take_now k is, literal_now k d is) (new q (sym (reason_now k is) ∙ e))
      ]

  -- an assumption is an older one, or l itself
  pub assumed_cases : (k : ℕ) → IsAssumed b k → (IsAssumed a k × (take k b.literals ≡ take k a.literals)) ⊎ ((k ≡ length a.literals) × (r ≡ None))
  assumed_cases k h =
      elim (cases_lt k (length a.literals)) [
        | inl lt ↦ let le : k ≤ length a.literals = omega arith in inl ((lt, sym (reason_old k lt) ∙ h.1), take_old k le)
        | inr ge ↦ let is : k ≡ length a.literals = omega (arith, ge, h.0, longer) in inr (is, sym (reason_now k is) ∙ h.1)
      ]

-- a literal that becomes true isn't false
pub still_live : (t u : List Lit) (l : Lit) → u ≡ t ++ l ∷ [] → (Contains t (negated l) → ⊥) → Contains u (negated l) → ⊥
still_live t u l e live h =
    elim (Contains-push_cases t l (negated l) (subst (λ xs. Contains xs (negated l)) e h)) [
      | inl k ↦ live k
      | inr q ↦ negated-other l (sym q)
    ]

-- a literal more, with a clause as its reason
pub fits_push : (s : Trailed) (b : Assigned) (cs : List (List Lit)) (l : Lit) (id : ℕ) → Fits s cs → length s.assigned.reasons ≡ length s.assigned.literals → id < length cs → IsReason s.assigned.literals (get_or cs id []) l
    → b.vars ≡ s.assigned.vars → b.literals ≡ s.assigned.literals ++ l ∷ [] → b.reasons ≡ s.assigned.reasons ++ Some id ∷ [] → Fits (record s { assigned = b }) cs
fits_push s b cs l id f paired lt why ev el er =
    let a : Assigned = s.assigned in
    let none : Some id ≡ None → ⊥ = λ e. cc in
    let only : (q : ℕ) → Some id ≡ Some q → (q < length cs) × IsReason a.literals (get_or cs q []) l = λ q e. let same : id ≡ q = cc in subst (λ n. (n < length cs) × IsReason a.literals (get_or cs n []) l) same (lt, why) in
    fits_assigned s b cs f ev (reasons_push a b l (Some id) paired el er cs f.reasons only)
    (λ k h. elim (assumed_cases a b l (Some id) paired el er k h) [ inl p ↦ p | inr p ↦ absurd (none p.1) ])
    (take_old a b l (Some id) paired el er s.propagated f.going)
    (more_true a b l (Some id) paired el er)
    (omega (arith, longer a b l (Some id) paired el er))

-- a literal more that is assumed, where propagation has ended and every clause is quiet
pub fits_assume : (s : Trailed) (b : Assigned) (cs : List (List Lit)) (l : Lit) → Fits s cs → length s.assigned.reasons ≡ length s.assigned.literals → s.looked ≡ length cs → s.propagated ≡ length s.assigned.literals → AreQuiet s.assigned.literals cs
    → b.vars ≡ s.assigned.vars → b.literals ≡ s.assigned.literals ++ l ∷ [] → b.reasons ≡ s.assigned.reasons ++ None ∷ [] → Fits (record s { assigned = b }) cs
fits_assume s b cs l f paired all end quiet ev el er =
    let a : Assigned = s.assigned in
    let t : List Lit = a.literals in
    let none : (q : ℕ) → None ≡ Some q → (q < length cs) × IsReason t (get_or cs q []) l = λ q e. absurd (cc) in
    let whole : take s.propagated t ≡ t = take_all s.propagated t (omega (arith, end)) in
    record {
      below = subst (λ v. All (AreBelow v) cs) (sym ev) f.below;
      counted = f.counted;
      watched = f.watched;
      reasons = reasons_push a b l None paired el er cs f.reasons none;
      settled = λ k id h lt. elim (assumed_cases a b l None paired el er k h) [
        | inl p ↦ rw p.1 (f.settled k id p.0 lt)
        | inr p ↦ rw (take_now a b l None paired el er k p.0) (inl (quiet id [] lt))
      ];
      calm = λ k id h lt. elim (assumed_cases a b l None paired el er k h) [
        | inl p ↦ rw p.1 (f.calm k id p.0 lt)
        | inr p ↦ rw (take_now a b l None paired el er k p.0) (subst (λ xs. IsCalm xs t (get_or cs id []) (get_or s.watches id None)) whole (f.covered id lt))
      ];
      ahead = λ k h. elim (assumed_cases a b l None paired el er k h) [ inl p ↦ f.ahead k p.0 | inr p ↦ omega (arith, p.0, end) ];
      going = omega (arith, f.going, longer a b l None paired el er);
      looking = f.looking;
      covered = λ id lt. rw (take_old a b l None paired el er s.propagated f.going) (calm_more (take s.propagated t) t b.literals (get_or cs id []) (get_or s.watches id None) (more_true a b l None paired el er) (f.covered id lt));
    }

-- back to an assumption
pub fits_cut : (s : Trailed) (b : Assigned) (cs : List (List Lit)) (count h : ℕ) → Fits s cs → IsAssumed s.assigned count → h ≡ count
    → b.vars ≡ s.assigned.vars → b.literals ≡ take count s.assigned.literals → b.reasons ≡ take count s.assigned.reasons → Fits (record s { assigned = b; propagated = h }) cs
fits_cut s b cs count h f assumed eh ev el er =
    let t : List Lit = s.assigned.literals in
    let rs : List (Option ℕ) = s.assigned.reasons in
    let long : length b.literals ≡ count = omega (arith, ap length el, length-take count t, assumed.0) in
    let front : (k : ℕ) → k ≤ count → take k b.literals ≡ take k t = λ k le. ap (take k) el ∙ take-take k count t le in
    let reason : (k : ℕ) → k < count → get_or b.reasons k None ≡ get_or rs k None = λ k lt. ap (λ (xs : List (Option ℕ)). get_or xs k None) er ∙ get_or-take count rs k None lt in
    let older : (k : ℕ) → IsAssumed b k → (k < count) × IsAssumed s.assigned k = λ k p. let lt : k < count = omega (arith, p.0, long) in (lt, (omega (arith, lt, assumed.0), sym (reason k lt) ∙ p.1)) in
    let whole : take h b.literals ≡ take count t = ap (λ (n : ℕ). take n b.literals) eh ∙ front count (omega arith) in
    record {
      below = subst (λ v. All (AreBelow v) cs) (sym ev) f.below;
      counted = f.counted;
      watched = f.watched;
      reasons = λ k q d lt e.
          let k' : k < count = omega (arith, lt, long) in
          let le : k ≤ count = omega arith in
          rw (front k le, ap (λ (xs : List Lit). get_or xs k d) el ∙ get_or-take count t k d k') (f.reasons k q d (omega (arith, k', assumed.0)) (sym (reason k k') ∙ e));
      settled = λ k id p lt. let o = older k p in let le : k ≤ count = omega (arith, o.0) in rw (front k le) (f.settled k id o.1 lt);
      calm = λ k id p lt. let o = older k p in let le : k ≤ count = omega (arith, o.0) in rw (front k le) (f.calm k id o.1 lt);
      ahead = λ k p. omega (arith, (older k p).0, eh);
      going = omega (arith, eh, long);
      looking = f.looking;
      covered = λ id lt. rw (whole, el) (f.calm count id assumed lt);
    }

-- what holds of each entry but i, and of i's new one, holds of each
set_each : (ws : List (Option (Lit × Lit))) (i : ℕ) (w : Option (Lit × Lit)) (P : ℕ → Option (Lit × Lit) → Type 0) → i < length ws → P i w → (id : ℕ) → P id (get_or ws id None) → P id (get_or (set ws i w) id None)
set_each ws i w P lt p id old =
    elim (cases_eq id i) [
      | inl e ↦ rw (e, get_or-set_same ws i w None lt) p
      | inr n ↦ rw (get_or-set_other ws i id w None n) old
    ]

-- the same clauses with other watches for the clause i
pub fits_watches : (s : Trailed) (ws : List (Option (Lit × Lit))) (cs : List (List Lit)) (i : ℕ) (w : Option (Lit × Lit)) → Fits s cs → i < length cs → ws ≡ set s.watches i w → IsWatched (get_or cs i []) w
    → ((k : ℕ) → IsAssumed s.assigned k → IsCalm (take k s.assigned.literals) (take k s.assigned.literals) (get_or cs i []) w) → IsCalm (take s.propagated s.assigned.literals) s.assigned.literals (get_or cs i []) w → Fits (record s { watches = ws }) cs
fits_watches s ws cs i w f lt e here calm covered =
    let t : List Lit = s.assigned.literals in
    let in' : i < length s.watches = omega (arith, lt, f.counted) in
    record {
      below = f.below;
      counted = ap length e ∙ length-set s.watches i w ∙ f.counted;
      watched = λ id h. rw e (set_each s.watches i w (λ n v. IsWatched (get_or cs n []) v) in' here id (f.watched id h));
      reasons = f.reasons;
      settled = f.settled;
      calm = λ k id p h. rw e (set_each s.watches i w (λ n v. IsCalm (take k t) (take k t) (get_or cs n []) v) in' (calm k p) id (f.calm k id p h));
      ahead = f.ahead;
      going = f.going;
      looking = f.looking;
      covered = λ id h. rw e (set_each s.watches i w (λ n v. IsCalm (take s.propagated t) t (get_or cs n []) v) in' covered id (f.covered id h));
    }

-- one more clause was looked at
pub fits_looked : (s : Trailed) (cs : List (List Lit)) → Fits s cs → s.looked < length cs
    → ((k : ℕ) → IsAssumed s.assigned k → IsCalm (take k s.assigned.literals) (take k s.assigned.literals) (get_or cs s.looked []) (get_or s.watches s.looked None)) → IsCalm (take s.propagated s.assigned.literals) s.assigned.literals (get_or cs s.looked []) (get_or s.watches s.looked None)
    → Fits (record s { looked = s.looked + 1 }) cs
fits_looked s cs f lt calm covered =
    let t : List Lit = s.assigned.literals in
    record {
      below = f.below;
      counted = f.counted;
      watched = f.watched;
      reasons = f.reasons;
      settled = f.settled;
      calm = λ k id p h. elim (cases_eq id s.looked) [
        | inl e ↦ rw e (calm k p)
        | inr n ↦ f.calm k id p (omega (arith, h, n))
      ];
      ahead = f.ahead;
      going = f.going;
      looking = omega (arith, lt);
      covered = λ id h. elim (cases_eq id s.looked) [
        | inl e ↦ rw e covered
        | inr n ↦ f.covered id (omega (arith, h, n))
      ];
    }

-- each clause that watches the literal has a true one beside it
abbrev pub IsDone : Trailed → Lit → Type 0
IsDone s l = (id : ℕ) (w : Lit × Lit) → id < s.looked → get_or s.watches id None ≡ Some w → (w.0 ≡ l → Contains s.assigned.literals w.1) × (w.1 ≡ l → Contains s.assigned.literals w.0)

-- propagation has gone through one more true literal
pub fits_walked : (s : Trailed) (cs : List (List Lit)) (p : Lit) → Fits s cs → s.propagated < length s.assigned.literals → p ≡ get_or s.assigned.literals s.propagated p → IsDone s (negated p) → Fits (record s { propagated = s.propagated + 1 }) cs
fits_walked s cs p f lt ep done =
    let t : List Lit = s.assigned.literals in
    let h : ℕ = s.propagated in
    let step : take (h + 1) t ≡ take h t ++ p ∷ [] = take_more t h p lt ∙ ap (λ (y : Lit). take h t ++ y ∷ []) (sym ep) in
    record {
      below = f.below;
      counted = f.counted;
      watched = f.watched;
      reasons = f.reasons;
      settled = f.settled;
      calm = f.calm;
      ahead = λ k a. omega (arith, f.ahead k a);
      going = omega (arith, lt);
      looking = f.looking;
      covered = λ id i. rw step (at (take h t) id i (get_or s.watches id None) refl (f.covered id i));
    }
  where
    at : (front : List Lit) (id : ℕ) → id < s.looked → (w : Option (Lit × Lit)) → get_or s.watches id None ≡ w → IsCalm front s.assigned.literals (get_or cs id []) w → IsCalm (front ++ p ∷ []) s.assigned.literals (get_or cs id []) w
    at front id i None e q = q
    at front id i (Some w) e q = (
      (λ m. elim (Contains-push_cases front p (negated w.0) m) [ inl k ↦ q.0 k | inr x ↦ (done id w i e).0 (sym (negated-negated w.0) ∙ ap negated (sym x)) ]),
      (λ m. elim (Contains-push_cases front p (negated w.1) m) [ inl k ↦ q.1 k | inr x ↦ (done id w i e).1 (sym (negated-negated w.1) ∙ ap negated (sym x)) ]),
    )

-- one more clause, with its watches, that was settled at each assumption
pub fits_taken : (s : Trailed) (ws : List (Option (Lit × Lit))) (cs : List (List Lit)) (c : List Lit) (w : Option (Lit × Lit)) → Fits s cs → AreBelow s.assigned.vars c → ws ≡ s.watches ++ w ∷ [] → IsWatched c w
    → ((k : ℕ) → IsAssumed s.assigned k → IsSettled (take k s.assigned.literals) c) → Fits (record s { watches = ws }) (cs ++ c ∷ [])
fits_taken s ws cs c w f below e here settled =
    let more : length (cs ++ c ∷ []) ≡ length cs + 1 = length-append cs (c ∷ []) in
    let old : (id : ℕ) → id < length cs → get_or (cs ++ c ∷ []) id [] ≡ get_or cs id [] = λ id lt. get_or_append_left cs (c ∷ []) [] id lt in
    let new : (id : ℕ) → id ≡ length cs → get_or (cs ++ c ∷ []) id [] ≡ c = λ id is. get_or_at cs c [] [] id (sym is) in
    let old_watch : (id : ℕ) → id < length cs → get_or ws id None ≡ get_or s.watches id None = λ id lt. ap (λ (xs : List (Option (Lit × Lit))). get_or xs id None) e ∙ get_or_append_left s.watches (w ∷ []) None id (omega (arith, lt, f.counted)) in
    let new_watch : (id : ℕ) → id ≡ length cs → get_or ws id None ≡ w = λ id is. ap (λ (xs : List (Option (Lit × Lit))). get_or xs id None) e ∙ get_or_at s.watches w [] None id (f.counted ∙ sym is) in
    record {
      below = All-push (AreBelow s.assigned.vars) cs c f.below below;
      counted = omega (arith, ap length e, length-append s.watches (w ∷ []), f.counted, more);
      watched = λ id lt. elim (cases_lt id (length cs)) [
        | inl a ↦ rw (old id a, old_watch id a) (f.watched id a)
        | inr b ↦ let is : id ≡ length cs = omega (arith, b, lt, more) in rw (new id is, new_watch id is) here
      ];
      reasons = λ k q d lt x. let r = f.reasons k q d lt x in (omega (arith, r.0, more), rw (old q r.0) r.1);
      settled = λ k id p lt. elim (cases_lt id (length cs)) [
        | inl a ↦ rw (old id a) (f.settled k id p a)
        | inr b ↦ let is : id ≡ length cs = omega (arith, b, lt, more) in rw (new id is) (settled k p)
      ];
      calm = λ k id p lt. let a : id < length cs = omega (arith, lt, f.looking) in rw (old id a, old_watch id a) (f.calm k id p lt);
      ahead = f.ahead;
      going = f.going;
      looking = omega (arith, f.looking, more);
      covered = λ id lt. let a : id < length cs = omega (arith, lt, f.looking) in rw (old id a, old_watch id a) (f.covered id lt);
    }
