-- What a learnt clause is.
use Rattle.std.proofs.Common.{◌≡◌, ◌↔◌, ℕ, zero, suc, ◌*◌, ◌<◌, Bool, List, [], ◌∷◌, length, get_or, take, map, reverse, sym, ◌∙◌, ap, subst, inl, inr, arith, refl}
use Rattle.std.specs.List.{Contains}
use Rattle.std.proofs.lemmas.List.{length-map, get_or_default}
use Rattle.std.proofs.lemmas.List.Elements.{Contains-get_or, All-contains}
use Rattle.stk_clauses.specs.declared.literal.Lit.{Lit}
use Rattle.stk_clauses.specs.Literals.{negated, AreBelow, AreDistinct}
use Rattle.stk_clauses.specs.Propagation.{IsOpen, IsQuiet, AreQuiet, IsNew}
use Rattle.stk_clauses.specs.Hints.{Leads, IsByHints}
use Rattle.stk_clauses.proofs.Values.{negated-negated}
use Rattle.stk_clauses.proofs.Units.{new_by_quiet}
use Rattle.stk_clauses.proofs.Steps.{Leads-same}
use Rattle.stk_clauses.proofs.Members.{contains_head, contains_tail, contains_split}
use Rattle.stk_propagate.specs.Assigned.{AreFresh}
use Rattle.stk_propagate.specs.Trailed.{Trailed, IsAssumed}
use Rattle.stk_propagate.specs.Fitting.{Fits, IsSettled}
use Rattle.stk_propagate.proofs.Lists.{no_pair}
use Rattle.stk_solver.specs.Marking.{Marked}
use Rattle.stk_solver.specs.Guides.{Guided, IsPoint}
use Rattle.stk_solver.specs.Learnt.{IsAsserting}
use Rattle.stk_solver.proofs.Leading.{take_grows, fresh_front}

get_or-negated : (c : List Lit) (k : ℕ) (d e : Lit) → e ≡ negated d → get_or (map negated c) k e ≡ negated (get_or c k d)
get_or-negated [] k d e f = f
get_or-negated (x ∷ xs) zero d e f = refl
get_or-negated (x ∷ xs) (suc k) d e f = get_or-negated xs k d e f

-- the literals of which c has the negations
pub map_has : (c : List Lit) (m : Lit) → Contains c (negated m) → Contains (map negated c) m
map_has c m (k, lt, e) = (k, omega (arith, lt, length-map c negated), get_or-negated c k (negated m) m (sym (negated-negated m)) ∙ ap negated e ∙ negated-negated m)

pub map_from : (c : List Lit) (m : Lit) → Contains (map negated c) m → Contains c (negated m)
map_from c m (k, lt, e) =
    let lt' : k < length c = omega (arith, lt, length-map c negated) in
    (k, lt', sym (negated-negated (get_or c k (negated m))) ∙ ap negated (sym (get_or-negated c k (negated m) m (sym (negated-negated m))) ∙ e))

module _ (cs : List (List Lit)) (t : List Lit) (marked : List Bool) (back : List ℕ) (c : List Lit) (fresh : AreFresh t) (g : Guided cs t 0 marked back) (each : (m : Lit) → Contains c m ↔ Marked marked (negated m)) where
  leads_from : Leads cs (λ m. Contains c (negated m)) (reverse back)
  leads_from =
      let u : List Lit = map negated c in
      let back' : (m : Lit) → Contains u m → Marked marked m = λ m h. subst (λ y. Marked marked y) (negated-negated m) ((each (negated m)).0 (map_from c m h)) in
      let has : (m : Lit) → Marked marked m → Contains u m = λ m h. map_has c m ((each (negated m)).1 (subst (λ y. Marked marked y) (sym (negated-negated m)) h)) in
      Leads-same cs (Contains u) (λ m. Contains c (negated m)) (reverse back) (λ m h. map_from c m h) (λ m h. map_has c m h) (g.leads u (λ m h. inr (back' m h)) has)

  pub learnt_by_hints : (vars : ℕ) → AreBelow vars t → IsByHints vars cs c (reverse back)
  learnt_by_hints vars below = (
    (λ k d lt.
        let x : Lit = get_or c k d in
        let h = (each x).0 (Contains-get_or c k d lt) in
        let n : (negated x).0 < 2 * vars = All-contains (λ (y : Lit). y.0 < 2 * vars) t (negated x) below (g.inside (negated x) h) in
        omega (arith, n)),
    (λ l a b. no_pair t fresh (negated l) (g.inside (negated l) ((each l).0 a)) (g.inside (negated (negated l)) ((each (negated l)).0 b))),
    leads_from,
  )

-- the first literal of the clause is the point's negation; the others are false before low
pub learnt_asserting : (t : List Lit) (low place : ℕ) (p : Lit) (marked : List Bool) (c rest : List Lit) → AreFresh t → p ≡ get_or t place p → IsPoint t low place marked → ((m : Lit) → Contains c m ↔ Marked marked (negated m)) → AreDistinct c → c ≡ negated p ∷ rest → IsAsserting (take low t) c
learnt_asserting t low place p marked c rest fresh is point each distinct e =
    let d = subst (λ ys. AreDistinct ys) e distinct in
    let o : IsOpen (take place t) p = subst (λ y. IsOpen (take place t) y) (sym is) (fresh place p point.exists) in
    let open' : IsOpen (take low t) (negated p) = (
      (λ h. o.1 (take_grows t low place (negated p) point.late h)),
      (λ h. o.0 (take_grows t low place p point.late (subst (λ y. Contains (take low t) y) (negated-negated p) h))),
    ) in (
      negated p,
      rest,
      e,
      open',
      λ m h.
          let in' : Contains c m = subst (λ ys. Contains ys m) (sym e) (contains_tail (negated p) rest m h) in
          elim (point.others (negated m) p ((each m).0 in')) [
            | inl a ↦ a
            | inr f ↦
                let same : m ≡ negated p = sym (negated-negated m) ∙ ap negated (f ∙ sym is) in
                absurd (d.0 (subst (λ y. Contains rest y) same h))
          ],
    )

pub learnt_new : (cs : List (List Lit)) (t c : List Lit) (low : ℕ) → AreFresh t → AreQuiet (take low t) cs → IsAsserting (take low t) c → IsNew cs c
learnt_new cs t c low fresh quiet (first, rest, e, open', others) =
    new_by_quiet cs c (take low t) first (fresh_front t low (no_pair t fresh)) quiet (subst (λ ys. Contains ys first) (sym e) (contains_head first rest)) open'
    (λ m h ne. elim (contains_split first rest m (subst (λ ys. Contains ys m) e h)) [ inl f ↦ absurd (ne (sym f)) | inr k ↦ others m k ])

-- at each assumption every clause is quiet, where none is empty
pub quiet_at : (s : Trailed) (cs : List (List Lit)) (k : ℕ) → Fits s cs → IsAssumed s.assigned k → (Contains cs [] → ⊥) → AreQuiet (take k s.assigned.literals) cs
quiet_at s cs k f assumed full id d lt = subst (λ c. IsQuiet (take k s.assigned.literals) c) (get_or_default cs id [] d lt) (pick (get_or cs id []) (Contains-get_or cs id [] lt) (f.settled k id assumed lt))
  where
    pick : (c : List Lit) → Contains cs c → IsSettled (take k s.assigned.literals) c → IsQuiet (take k s.assigned.literals) c
    pick c has (inl q) = q
    pick c has (inr e) = absurd (full (subst (λ y. Contains cs y) e has))

pub empty_each : (marked : List Bool) → ((m : Lit) → Marked marked m → ⊥) → (m : Lit) → Contains [] m ↔ Marked marked (negated m)
empty_each marked clean m = ((λ h. absurd (omega (arith, h.1))), (λ h. absurd (clean (negated m) h)))
