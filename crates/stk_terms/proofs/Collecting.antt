-- The parts of a term, collected from the greatest place down.
use Rattle.std.proofs.Common.{◌≡◌, ◌≢◌, ℕ, zero, suc, ◌+◌, ◌<◌, ◌≤◌, Bool, true, false, ◌||◌, ◌⊎◌, inl, inr, List, [], ◌∷◌, length, get_or, refl, sym, ap, subst, ◌∙◌, arith, nat_eq, nat_lt, cond, drop, Less, Equal, Greater, Err}
use Rattle.std.specs.List.{list_any}
use Rattle.std.specs.Ordering.{nat_cmp, is_lt}
use Rattle.std.specs.BTreeMap.{is_at}
use Rattle.std.specs.List.Sorted.{IsBinarySearchResult}
use Rattle.std.proofs.lemmas.List.Sorted.{searched}
use Rattle.std.proofs.lemmas.Bool.{eqb-true, eq-eqb, ltb-true, ltb-false}
use Rattle.stk_terms.specs.declared.term.TermId.{TermId}
use Rattle.stk_terms.specs.Terms.{Stored, term_at, nth, child}
use Rattle.stk_terms.specs.Fitting.{IsSound}
use Rattle.stk_terms.specs.Orders.{HasBefore, HasPlace, IsOrder, Rises, AreParts, is_among}
use Rattle.stk_terms.specs.Parts.{IsPart, Whole, Within}
use Rattle.stk_terms.proofs.Parting.{or_first, or_second, or_cases, goes_on, part_below}
use Rattle.stk_terms.proofs.Reading.{child_below}

-- parts of the term i are in the list in ascending order, and others wait, below those in the list: i is one of them,
-- with each part in the list so are its arguments, and each of the turns left takes one at most
pub record AreWaiting (s : Stored) (i turn : ℕ) (waits : ℕ → Bool) (ps : List ℕ) : Type 0 where
  pub low : (j : ℕ) → waits j ≡ true → j + turn ≤ i
  pub waiting : (j : ℕ) → waits j ≡ true → IsPart s j i
  pub below : (j k : ℕ) → waits j ≡ true → k < length ps → j < get_or ps k 0
  pub rise : Rises ps
  pub only : (j : ℕ) → HasPlace ps j → IsPart s j i
  pub goes_on : (j k : ℕ) → HasPlace ps j → k < length (term_at s j).args → (waits (child s j k) ≡ true) ⊎ HasPlace ps (child s j k)
  pub has : (waits i ≡ true) ⊎ HasPlace ps i

false_or : (b : Bool) → b ≡ false → b ≡ true → ⊥
false_or b h k = cc

-- the place that a comparison finds
found : (k q : ℕ) → is_at (nat_cmp k) q ≡ nat_eq k q
found k q = by (nat_lt k q) (nat_eq k q) refl refl
  where
    by : (a b : Bool) → nat_lt k q ≡ a → nat_eq k q ≡ b → is_at (nat_cmp k) q ≡ nat_eq k q
    by true true e f = absurd (let l = ltb-true k q e in let d = eqb-true k q f in omega (arith, l, d))
    by true false e f = (λ i. is_at (λ (z : ℕ). cond (e i) Less (cond (f i) Equal Greater)) q) ∙ sym f
    by false true e f = (λ i. is_at (λ (z : ℕ). cond (e i) Less (cond (f i) Equal Greater)) q) ∙ sym f
    by false false e f = (λ i. is_at (λ (z : ℕ). cond (e i) Less (cond (f i) Equal Greater)) q) ∙ sym f

-- a place is below or at a greatest one
not_above : (p q : ℕ) → is_lt (nat_cmp p q) ≡ false → q ≤ p
not_above p q h = by (nat_lt p q) refl
  where
    by : (a : Bool) → nat_lt p q ≡ a → q ≤ p
    by true e = absurd (false_or (is_lt (nat_cmp p q)) h (λ i. is_lt (cond (e i) Less (cond (nat_eq p q) Equal Greater))))
    by false e = ltb-false p q e

among_nth : (args : List TermId) (j : ℕ) → is_among args j ≡ true → (k : ℕ) × (k < length args) × (nth args k ≡ j)
among_nth [] j h = absurd (cc)
among_nth (a ∷ args) j h = by (λ q. among_nth args j q) (or_cases (nat_eq a.0 j) (is_among args j) h)
  where
    by : (is_among args j ≡ true → (k : ℕ) × (k < length args) × (nth args k ≡ j)) → ((nat_eq a.0 j ≡ true) ⊎ (is_among args j ≡ true)) → (k : ℕ) × (k < length (a ∷ args)) × (nth (a ∷ args) k ≡ j)
    by f (inl q) = (0, omega arith, eqb-true a.0 j q)
    by f (inr q) = let r = f q in (suc r.0, (let l = r.1 in omega (arith, l)), r.2)

nth_among : (args : List TermId) (k : ℕ) → k < length args → is_among args (nth args k) ≡ true
nth_among [] k h = absurd (omega arith)
nth_among (a ∷ args) zero h = or_first (nat_eq a.0 a.0) (is_among args a.0) (eq-eqb a.0 a.0 refl)
nth_among (a ∷ args) (suc k) h = or_second (nat_eq a.0 (nth args k)) (is_among args (nth args k)) (nth_among args k (omega arith))

-- one more argument beside the others
pub put_more : (args : List TermId) (i k j : ℕ) (old new now : Bool) → i < length args → new ≡ cond (is_at (nat_cmp k) j) true old → k ≡ nth args i → (is_among (drop i args) j || old) ≡ now → (is_among (drop (i + 1) args) j || new) ≡ now
put_more [] i k j old new now h e n f = absurd (omega arith)
put_more (a ∷ args) zero k j old new now h e n f = (λ z. is_among args j || (e ∙ (λ y. cond (is_at (nat_cmp (n y)) j) true old) ∙ ap (λ b. cond b true old) (found a.0 j)) z) ∙ (by (nat_eq a.0 j) (is_among args j) old ∙ f)
  where
    by : (x y z : Bool) → (y || cond x true z) ≡ ((x || y) || z)
    by true true z = refl
    by true false z = refl
    by false true z = refl
    by false false z = refl
put_more (a ∷ args) (suc i) k j old new now h e n f =
    let q : suc (i + 1) ≡ suc i + 1 = omega arith in
    subst (λ m. (is_among (drop m (a ∷ args)) j || new) ≡ now) q (put_more args i k j old new now (omega arith) e n f)

-- without keys none waits
pub none_wait : (ks : List ℕ) → (0 < length ks → ⊥) → (j : ℕ) → list_any (is_at (nat_cmp j)) ks ≡ false
none_wait [] h j = refl
none_wait (k ∷ ks) h j = absurd (h (omega arith))

-- what is in a list with one place more in front
first_place : (p : ℕ) (ps : List ℕ) → HasPlace (p ∷ ps) p
first_place p ps = record { at = 0; before = omega arith; is = refl }

next_place : (p : ℕ) (ps : List ℕ) (j : ℕ) → HasPlace ps j → HasPlace (p ∷ ps) j
next_place p ps j h = record { at = suc h.at; before = (let b = h.before in omega (arith, b)); is = h.is }

which_place : (p : ℕ) (ps : List ℕ) (j : ℕ) → HasPlace (p ∷ ps) j → (j ≡ p) ⊎ HasPlace ps j
which_place p ps j h = by h.at h.before h.is
  where
    by : (at : ℕ) → at < length (p ∷ ps) → get_or (p ∷ ps) at 0 ≡ j → (j ≡ p) ⊎ HasPlace ps j
    by zero b e = inl (sym e)
    by (suc at) b e = inr (record { at = at; before = omega (arith, b); is = e })

module _ (s : Stored) (sound : IsSound s) (id : ℕ) (h : id < length s.terms) where
  -- the term alone waits
  pub begins : (waits none : ℕ → Bool) (ps : List ℕ) → ps ≡ [] → ((j : ℕ) → none j ≡ false) → ((j : ℕ) → waits j ≡ cond (is_at (nat_cmp id) j) true (none j)) → AreWaiting s id 0 waits ps
  begins waits none ps e clear only = subst (AreWaiting s id 0 waits) (sym e) (record {
    low = λ j w. let d = here j w in omega (arith, d);
    waiting = λ j w. Whole id (here j w);
    below = λ j k w l. absurd (omega arith);
    rise = λ k m l n. absurd (omega arith);
    only = λ j p. absurd (let b = p.before in omega (arith, b));
    goes_on = λ j k p l. absurd (let b = p.before in omega (arith, b));
    has = inl (only id ∙ ap (λ b. cond b true (none id)) (found id id ∙ eq-eqb id id refl));
  })
    where
      here : (j : ℕ) → waits j ≡ true → id ≡ j
      here j w = by (nat_eq id j) refl
        where
          by : (b : Bool) → nat_eq id j ≡ b → id ≡ j
          by true q = eqb-true id j q
          by false q = absurd (false_or (waits j) (only j ∙ (ap (λ b. cond b true (none j)) (found id j ∙ q) ∙ clear j)) w)

  module _ (turn : ℕ) (old less new : ℕ → Bool) (ps : List ℕ) (are : AreWaiting s id turn old ps) (p : ℕ) (given : List TermId) (member : old p ≡ true) (greatest : (q : ℕ) → old q ≡ true → is_lt (nat_cmp p q) ≡ false) (taken : (q : ℕ) → less q ≡ cond (is_at (nat_cmp p) q) false (old q)) (args : given ≡ (term_at s p).args) (put : (q : ℕ) → new q ≡ (is_among given q || less q)) where
    exists : p < length s.terms
    exists = let l = are.low p member in omega (arith, l, h)

    stays : (q : ℕ) → less q ≡ true → (old q ≡ true) × (q < p)
    stays q w = by (nat_eq p q) refl
      where
        by : (b : Bool) → nat_eq p q ≡ b → (old q ≡ true) × (q < p)
        by true e = absurd (false_or (less q) (taken q ∙ ap (λ b. cond b false (old q)) (found p q ∙ e)) w)
        by false e =
            let o : old q ≡ true = sym (ap (λ b. cond b false (old q)) (found p q ∙ e)) ∙ (sym (taken q) ∙ w) in
            let l : q ≤ p = not_above p q (greatest q o) in
            let n : q ≢ p = λ d. false_or (nat_eq p q) e (eq-eqb p q (sym d)) in
            (o, omega (arith, l, n))

    which : (q : ℕ) → new q ≡ true → ((k : ℕ) × (k < length (term_at s p).args) × (child s p k ≡ q)) ⊎ (less q ≡ true)
    which q w = by (or_cases (is_among given q) (less q) (sym (put q) ∙ w))
      where
        by : ((is_among given q ≡ true) ⊎ (less q ≡ true)) → ((k : ℕ) × (k < length (term_at s p).args) × (child s p k ≡ q)) ⊎ (less q ≡ true)
        by (inl a) = inl (among_nth (term_at s p).args q (subst (λ l. is_among l q ≡ true) args a))
        by (inr b) = inr b

    lower : (q : ℕ) → new q ≡ true → q < p
    lower q w = by (which q w)
      where
        by : (((k : ℕ) × (k < length (term_at s p).args) × (child s p k ≡ q)) ⊎ (less q ≡ true)) → q < p
        by (inl r) = subst (λ z. z < p) r.2 (child_below s sound p r.0 exists r.1)
        by (inr l) = (stays q l).1

    keeps : (q : ℕ) → old q ≡ true → (new q ≡ true) ⊎ HasPlace (p ∷ ps) q
    keeps q w = by (nat_eq p q) refl
      where
        by : (b : Bool) → nat_eq p q ≡ b → (new q ≡ true) ⊎ HasPlace (p ∷ ps) q
        by true e = inr (subst (HasPlace (p ∷ ps)) (eqb-true p q e) (first_place p ps))
        by false e = inl (put q ∙ or_second (is_among given q) (less q) (taken q ∙ (ap (λ b. cond b false (old q)) (found p q ∙ e) ∙ w)))

    still : (q : ℕ) → ((old q ≡ true) ⊎ HasPlace ps q) → (new q ≡ true) ⊎ HasPlace (p ∷ ps) q
    still q (inl w) = keeps q w
    still q (inr l) = inr (next_place p ps q l)

    -- the greatest one is taken, and its arguments wait
    pub goes_down : AreWaiting s id (turn + 1) new (p ∷ ps)
    goes_down = record {
      low = λ j w. let a = lower j w in let b = are.low p member in omega (arith, a, b);
      waiting = λ j w. part j (which j w);
      below = below;
      rise = rise;
      only = λ j l. by j (which_place p ps j l);
      goes_on = λ j k l m. on j k m (which_place p ps j l);
      has = still id are.has;
    }
      where
        part : (j : ℕ) → (((k : ℕ) × (k < length (term_at s p).args) × (child s p k ≡ j)) ⊎ (less j ≡ true)) → IsPart s j id
        part j (inl r) = subst (λ n. IsPart s n id) r.2 (goes_on s sound p r.0 id (are.waiting p member) r.1)
        part j (inr l) = are.waiting j (stays j l).0

        below : (j k : ℕ) → new j ≡ true → k < length (p ∷ ps) → j < get_or (p ∷ ps) k 0
        below j zero w l = lower j w
        below j (suc k) w l = let a = lower j w in let b = are.below p k member (omega (arith, l)) in omega (arith, a, b)

        rise : (k m : ℕ) → k < m → m < length (p ∷ ps) → get_or (p ∷ ps) k 0 < get_or (p ∷ ps) m 0
        rise k zero l n = absurd (omega (arith, l))
        rise zero (suc m) l n = are.below p m member (omega (arith, n))
        rise (suc k) (suc m) l n = are.rise k m (omega (arith, l)) (omega (arith, n))

        by : (j : ℕ) → ((j ≡ p) ⊎ HasPlace ps j) → IsPart s j id
        by j (inl e) = subst (λ n. IsPart s n id) (sym e) (are.waiting p member)
        by j (inr l) = are.only j l

        on : (j k : ℕ) → k < length (term_at s j).args → ((j ≡ p) ⊎ HasPlace ps j) → (new (child s j k) ≡ true) ⊎ HasPlace (p ∷ ps) (child s j k)
        on j k m (inl e) = subst (λ n. (new (child s n k) ≡ true) ⊎ HasPlace (p ∷ ps) (child s n k)) (sym e) (inl (put (child s p k) ∙ or_first (is_among given (child s p k)) (less (child s p k)) (subst (λ l. is_among l (child s p k) ≡ true) (sym args) (nth_among (term_at s p).args k (subst (λ n. k < length (term_at s n).args) e m)))))
        on j k m (inr l) = still (child s j k) (are.goes_on j k l m)

  -- where none waits, all parts are in the list
  pub ends : (turn : ℕ) (waits : ℕ → Bool) (ps : List ℕ) → AreWaiting s id turn waits ps → ((j : ℕ) → waits j ≡ false) → AreParts s id ps
  ends turn waits ps are clear = record {
    rise = are.rise;
    all = λ j p. each j id p (sure id are.has);
    only = are.only;
  }
    where
      sure : (j : ℕ) → ((waits j ≡ true) ⊎ HasPlace ps j) → HasPlace ps j
      sure j (inl w) = absurd (false_or (waits j) (clear j) w)
      sure j (inr l) = l

      each : (j i : ℕ) → IsPart s j i → HasPlace ps i → HasPlace ps j
      each j _ (Whole i e) l = subst (HasPlace ps) e l
      each j _ (Within i k m p) l = each j (child s i k) p (sure (child s i k) (are.goes_on i k l m))

  -- none waits behind the last turn
  pub ends_late : (turn : ℕ) (waits : ℕ → Bool) (ps : List ℕ) → AreWaiting s id turn waits ps → id < turn → AreParts s id ps
  ends_late turn waits ps are late = ends turn waits ps are (λ j. by j (waits j) refl)
    where
      by : (j : ℕ) (b : Bool) → waits j ≡ b → waits j ≡ false
      by j true w = absurd (let l = are.low j w in omega (arith, l, late))
      by j false w = w

  module _ (ps : List ℕ) (are : AreParts s id ps) where
    place_at : (k : ℕ) → k < length ps → IsPart s (get_or ps k 0) id
    place_at k l = are.only (get_or ps k 0) (record { at = k; before = l; is = refl })

    -- a place below one of the list is before it
    pub is_before : (k j : ℕ) → k < length ps → IsPart s j id → j < get_or ps k 0 → HasBefore ps k j
    is_before k j l p b = let w = are.all j p in record { at = w.at; before = by w (nat_lt w.at k) refl (nat_lt k w.at) refl; is = w.is }
      where
        by : (w : HasPlace ps j) (x : Bool) → nat_lt w.at k ≡ x → (y : Bool) → nat_lt k w.at ≡ y → w.at < k
        by w true e y f = ltb-true w.at k e
        by w false e true f = let r = are.rise k w.at (ltb-true k w.at f) w.before in let d = w.is in absurd (omega (arith, r, d, b))
        by w false e false f =
            let q : w.at ≡ k = let u = ltb-false w.at k e in let v = ltb-false k w.at f in omega (arith, u, v) in
            let r : get_or ps k 0 ≡ j = ap (λ n. get_or ps n 0) (sym q) ∙ w.is in
            absurd (omega (arith, r, b))

    pub args_before : (k j : ℕ) → k < length ps → j < length (term_at s (get_or ps k 0)).args → HasBefore ps k (child s (get_or ps k 0) j)
    args_before k j l m =
        let p = place_at k l in
        let under = part_below s sound (get_or ps k 0) id p h in
        is_before k (child s (get_or ps k 0) j) l (goes_on s sound (get_or ps k 0) j id p m) (child_below s sound (get_or ps k 0) j (omega (arith, under, h)) m)

    -- the parts are an order, and the term is one of them
    pub in_order : IsOrder s (id + 1) ps
    in_order = record {
      few = omega (arith, h);
      below = λ k l. let b = part_below s sound (get_or ps k 0) id (place_at k l) h in omega (arith, b);
      behind = args_before;
    }

    pub has_own : HasPlace ps id
    has_own = are.all id (Whole id refl)

    -- the last one is the term's own
    pub last_own : (1 ≤ length ps) × ((k : ℕ) → length ps ≡ k + 1 → get_or ps k 0 ≡ id)
    last_own = (let b = has_own.before in omega (arith, b), λ k e. by k e (nat_lt has_own.at k) refl)
      where
        by : (k : ℕ) → length ps ≡ k + 1 → (b : Bool) → nat_lt has_own.at k ≡ b → get_or ps k 0 ≡ id
        by k e true f =
            let r = are.rise has_own.at k (ltb-true has_own.at k f) (omega (arith, e)) in
            let b = part_below s sound (get_or ps k 0) id (place_at k (omega (arith, e))) h in
            let d = has_own.is in
            absurd (omega (arith, r, b, d))
        by k e false f =
            let g = ltb-false has_own.at k f in
            let b = has_own.before in
            let q : k ≡ has_own.at = omega (arith, e, g, b) in
            ap (λ n. get_or ps n 0) q ∙ has_own.is

-- ascending places that have one are searched with success
pub not_missing : (ps : List ℕ) (x i : ℕ) → Rises ps → HasPlace ps x → IsBinarySearchResult (λ y. nat_cmp y x) ps (Err i) → ⊥
not_missing ps x i rise has found = by (nat_lt has.at i) refl
  where
    up : (k m : ℕ) → k ≤ m → m < length ps → get_or ps k 0 ≤ get_or ps m 0
    up k m l h = by (nat_lt k m) refl
      where
        by : (b : Bool) → nat_lt k m ≡ b → get_or ps k 0 ≤ get_or ps m 0
        by true e = let r = rise k m (ltb-true k m e) h in omega (arith, r)
        by false e = let f = ltb-false k m e in let q : k ≡ m = omega (arith, f, l) in let d = ap (λ n. get_or ps n 0) q in omega (arith, d)

    by : (b : Bool) → nat_lt has.at i ≡ b → ⊥
    by true e = let r = (searched ps x (Err i) found up).1 has.at (ltb-true has.at i e) in let d = has.is in omega (arith, r, d)
    by false e = let r = (searched ps x (Err i) found up).2 has.at (ltb-false has.at i e) has.before in let d = has.is in omega (arith, r, d)
