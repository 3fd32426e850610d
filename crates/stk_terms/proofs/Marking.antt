-- Marks that go from a term down to the arguments of marked terms.
use Rattle.std.proofs.Common.{◌≡◌, ◌≢◌, ℕ, zero, suc, ◌+◌, ◌-◌, ◌<◌, ◌≤◌, Bool, true, false, ◌⊎◌, inl, inr, List, [], ◌∷◌, length, get_or, refl, sym, subst, ◌∙◌, arith, nat_eq, if◌then◌else◌, replicate}
use Rattle.std.proofs.Math.ListN.{set, length-set}
use Rattle.std.proofs.lemmas.List.{get_or-set_same, get_or-set_other, length-replicate, length-map}
use Rattle.std.proofs.lemmas.Bool.{eqb-true}
use Rattle.stk_terms.specs.declared.term.TermId.{TermId}
use Rattle.stk_terms.specs.declared.term.TermNode.{TermNode}
use Rattle.stk_terms.specs.Keys.{plain, terms_of}
use Rattle.stk_terms.specs.Terms.{Stored, term_at, nth, child}
use Rattle.stk_terms.specs.Fitting.{IsSound, AreBelow}
use Rattle.stk_terms.specs.Parts.{IsPart, Whole, is_part, marked, AreMarked}
use Rattle.stk_terms.proofs.Args.{wider}
use Rattle.stk_terms.proofs.Reading.{child_below, below_own}
use Rattle.stk_terms.proofs.Parting.{told, reached, goes_on, part_chosen}

beyond : (m : List Bool) (j : ℕ) → length m ≤ j → get_or m j false ≡ false
beyond [] j h = refl
beyond (x ∷ m) zero h = absurd (omega arith)
beyond (x ∷ m) (suc j) h = beyond m j (omega arith)

not_both : (b : Bool) → b ≡ true → b ≡ false → ⊥
not_both b h k = cc

-- one place is set
set_here : (m : List Bool) (i j : ℕ) → i < length m → j ≡ i → get_or (set m i true) j false ≡ true
set_here m i j h e = subst (λ k. get_or (set m i true) k false ≡ true) (sym e) (get_or-set_same m i true false h)

set_stays : (m : List Bool) (i j : ℕ) → i < length m → get_or m j false ≡ true → get_or (set m i true) j false ≡ true
set_stays m i j h q = by (nat_eq j i) refl
  where
    by : (b : Bool) → nat_eq j i ≡ b → get_or (set m i true) j false ≡ true
    by true e = set_here m i j h (eqb-true j i e)
    by false e = let n : j ≢ i = grind arith in get_or-set_other m i j true false n ∙ q

set_only : (m : List Bool) (i j : ℕ) → get_or (set m i true) j false ≡ true → (get_or m j false ≡ true) ⊎ (j ≡ i)
set_only m i j q = by (nat_eq j i) refl
  where
    by : (b : Bool) → nat_eq j i ≡ b → (get_or m j false ≡ true) ⊎ (j ≡ i)
    by true e = inr (eqb-true j i e)
    by false e = let n : j ≢ i = grind arith in inl (sym (get_or-set_other m i j true false n) ∙ q)

pub marked_long : (m : List Bool) (args : List TermId) → length (marked m args) ≡ length m
marked_long m [] = refl
marked_long m (a ∷ args) = marked_long (set m a.0 true) args ∙ length-set m a.0 true

below_set : (m : List Bool) (i : ℕ) (args : List TermId) → AreBelow (length m) args → AreBelow (length (set m i true)) args
below_set m i args b = subst (λ n. AreBelow n args) (sym (length-set m i true)) b

marked_stays : (m : List Bool) (args : List TermId) (j : ℕ) → AreBelow (length m) args → get_or m j false ≡ true → get_or (marked m args) j false ≡ true
marked_stays m [] j b q = q
marked_stays m (a ∷ args) j b q = marked_stays (set m a.0 true) args j (below_set m a.0 args b.1) (set_stays m a.0 j b.0 q)

marked_has : (m : List Bool) (args : List TermId) (k : ℕ) → AreBelow (length m) args → k < length args → get_or (marked m args) (nth args k) false ≡ true
marked_has m [] k b h = absurd (omega arith)
marked_has m (a ∷ args) zero b h = marked_stays (set m a.0 true) args a.0 (below_set m a.0 args b.1) (set_here m a.0 a.0 b.0 refl)
marked_has m (a ∷ args) (suc k) b h = marked_has (set m a.0 true) args k (below_set m a.0 args b.1) (omega arith)

marked_only : (m : List Bool) (args : List TermId) (j : ℕ) → get_or (marked m args) j false ≡ true → (get_or m j false ≡ true) ⊎ ((k : ℕ) × (k < length args) × (nth args k ≡ j))
marked_only m [] j q = inl q
marked_only m (a ∷ args) j q = by (marked_only (set m a.0 true) args j q)
  where
    first : ((get_or m j false ≡ true) ⊎ (j ≡ a.0)) → (get_or m j false ≡ true) ⊎ ((k : ℕ) × (k < length (a ∷ args)) × (nth (a ∷ args) k ≡ j))
    first (inl p) = inl p
    first (inr e) = inr (0, omega arith, sym e)

    by : ((get_or (set m a.0 true) j false ≡ true) ⊎ ((k : ℕ) × (k < length args) × (nth args k ≡ j))) → (get_or m j false ≡ true) ⊎ ((k : ℕ) × (k < length (a ∷ args)) × (nth (a ∷ args) k ≡ j))
    by (inl p) = first (set_only m a.0 j p)
    by (inr r) = inr (suc r.0, (let l = r.1 in omega (arith, l)), r.2)

module _ (s : Stored) (sound : IsSound s) (i : ℕ) (l : i < length s.terms) where
  -- the term alone
  pub begun : (m : List Bool) → m ≡ set (replicate (i + 1) false) i true → AreMarked s i (i + 1) m
  begun m e = subst (AreMarked s i (i + 1)) (sym e) (record {
    long = count;
    has = get_or-set_same (replicate (i + 1) false) i true false (let r = length-replicate (i + 1) false in omega (arith, r));
    only = λ j q. by j (set_only (replicate (i + 1) false) i j q);
    goes_on = λ j k h q m. absurd (not_both _ q (beyond (set (replicate (i + 1) false) i true) j (omega (arith, count, h))));
  })
    where
      count : length (set (replicate (i + 1) false) i true) ≡ i + 1
      count = length-set (replicate (i + 1) false) i true ∙ length-replicate (i + 1) false

      none : (n j : ℕ) → get_or (replicate n false) j false ≡ false
      none zero j = refl
      none (suc n) zero = refl
      none (suc n) (suc j) = none n j

      by : (j : ℕ) → ((get_or (replicate (i + 1) false) j false ≡ true) ⊎ (j ≡ i)) → IsPart s j i
      by j (inl q) = absurd (not_both _ q (none (i + 1) j))
      by j (inr e) = Whole i (sym e)

  module _ (p : ℕ) (h : p ≤ i) (m : List Bool) (are : AreMarked s i (p + 1) m) where
    there : p < length s.terms
    there = omega arith

    -- the arguments can be marked
    pub under : AreBelow (length m) (term_at s p).args
    under = let n = are.long in wider p (length m) (term_at s p).args (omega (arith, n)) (below_own s sound p there)

    marks : (q : get_or m p false ≡ true) → AreMarked s i p (marked m (term_at s p).args)
    marks q = record {
      long = marked_long m (term_at s p).args ∙ are.long;
      has = marked_stays m (term_at s p).args i under are.has;
      only = λ j r. only j (marked_only m (term_at s p).args j r);
      goes_on = λ j k f r n. on j k f n (marked_only m (term_at s p).args j r) (nat_eq j p) refl;
    }
      where
        only : (j : ℕ) → ((get_or m j false ≡ true) ⊎ ((k : ℕ) × (k < length (term_at s p).args) × (child s p k ≡ j))) → IsPart s j i
        only j (inl r) = are.only j r
        only j (inr r) = subst (λ n. IsPart s n i) r.2 (goes_on s sound p r.0 i (are.only p q) r.1)

        on : (j k : ℕ) → p ≤ j → k < length (term_at s j).args → ((get_or m j false ≡ true) ⊎ ((u : ℕ) × (u < length (term_at s p).args) × (child s p u ≡ j))) → (b : Bool) → nat_eq j p ≡ b → get_or (marked m (term_at s p).args) (child s j k) false ≡ true
        on j k f n (inl r) true e =
            let d : j ≡ p = eqb-true j p e in
            subst (λ v. get_or (marked m (term_at s p).args) (child s v k) false ≡ true) (sym d) (marked_has m (term_at s p).args k under (subst (λ v. k < length (term_at s v).args) d n))
        on j k f n (inl r) false e = let d : p + 1 ≤ j = grind arith in marked_stays m (term_at s p).args (child s j k) under (are.goes_on j k d r n)
        on j k f n (inr r) b e = let c = child_below s sound p r.0 there r.1 in let d = r.2 in absurd (omega (arith, c, d, f))

    leaves : (q : get_or m p false ≡ false) → AreMarked s i p m
    leaves q = record {
      long = are.long;
      has = are.has;
      only = are.only;
      goes_on = λ j k f r n. on j k f r n (nat_eq j p) refl;
    }
      where
        on : (j k : ℕ) → p ≤ j → get_or m j false ≡ true → k < length (term_at s j).args → (b : Bool) → nat_eq j p ≡ b → get_or m (child s j k) false ≡ true
        on j k f r n true e = absurd (not_both _ r (subst (λ v. get_or m v false ≡ false) (sym (eqb-true j p e)) q))
        on j k f r n false e = let d : p + 1 ≤ j = grind arith in are.goes_on j k d r n

    -- one place further down
    pub goes_down : (new : List Bool) → new ≡ (if get_or m p false then marked m (term_at s p).args else m) → AreMarked s i p new
    goes_down new e = by (get_or m p false) refl e
      where
        by : (b : Bool) → get_or m p false ≡ b → new ≡ (if b then marked m (term_at s p).args else m) → AreMarked s i p new
        by true q e = subst (AreMarked s i p) (sym e) (marks q)
        by false q e = subst (AreMarked s i p) (sym e) (leaves q)

  -- the same with the place counted from the term down
  pub can_mark : (k : ℕ) (m : List Bool) → k < i + 1 → AreMarked s i (i + 1 - k) m → AreBelow (length m) (term_at s (i - k)).args
  can_mark k m h are = under (i - k) (omega arith) m (subst (λ n. AreMarked s i n m) (let e : i + 1 - k ≡ i - k + 1 = omega arith in e) are)

  pub one_down : (k : ℕ) (m new : List Bool) → k < i + 1 → AreMarked s i (i + 1 - k) m → new ≡ (if get_or m (i - k) false then marked m (term_at s (i - k)).args else m) → AreMarked s i (i + 1 - (k + 1)) new
  one_down k m new h are e =
      let f : i + 1 - k ≡ i - k + 1 = omega arith in
      let g : i - k ≡ i + 1 - (k + 1) = omega arith in
      subst (λ n. AreMarked s i n new) g (goes_down (i - k) (omega arith) m (subst (λ n. AreMarked s i n m) f are) new e)

  -- at the bottom the parts are marked, and no others
  pub all_marked : (m : List Bool) → AreMarked s i 0 m → (j : ℕ) → get_or m j false ≡ is_part s i j
  all_marked m are j = same (get_or m j false) (is_part s i j) (λ q. told s sound i j l (are.only j q)) (λ q. part_chosen s (λ n. get_or m n false) (record { closed = λ a k q n. are.goes_on a k (omega arith) q n }) j i (reached i s i j q) are.has)
    where
      same : (x y : Bool) → (x ≡ true → y ≡ true) → (y ≡ true → x ≡ true) → x ≡ y
      same true y f g = sym (f refl)
      same false true f g = g refl
      same false false f g = refl

-- nodes are as many as their terms
pub in_terms : (ns : List TermNode) (i : ℕ) → i < length ns → i < length (terms_of ns)
in_terms ns i h = omega (arith, length-map ns plain)
