-- Watch lists stay apart.
use Rattle.std.proofs.Common.{◌≡◌, ◌≢◌, ◌⊎◌, ℕ, ◌<◌, ◌≤◌, eqb, cond, List, [], ◌∷◌, length, get_or, drop, set, replicate, sym, ◌∙◌, ap, subst, inl, inr, refl, arith}
use Rattle.std.specs.List.{Contains}
use Rattle.std.proofs.lemmas.Bool.{cases_eq, cases_lt, eq-eqb, ne_eqb}
use Rattle.std.proofs.lemmas.Bool.Decides.{nat_tests}
use Rattle.std.proofs.lemmas.List.{length-set, get_or-set_same, get_or-set_other, get_or-replicate, get_or_past, length-replicate}
use Rattle.stk_propagate.specs.WatchLists.{AreOnce, AreApart}
use Rattle.stk_propagate.proofs.Numbers.{none_in, in_split, in_rest, once_rest}
use Rattle.stk_propagate.proofs.Following.{chained}

module _ (chains : List (List ℕ)) (n l : ℕ) (in' : l < length chains) where
  -- the chain l changed
  at_other : (ys : List ℕ) (m : ℕ) → m ≢ l → get_or (set chains l ys) m [] ≡ get_or chains m []
  at_other ys m ne = get_or-set_other chains l m ys [] ne

  at_same : (ys : List ℕ) → get_or (set chains l ys) l [] ≡ ys
  at_same ys = get_or-set_same chains l ys [] in'

  -- what is in a chain when l has become ys
  in_set : (ys : List ℕ) (m x : ℕ) → Contains (get_or (set chains l ys) m []) x → ((m ≡ l) × Contains ys x) ⊎ ((m ≢ l) × Contains (get_or chains m []) x)
  in_set ys m x h =
      elim (cases_eq m l) [
        | inl e ↦ inl (e, subst (λ zs. Contains zs x) (ap (λ (k : ℕ). get_or (set chains l ys) k []) e ∙ at_same ys) h)
        | inr ne ↦ inr (ne, subst (λ zs. Contains zs x) (at_other ys m ne) h)
      ]

  once_set : (ys : List ℕ) → AreOnce ys → ((m : ℕ) → AreOnce (get_or chains m [])) → (m : ℕ) → AreOnce (get_or (set chains l ys) m [])
  once_set ys o all m =
      elim (cases_eq m l) [
        | inl e ↦ rw (ap (λ (k : ℕ). get_or (set chains l ys) k []) e ∙ at_same ys) o
        | inr ne ↦ rw (at_other ys m ne) (all m)
      ]

  -- without its first number
  pub apart_rest : AreApart (chained chains n) → AreApart (chained (set chains l (drop 1 (get_or chains l []))) n)
  apart_rest s =
      let ys : List ℕ = drop 1 (get_or chains l []) in
      let back : (m x : ℕ) → Contains (get_or (set chains l ys) m []) x → Contains (get_or chains m []) x = λ m x h. elim (in_set ys m x h) [
        | inl p ↦ subst (λ k. Contains (get_or chains k []) x) (sym p.0) (in_rest (get_or chains l []) x p.1)
        | inr p ↦ p.1
      ] in
      record {
        within = λ m x h. s.within m x (back m x h);
        once = once_set ys (once_rest (get_or chains l []) (s.once l)) s.once;
        one_chain = λ m k x a b. s.one_chain m k x (back m x a) (back k x b);
      }

  -- the first number is in no chain then
  pub free_rest : (x : ℕ) → AreApart (chained chains n) → get_or chains l [] ≡ x ∷ drop 1 (get_or chains l []) → (m : ℕ) → Contains (get_or (set chains l (drop 1 (get_or chains l []))) m []) x → ⊥
  free_rest x s e m h =
      let ys : List ℕ = drop 1 (get_or chains l []) in
      let first : Contains (get_or chains l []) x = subst (λ zs. Contains zs x) (sym e) (0, omega arith, refl) in
      let once : AreOnce (x ∷ ys) = subst AreOnce e (s.once l) in
      elim (in_set ys m x h) [ inl p ↦ once.0 p.1 | inr p ↦ p.0 (s.one_chain m l x p.1 first) ]

  -- with a number in front that is in no chain
  pub apart_link : (x : ℕ) → x < n → ((m : ℕ) → Contains (get_or chains m []) x → ⊥) → AreApart (chained chains n) → AreApart (chained (set chains l (x ∷ get_or chains l [])) n)
  apart_link x lt free s =
      let ys : List ℕ = x ∷ get_or chains l [] in
      -- in l as x, or from before
      let parts : (m y : ℕ) → Contains (get_or (set chains l ys) m []) y → ((m ≡ l) × (x ≡ y)) ⊎ Contains (get_or chains m []) y = λ m y h. elim (in_set ys m y h) [
        | inl p ↦ elim (in_split x (get_or chains l []) y p.1) [ inl e ↦ inl (p.0, e) | inr k ↦ inr (subst (λ z. Contains (get_or chains z []) y) (sym p.0) k) ]
        | inr p ↦ inr p.1
      ] in
      record {
        within = λ m y h. elim (parts m y h) [ inl p ↦ omega (arith, p.1, lt) | inr k ↦ s.within m y k ];
        once = once_set ys (free l, s.once l) s.once;
        one_chain = λ m k y a b. elim (parts m y a) [
          | inl p ↦ elim (parts k y b) [ inl q ↦ p.0 ∙ sym q.0 | inr g ↦ absurd (free k (subst (λ z. Contains (get_or chains k []) z) (sym p.1) g)) ]
          | inr f ↦ elim (parts k y b) [ inl q ↦ absurd (free m (subst (λ z. Contains (get_or chains m []) z) (sym q.1) f)) | inr g ↦ s.one_chain m k y f g ]
        ];
      }

-- the place from which the chain at m comes, when a and b are exchanged
abbrev pub swapped : ℕ → ℕ → ℕ → ℕ
swapped a b m = cond (eqb m b) a (cond (eqb m a) b m)

swapped_twice : (a b m : ℕ) → swapped a b (swapped a b m) ≡ m
swapped_twice a b m = grind (arith, nat_tests)

pub swapped_below : (a b m n : ℕ) → a < n → b < n → m < n → swapped a b m < n
swapped_below a b m n ha hb hm = grind (arith, nat_tests)

abbrev pub exchanged : {X : Type 0} → List X → ℕ → ℕ → X → List X
exchanged xs a b d = set (set xs a (get_or xs b d)) b (get_or xs a d)

pub at_exchanged : {X : Type 0} (xs : List X) (a b m : ℕ) (d : X) → a < length xs → b < length xs → get_or (exchanged xs a b d) m d ≡ get_or xs (swapped a b m) d
at_exchanged {X} xs a b m d ha hb =
    let ys : List X = set xs a (get_or xs b d) in
    let hb' : b < length ys = omega (arith, length-set xs a (get_or xs b d), hb) in
    elim (cases_eq m b) [
      | inl e ↦ rw (eq-eqb m b e) (ap (λ (k : ℕ). get_or (set ys b (get_or xs a d)) k d) e ∙ get_or-set_same ys b (get_or xs a d) d hb')
      | inr n ↦ rw (ne_eqb m b n) (get_or-set_other ys b m (get_or xs a d) d n ∙ elim (cases_eq m a) [
        | inl e ↦ rw (eq-eqb m a e) (ap (λ (k : ℕ). get_or ys k d) e ∙ get_or-set_same xs a (get_or xs b d) d ha)
        | inr k ↦ rw (ne_eqb m a k) (get_or-set_other xs a m (get_or xs b d) d k)
      ])
    ]

pub apart_exchanged : (chains : List (List ℕ)) (n a b : ℕ) → a < length chains → b < length chains → AreApart (chained chains n) → AreApart (chained (exchanged chains a b []) n)
apart_exchanged chains n a b ha hb s =
    let at : (m : ℕ) → get_or (exchanged chains a b []) m [] ≡ get_or chains (swapped a b m) [] = λ m. at_exchanged chains a b m [] ha hb in
    record {
      within = λ m x h. s.within (swapped a b m) x (subst (λ zs. Contains zs x) (at m) h);
      once = λ m. rw (at m) (s.once (swapped a b m));
      one_chain = λ l m x f g.
          let e = s.one_chain (swapped a b l) (swapped a b m) x (subst (λ zs. Contains zs x) (at l) f) (subst (λ zs. Contains zs x) (at m) g) in
          sym (swapped_twice a b l) ∙ ap (swapped a b) e ∙ swapped_twice a b m;
    }

-- empty chains
pub at_empty : (count m : ℕ) → get_or {A = List ℕ} (replicate count []) m [] ≡ []
at_empty count m =
    elim (cases_lt m count) [
      | inl lt ↦ get_or-replicate count m [] [] lt
      | inr ge ↦ get_or_past (replicate count []) m [] (omega (arith, length-replicate {A = List ℕ} count [], ge))
    ]

pub apart_empty : (count n : ℕ) → AreApart (chained (replicate count []) n)
apart_empty count n =
    let none : (m x : ℕ) → Contains (get_or (replicate count []) m []) x → ⊥ = λ m x h. none_in x (subst (λ zs. Contains zs x) (at_empty count m) h) in
    record {
      within = λ m x h. absurd (none m x h);
      once = λ m. rw (at_empty count m) tt;
      one_chain = λ l m x f g. absurd (none l x f);
    }

pub apart_more : (chains : List (List ℕ)) (n k : ℕ) → n ≤ k → AreApart (chained chains n) → AreApart (chained chains k)
apart_more chains n k le s = record { within = λ m x h. omega (arith, s.within m x h, le); once = s.once; one_chain = s.one_chain }
