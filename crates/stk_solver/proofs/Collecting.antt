-- Collecting the negations of the marked literals.
use Rattle.std.proofs.Common.{◌≡◌, ◌⊎◌, ◌↔◌, ℕ, ◌+◌, ◌<◌, ◌≤◌, Bool, false, List, [], ◌∷◌, ◌++◌, length, get_or, take, set, sym, ◌∙◌, ap, subst, inl, inr, arith}
use Rattle.std.specs.List.{Contains}
use Rattle.std.proofs.lemmas.List.{take_more, take_all}
use Rattle.std.proofs.lemmas.List.Elements.{Contains-push, Contains-append_left, Contains-push_cases}
use Rattle.stk_clauses.specs.declared.literal.Lit.{Lit}
use Rattle.stk_clauses.specs.Literals.{negated, AreDistinct}
use Rattle.stk_clauses.proofs.Values.{lit_cases, negated-negated}
use Rattle.stk_clauses.proofs.Members.{contains_head, contains_tail}
use Rattle.stk_solver.specs.declared.marks.Marks.{Marks}
use Rattle.stk_solver.specs.Marking.{Marked, IsNoted, IsClean}
use Rattle.stk_solver.proofs.Marking.{marked_clear}

distinct_push : (c : List Lit) (x : Lit) → AreDistinct c → (Contains c x → ⊥) → AreDistinct (c ++ x ∷ [])
distinct_push [] x d n = ((λ h. omega (arith, h.1)), tt)
distinct_push (y ∷ ys) x d n = (
  (λ h. elim (Contains-push_cases ys x y h) [
    | inl a ↦ d.0 a
    | inr e ↦ n (subst (λ z. Contains (y ∷ ys) z) (sym e) (contains_head y ys))
  ]),
  distinct_push ys x d.1 (λ h. n (contains_tail y ys x h)),
)

-- the clause has the negations of those that were marked and aren't any more; of the first noted ones none is marked
pub record IsCollected (old now : List Bool) (noted : List Lit) (at : ℕ) (c : List Lit) : Type 0 where
  pub less : (m : Lit) → Marked now m → Marked old m
  pub sound : (m : Lit) → Contains c m → Marked old (negated m)
  pub gone : (m : Lit) → Contains c m → Marked now (negated m) → ⊥
  pub split : (m : Lit) → Marked old m → Marked now m ⊎ Contains c (negated m)
  pub left : (m : Lit) → Marked now m → Contains (take at noted) m → ⊥
  pub distinct : AreDistinct c

pub collected_none : (old : List Bool) (noted : List Lit) → IsCollected old old noted 0 []
collected_none old noted = record {
  less = λ m h. h;
  sound = λ m h. absurd (omega (arith, h.1));
  gone = λ m h k. omega (arith, h.1);
  split = λ m h. inl h;
  left = λ m h k. omega (arith, k.1);
  distinct = tt;
}

module _ (old now : List Bool) (noted : List Lit) (at next : ℕ) (c : List Lit) (x : Lit) (in' : x.0 < length now) (marked : Marked now x) (s : IsCollected old now noted at c) (behind : (m : Lit) → Contains (take next noted) m → Contains (take at noted) m ⊎ (m ≡ x)) where
  taken_sound : (m : Lit) → Contains (c ++ negated x ∷ []) m → Marked old (negated m)
  taken_sound m h =
      elim (Contains-push_cases c (negated x) m h) [
        | inl a ↦ s.sound m a
        | inr e ↦ let f : x ≡ negated m = sym (negated-negated x) ∙ ap negated e in subst (λ y. Marked old y) f (s.less x marked)
      ]

  taken_gone : (m : Lit) → Contains (c ++ negated x ∷ []) m → Marked (set now x.0 false) (negated m) → ⊥
  taken_gone m h k =
      let b = (marked_clear now x in' (negated m)).0 k in
      elim (Contains-push_cases c (negated x) m h) [
        | inl a ↦ s.gone m a b.0
        | inr e ↦ b.1 (ap negated (sym e) ∙ negated-negated x)
      ]

  taken_split : (m : Lit) → Marked old m → Marked (set now x.0 false) m ⊎ Contains (c ++ negated x ∷ []) (negated m)
  taken_split m h =
      elim (s.split m h) [
        | inl a ↦ elim (lit_cases m x) [
          | inl e ↦ inr (subst (λ y. Contains (c ++ negated x ∷ []) y) (ap negated (sym e)) (Contains-push c (negated x)))
          | inr n ↦ inl ((marked_clear now x in' m).1 a n)
        ]
        | inr b ↦ inr (Contains-append_left c (negated x ∷ []) (negated m) b)
      ]

  pub collected_taken : IsCollected old (set now x.0 false) noted next (c ++ negated x ∷ [])
  collected_taken = record {
    less = λ m h. s.less m ((marked_clear now x in' m).0 h).0;
    sound = taken_sound;
    gone = taken_gone;
    split = taken_split;
    left = λ m h k. let b = (marked_clear now x in' m).0 h in elim (behind m k) [ inl a ↦ s.left m b.0 a | inr e ↦ b.1 e ];
    distinct = distinct_push c (negated x) s.distinct (λ h. s.gone (negated x) h (subst (λ y. Marked now y) (sym (negated-negated x)) marked));
  }

pub one_more : (noted : List Lit) (at : ℕ) (d : Lit) → at < length noted → (m : Lit) → Contains (take (at + 1) noted) m → Contains (take at noted) m ⊎ (m ≡ get_or noted at d)
one_more noted at d lt m h =
    let k : Contains (take at noted ++ get_or noted at d ∷ []) m = subst (λ ys. Contains ys m) (take_more noted at d lt) h in
    elim (Contains-push_cases (take at noted) (get_or noted at d) m k) [ inl a ↦ inl a | inr e ↦ inr (sym e) ]

pub collected_skipped : (old now : List Bool) (noted : List Lit) (at : ℕ) (c : List Lit) (d : Lit) → at < length noted → (Marked now (get_or noted at d) → ⊥) → IsCollected old now noted at c → IsCollected old now noted (at + 1) c
collected_skipped old now noted at c d lt no' s = record {
  less = s.less;
  sound = s.sound;
  gone = s.gone;
  split = s.split;
  left = λ m h k. elim (one_more noted at d lt m k) [ inl a ↦ s.left m h a | inr e ↦ no' (subst (λ y. Marked now y) e h) ];
  distinct = s.distinct;
}

pub collected_clean : (old now : List Bool) (noted : List Lit) (at : ℕ) (c : List Lit) → length noted ≤ at → ((m : Lit) → Marked now m → Contains noted m) → IsCollected old now noted at c → (m : Lit) → Marked now m → ⊥
collected_clean old now noted at c le has s m h = s.left m h (subst (λ ys. Contains ys m) (sym (take_all at noted le)) (has m h))

pub collected_each : (old now : List Bool) (noted : List Lit) (at : ℕ) (c : List Lit) → ((m : Lit) → Marked now m → ⊥) → IsCollected old now noted at c → (m : Lit) → Contains c m ↔ Marked old (negated m)
collected_each old now noted at c clean s m = (
  (λ h. s.sound m h),
  (λ h. elim (s.split (negated m) h) [ inl a ↦ absurd (clean (negated m) a) | inr b ↦ subst (λ y. Contains c y) (negated-negated m) b ]),
)

-- what the loop keeps
pub record IsTaking (f : Marks) (point : Lit) (at : ℕ) (g : Marks) (c : List Lit) : Type 0 where
  pub noted : IsNoted g
  pub list : g.noted ≡ f.noted
  pub hints : g.hints ≡ f.hints
  pub vars : g.vars ≡ f.vars
  pub collected : IsCollected f.marked.items g.marked.items f.noted.items at c
  pub first : (rest : List Lit) × (c ≡ negated point ∷ rest)

pub taking_clean : (f : Marks) (point : Lit) (at : ℕ) (g : Marks) (c : List Lit) → length f.noted.items ≤ at → IsTaking f point at g c → IsClean g
taking_clean f point at g c le s = record {
  sized = s.noted.sized;
  none = collected_clean f.marked.items g.marked.items f.noted.items at c le (λ m h. subst (λ v. Contains v.items m) s.list (s.noted.noted m h)) s.collected;
}

pub taking_first : (f g : Marks) (point : Lit) (c : List Lit) → point.0 < length f.marked.items → Marked f.marked.items point → IsNoted g → g.noted ≡ f.noted → g.hints ≡ f.hints → g.vars ≡ f.vars → g.marked.items ≡ set f.marked.items point.0 false → c ≡ negated point ∷ [] → IsTaking f point 0 g c
taking_first f g point c in' marked noted list hints vars em ec = record {
  noted = noted;
  list = list;
  hints = hints;
  vars = vars;
  collected = subst (λ ms. IsCollected f.marked.items ms f.noted.items 0 c) (sym em)
      (subst (λ ys. IsCollected f.marked.items (set f.marked.items point.0 false) f.noted.items 0 ys) (sym ec)
      (collected_taken f.marked.items f.marked.items f.noted.items 0 0 [] point in' marked (collected_none f.marked.items f.noted.items) (λ m h. inl h)));
  first = ([], ec);
}

pub taking_more : (f : Marks) (point : Lit) (at : ℕ) (g h : Marks) (c e : List Lit) (x d : Lit) → at < length f.noted.items → x ≡ get_or f.noted.items at d → x.0 < length g.marked.items → Marked g.marked.items x → IsNoted h → h.noted ≡ g.noted → h.hints ≡ g.hints → h.vars ≡ g.vars → h.marked.items ≡ set g.marked.items x.0 false
    → e ≡ c ++ negated x ∷ [] → IsTaking f point at g c → IsTaking f point (at + 1) h e
taking_more f point at g h c e x d lt ex in' marked noted list hints vars em ec s = record {
  noted = noted;
  list = list ∙ s.list;
  hints = hints ∙ s.hints;
  vars = vars ∙ s.vars;
  collected = subst (λ ms. IsCollected f.marked.items ms f.noted.items (at + 1) e) (sym em)
      (subst (λ ys. IsCollected f.marked.items (set g.marked.items x.0 false) f.noted.items (at + 1) ys) (sym ec)
      (collected_taken f.marked.items g.marked.items f.noted.items at (at + 1) c x in' marked s.collected
      (λ m k. elim (one_more f.noted.items at d lt m k) [ inl a ↦ inl a | inr q ↦ inr (q ∙ sym ex) ])));
  first = (s.first.0 ++ negated x ∷ [], ec ∙ ap (λ ys. ys ++ negated x ∷ []) s.first.1);
}

pub taking_on : (f : Marks) (point : Lit) (at : ℕ) (g : Marks) (c : List Lit) (d : Lit) → at < length f.noted.items → (Marked g.marked.items (get_or f.noted.items at d) → ⊥) → IsTaking f point at g c → IsTaking f point (at + 1) g c
taking_on f point at g c d lt no' s = record {
  noted = s.noted;
  list = s.list;
  hints = s.hints;
  vars = s.vars;
  collected = collected_skipped f.marked.items g.marked.items f.noted.items at c d lt no' s.collected;
  first = s.first;
}
