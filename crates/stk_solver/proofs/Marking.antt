-- Marks that are set and taken back.
use Rattle.std.proofs.Common.{◌≡◌, ◌≢◌, ◌⊎◌, ◌↔◌, ℕ, ◌+◌, ◌<◌, Bool, true, false, List, [], ◌∷◌, ◌++◌, length, get_or, take, set, sym, ◌∙◌, ap, subst, inl, inr, arith, Option, Some}
use Rattle.std.specs.List.{Contains}
use Rattle.std.proofs.lemmas.Bool.{cases_eq, false≢true}
use Rattle.std.proofs.lemmas.List.{take_more, get_or-set_same, get_or-set_other}
use Rattle.std.proofs.lemmas.List.Elements.{Contains-push, Contains-append_left, Contains-push_cases}
use Rattle.stk_clauses.specs.declared.literal.Lit.{Lit}
use Rattle.stk_clauses.specs.Literals.{negated}
use Rattle.stk_clauses.proofs.Values.{negated-negated}
use Rattle.stk_solver.specs.Marking.{Marked}

abbrev lit_at : ℕ → Lit
lit_at n = record { 0 = n }

-- a literal that is unmarked
pub marked_clear : (marked : List Bool) (l : Lit) → l.0 < length marked → (m : Lit) → (Marked (set marked l.0 false) m → Marked marked m × (m ≢ l)) × (Marked marked m → m ≢ l → Marked (set marked l.0 false) m)
marked_clear marked l in' m =
    elim (cases_eq m.0 l.0) [
      | inl e ↦ ((λ h. absurd (false≢true (sym (get_or-set_same marked l.0 false false in') ∙ ap (λ n. get_or (set marked l.0 false) n false) (sym e) ∙ h))), λ h n. absurd (n (ap lit_at e)))
      | inr n ↦
          let same = get_or-set_other marked l.0 m.0 false false n in
          ((λ h. (sym same ∙ h, λ e. n (ap (λ (y : Lit). y.0) e))), λ h _. same ∙ h)
    ]

-- a literal that is marked
pub marked_set : (marked : List Bool) (l : Lit) → l.0 < length marked → (m : Lit) → Marked (set marked l.0 true) m ↔ (Marked marked m ⊎ (m ≡ l))
marked_set marked l in' m =
    elim (cases_eq m.0 l.0) [
      | inl e ↦ (λ _. inr (ap lit_at e), λ _. ap (λ n. get_or (set marked l.0 true) n false) e ∙ get_or-set_same marked l.0 true false in')
      | inr n ↦
          let same = get_or-set_other marked l.0 m.0 true false n in
          (λ h. inl (sym same ∙ h), λ w. elim w [ inl h ↦ same ∙ h | inr e ↦ absurd (n (ap (λ (y : Lit). y.0) e)) ])
    ]

-- the negations of the clause's literals were marked too, but for that of one
abbrev pub AreMarkedToo : List Bool → List Bool → List Lit → Option Lit → Type 0
AreMarkedToo old new c but = (m : Lit) → Marked new m ↔ (Marked old m ⊎ (Contains c (negated m) × (but ≢ Some (negated m))))

pub too_none : (old : List Bool) (c : List Lit) (but : Option Lit) → AreMarkedToo old old (take 0 c) but
too_none old c but m = (λ h. inl h, λ w. elim w [ inl h ↦ h | inr k ↦ absurd (omega (arith, k.0.1)) ])

module _ (old mid new : List Bool) (c : List Lit) (i : ℕ) (d : Lit) (but : Option Lit) (in' : i < length c) (done : AreMarkedToo old mid (take i c) but) where
  pub too_skipped : but ≡ Some (get_or c i d) → AreMarkedToo old mid (take (i + 1) c) but
  too_skipped e m = rw (take_more c i d in') (
    (λ h. elim ((done m).0 h) [ inl a ↦ inl a | inr b ↦ inr (Contains-append_left (take i c) (get_or c i d ∷ []) (negated m) b.0, b.1) ]),
    (λ w. elim w [
      | inl a ↦ (done m).1 (inl a)
      | inr b ↦ elim (Contains-push_cases (take i c) (get_or c i d) (negated m) b.0) [ inl k ↦ (done m).1 (inr (k, b.1)) | inr f ↦ absurd (b.1 (e ∙ ap (λ (y : Lit). Some y) f)) ]
    ]),
  )

  pub too_more : but ≢ Some (get_or c i d) → ((m : Lit) → Marked new m ↔ (Marked mid m ⊎ (m ≡ negated (get_or c i d)))) → AreMarkedToo old new (take (i + 1) c) but
  too_more ne step m =
      let x : Lit = get_or c i d in
      rw (take_more c i d in') (
        (λ h. elim ((step m).0 h) [
          | inl a ↦ elim ((done m).0 a) [ inl b ↦ inl b | inr b ↦ inr (Contains-append_left (take i c) (x ∷ []) (negated m) b.0, b.1) ]
          | inr e ↦
              let f : negated m ≡ x = ap negated e ∙ negated-negated x in
              inr (subst (λ y. Contains (take i c ++ x ∷ []) y) (sym f) (Contains-push (take i c) x), λ g. ne (g ∙ ap (λ (y : Lit). Some y) f))
        ]),
        (λ w. elim w [
          | inl a ↦ (step m).1 (inl ((done m).1 (inl a)))
          | inr b ↦ elim (Contains-push_cases (take i c) x (negated m) b.0) [ inl k ↦ (step m).1 (inl ((done m).1 (inr (k, b.1)))) | inr f ↦ (step m).1 (inr (sym (negated-negated m) ∙ ap negated (sym f))) ]
        ]),
      )
