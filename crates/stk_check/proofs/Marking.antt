-- A look at one more literal of a clause.
use Rattle.std.proofs.Common.{◌≡◌, ℕ, ◌+◌, ◌*◌, ◌<◌, ◌↔◌, set, List, [], ◌∷◌, ◌++◌, length, get_or, take, sym, ◌∙◌, ap, subst, inl, inr, arith, Option, Some, None}
use Rattle.std.specs.List.{Contains, All}
use Rattle.std.proofs.lemmas.List.{take_more, get_or-set_same, get_or-set_other, get_or_past, length-take, get_or-take}
use Rattle.std.proofs.lemmas.Bool.{cases_eq, cases_lt}
use Rattle.std.proofs.lemmas.List.Elements.{Contains-push, Contains-append_left, Contains-push_cases, All-more}
use Rattle.stk_clauses.specs.declared.literal.Lit.{Lit}
use Rattle.stk_clauses.specs.Literals.{negated}
use Rattle.stk_clauses.specs.Hints.{With}
use Rattle.stk_clauses.specs.Propagation.{HasNoPair}
use Rattle.stk_clauses.proofs.Values.{negated-negated, negated-other}
use Rattle.stk_check.specs.Marks.{IsSeenSoFar, IsMarked, IsGood, AreFalse}

module _ (S : Lit → Type 0) (c : List Lit) (x : Lit) where
  push_false : S (negated x) → (o : Option Lit) → IsSeenSoFar S c o → IsSeenSoFar S (c ++ x ∷ []) o
  push_false sx None h = λ m cm. elim (Contains-push_cases c x m cm) [ inl k ↦ h m k | inr e ↦ subst (λ y. S (negated y)) e sx ]
  push_false sx (Some l) h =
      (Contains-append_left c (x ∷ []) l h.0, h.1, λ m cm ne. elim (Contains-push_cases c x m cm) [ inl k ↦ h.2 m k ne | inr e ↦ subst (λ y. S (negated y)) e sx ])

  push_first : (S (negated x) → ⊥) → IsSeenSoFar S c None → IsSeenSoFar S (c ++ x ∷ []) (Some x)
  push_first nx h = (Contains-push c x, nx, λ m cm ne. elim (Contains-push_cases c x m cm) [ inl k ↦ h m k | inr e ↦ absurd (ne (sym e)) ])

  push_again : IsSeenSoFar S c (Some x) → IsSeenSoFar S (c ++ x ∷ []) (Some x)
  push_again h = (Contains-push c x, h.1, λ m cm ne. elim (Contains-push_cases c x m cm) [ inl k ↦ h.2 m k ne | inr e ↦ absurd (ne (sym e)) ])

module _ (S : Lit → Type 0) (c : List Lit) (i : ℕ) (d : Lit) (in' : i < length c) where
  pub seen_false : S (negated (get_or c i d)) → (o : Option Lit) → IsSeenSoFar S (take i c) o → IsSeenSoFar S (take (i + 1) c) o
  seen_false sx o h = rw (take_more c i d in') (push_false S (take i c) (get_or c i d) sx o h)

  pub seen_first : (S (negated (get_or c i d)) → ⊥) → (o : Option Lit) → o ≡ None → IsSeenSoFar S (take i c) o → IsSeenSoFar S (take (i + 1) c) (Some (get_or c i d))
  seen_first nx o e h = rw (take_more c i d in') (push_first S (take i c) (get_or c i d) nx (subst (λ p. IsSeenSoFar S (take i c) p) e h))

  pub seen_again : (l : Lit) → l.0 ≡ (get_or c i d).0 → (o : Option Lit) → o ≡ Some l → IsSeenSoFar S (take i c) o → IsSeenSoFar S (take (i + 1) c) (Some l)
  seen_again l same o e h =
      let at : ℕ → Lit = λ n. record { 0 = n } in
      let e' : l ≡ get_or c i d = ap at same in
      let h' : IsSeenSoFar S (take i c) (Some (get_or c i d)) = subst (λ p. IsSeenSoFar S (take i c) p) (e ∙ ap (λ (y : Lit). Some y) e') h in
      rw (take_more c i d in') (subst (λ y. IsSeenSoFar S (take i c ++ get_or c i d ∷ []) (Some y)) (sym e') (push_again S (take i c) (get_or c i d) h'))

-- one more mark
pub marked_set : (marks : List ℕ) (stamp : ℕ) (l : Lit) → l.0 < length marks → (m : Lit) → IsMarked (set marks l.0 stamp) stamp m ↔ With (IsMarked marks stamp) l m
marked_set marks stamp l in' m =
    elim (cases_eq m.0 l.0) [
      | inl e ↦ (λ _. inr (ap lit_at e), λ _. rw e (get_or-set_same marks l.0 stamp 0 in'))
      | inr n ↦
          let same = get_or-set_other marks l.0 m.0 stamp 0 n in
          (λ h. inl (sym same ∙ h), λ w. elim w [ inl h ↦ same ∙ h | inr e ↦ absurd (n (ap (λ (y : Lit). y.0) e)) ])
    ]
  where
    lit_at : ℕ → Lit
    lit_at n = record { 0 = n }

-- the clause with one more literal
pub good_more : (vars : ℕ) (c : List Lit) (i : ℕ) (d : Lit) → i < length c → (get_or c i d).0 < 2 * vars → (Contains (take i c) (negated (get_or c i d)) → ⊥) → IsGood vars (take i c) → IsGood vars (take (i + 1) c)
good_more vars c i d in' lt none good = (
  All-more (λ (l : Lit). l.0 < 2 * vars) c i d in' good.0 lt,
  rw (take_more c i d in') (no_pair_push (take i c) (get_or c i d) good.1 none),
)
  where
    no_pair_push : (xs : List Lit) (x : Lit) → HasNoPair xs → (Contains xs (negated x) → ⊥) → HasNoPair (xs ++ x ∷ [])
    no_pair_push xs x ok none l a b =
        elim (Contains-push_cases xs x l a) [
          | inl a' ↦ elim (Contains-push_cases xs x (negated l) b) [ inl b' ↦ ok l a' b' | inr e ↦ none (subst (λ y. Contains xs y) (sym (negated-negated l) ∙ ap negated (sym e)) a') ]
          | inr e ↦ elim (Contains-push_cases xs x (negated l) b) [ inl b' ↦ none (subst (λ y. Contains xs (negated y)) (sym e) b') | inr f ↦ negated-other l (sym f ∙ e) ]
        ]

pub false_more : (marks : List ℕ) (stamp : ℕ) (c : List Lit) (i : ℕ) (d : Lit) → i < length c → (negated (get_or c i d)).0 < length marks → AreFalse marks stamp (take i c) → AreFalse (set marks (negated (get_or c i d)).0 stamp) stamp (take (i + 1) c)
false_more marks stamp c i d in' lt old m =
    let x : Lit = get_or c i d in
    let s = marked_set marks stamp (negated x) lt m in
    let a : IsMarked (set marks (negated x).0 stamp) stamp m → Contains (take i c ++ x ∷ []) (negated m) = λ h. elim (s.0 h) [ inl k ↦ Contains-append_left (take i c) (x ∷ []) (negated m) ((old m).0 k) | inr e ↦ subst (λ y. Contains (take i c ++ x ∷ []) y) (sym (negated-negated x) ∙ ap negated (sym e)) (Contains-push (take i c) x) ] in
    let b : Contains (take i c ++ x ∷ []) (negated m) → IsMarked (set marks (negated x).0 stamp) stamp m = λ h. elim (Contains-push_cases (take i c) x (negated m) h) [ inl k ↦ s.1 (inl ((old m).1 k)) | inr e ↦ s.1 (inr (sym (negated-negated m) ∙ ap negated (sym e))) ] in
    rw (take_more c i d in') (a, b)

pub none_marked : (marks : List ℕ) (stamp : ℕ) → 0 < stamp → All (λ x. x < stamp) marks → (m : Lit) → IsMarked marks stamp m → ⊥
none_marked marks stamp pos' fresh m h =
    elim (cases_lt m.0 (length marks)) [
      | inl lt ↦ let k : get_or marks m.0 0 < stamp = fresh m.0 0 lt in omega (arith, h)
      | inr ge ↦ let z : get_or marks m.0 0 ≡ 0 = get_or_past marks m.0 0 ge in omega (arith, h)
    ]

pub in_take : (c : List Lit) (i : ℕ) (x : Lit) → Contains (take i c) x → Contains c x
in_take c i x (k, lt, e) =
    let lt' : k < i = omega (arith, lt, length-take i c) in
    let lt'' : k < length c = omega (arith, lt, length-take i c) in
    (k, lt'', sym (get_or-take i c k x lt') ∙ e)
