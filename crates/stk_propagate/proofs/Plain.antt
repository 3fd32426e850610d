-- The chains of the watches, when none is being gone through.
use Rattle.std.proofs.Common.{◌≡◌, ◌≢◌, ◌⊎◌, ◌↔◌, ℕ, ◌+◌, ◌*◌, ◌/◌, ◌%◌, ◌<◌, ◌≤◌, List, [], ◌∷◌, ◌++◌, length, get_or, set, sym, ◌∙◌, ap, subst, inl, inr, refl, arith, Option, Some, None}
use Rattle.std.specs.List.{Contains}
use Rattle.std.proofs.lemmas.Bool.{cases_eq, cases_lt, eq-eqb, ne_eqb}
use Rattle.std.proofs.lemmas.List.{length-set, get_or-set_same, get_or-set_other, get_or_past, get_or_append_left}
use Rattle.stk_clauses.specs.declared.literal.Lit.{Lit}
use Rattle.stk_clauses.proofs.Values.{same_lit}
use Rattle.stk_propagate.proofs.Numbers.{none_in}
use Rattle.stk_propagate.specs.Linked.{side_of, watch_at}
use Rattle.stk_propagate.proofs.Lists.{at_set, at_else}
use Rattle.stk_propagate.proofs.Links.{Watches, Spare, Links, linked_cases, linked_old, linked_new}

-- each chain holds the places that watch its literal
abbrev pub Plain : List (List ℕ) → ℕ → ℕ → Watches → Type 0
Plain cs vars looked ws = (l : Lit) (x : ℕ) → l.0 < 2 * vars → Contains (get_or cs l.0 []) x ↔ ((x / 2 < looked) × (watch_at ws x ≡ Some l))

-- w's chain may begin to be gone through
pub links_plain : (cs : List (List ℕ)) (vars looked : ℕ) (ws : Watches) (w : Lit) → ((x : ℕ) → Spare cs vars x → ⊥) → Plain cs vars looked ws → Links cs vars looked ws w (Spare cs vars)
links_plain cs vars looked ws w none p l x lt =
    let o = p l x lt in
    ((λ h. elim h [ inl k ↦ o.0 k | inr k ↦ absurd (none x k.1) ]), (λ r. inl (o.1 r)))

abbrev pub exchanged : List (List ℕ) → ℕ → ℕ → List (List ℕ)
exchanged cs a b = set (set cs a (get_or cs b [])) b (get_or cs a [])

-- when w's chain is empty, and the spare chain takes its place
pub plain_exchanged : (cs : List (List ℕ)) (vars looked : ℕ) (ws : Watches) (w : Lit) → w.0 < 2 * vars → length cs ≡ 2 * vars + 1 → get_or cs w.0 [] ≡ [] → Links cs vars looked ws w (Spare cs vars)
    → Plain (exchanged cs w.0 (2 * vars)) vars looked ws × ((x : ℕ) → Spare (exchanged cs w.0 (2 * vars)) vars x → ⊥)
plain_exchanged cs vars looked ws w lt long empty old =
    let ds : List (List ℕ) = set cs w.0 (get_or cs (2 * vars) []) in
    let in' : w.0 < length cs = omega (arith, lt, long) in
    let last : 2 * vars < length ds = omega (arith, long, length-set cs w.0 (get_or cs (2 * vars) [])) in
    let es : List (List ℕ) = set ds (2 * vars) (get_or cs w.0 []) in
    let low : (m : ℕ) → m < 2 * vars → get_or es m [] ≡ get_or ds m [] = λ m h. at_else ds (2 * vars) m (get_or cs w.0 []) (λ e. omega (arith, e, h)) in (
      (λ l x below.
          let o = old l x below in (
            (λ h.
                let h' = subst (λ ys. Contains ys x) (low l.0 below) h in
                elim (cases_eq l.0 w.0) [
                  | inl e ↦ o.0 (inr (same_lit l w e, subst (λ ys. Contains ys x) (at_set cs w.0 l.0 (get_or cs (2 * vars) []) in' e) h'))
                  | inr n ↦ o.0 (inl (subst (λ ys. Contains ys x) (at_else cs w.0 l.0 (get_or cs (2 * vars) []) n) h'))
                ]),
            (λ r. subst (λ ys. Contains ys x) (sym (low l.0 below)) (elim (cases_eq l.0 w.0) [
              | inl e ↦ subst (λ ys. Contains ys x) (sym (at_set cs w.0 l.0 (get_or cs (2 * vars) []) in' e)) (elim (o.1 r) [
                | inl k ↦ absurd (none_in x (subst (λ ys. Contains ys x) (ap (λ (j : ℕ). get_or cs j []) e ∙ empty) k))
                | inr k ↦ k.1
              ])
              | inr n ↦ subst (λ ys. Contains ys x) (sym (at_else cs w.0 l.0 (get_or cs (2 * vars) []) n)) (elim (o.1 r) [ inl k ↦ k | inr k ↦ absurd (n (ap (λ (y : Lit). y.0) k.0)) ])
            ])),
          )),
      (λ x h. none_in x (subst (λ ys. Contains ys x) (at_set ds (2 * vars) (2 * vars) (get_or cs w.0 []) last refl ∙ empty) h)),
    )

-- a place of a clause that wasn't looked at is in no chain
pub plain_free : (cs : List (List ℕ)) (vars looked : ℕ) (ws : Watches) (n : ℕ) → length cs ≡ 2 * vars + 1 → ((x : ℕ) → Spare cs vars x → ⊥) → Plain cs vars looked ws → looked ≤ n / 2 → (m : ℕ) → Contains (get_or cs m []) n → ⊥
plain_free cs vars looked ws n long none p le m h =
    elim (cases_lt m (2 * vars)) [
      | inl lt ↦ let r = (p (record { 0 = m }) n lt).0 h in omega (arith, r.0, le)
      | inr ge ↦ elim (cases_eq m (2 * vars)) [
        | inl e ↦ none n (subst (λ j. Contains (get_or cs j []) n) e h)
        | inr ne ↦ none_in n (subst (λ ys. Contains ys n) (get_or_past cs m [] (omega (arith, ge, ne, long))) h)
      ]
    ]

abbrev pub with_front : List (List ℕ) → ℕ → ℕ → List (List ℕ)
with_front cs m x = set cs m (x ∷ get_or cs m [])

-- the places 2 i and 2 i + 1 of the next clause are linked
pub plain_watch : (cs : List (List ℕ)) (vars i : ℕ) (ws : Watches) (a b : Lit) → length cs ≡ 2 * vars + 1 → a.0 < 2 * vars → b.0 < 2 * vars → i < length ws → Plain cs vars i ws
    → Plain (with_front (with_front cs a.0 (2 * i)) b.0 (2 * i + 1)) vars (i + 1) (set ws i (Some (a, b)))
plain_watch cs vars i ws a b long ha hb in' old l x below =
    let ds : List (List ℕ) = with_front cs a.0 (2 * i) in
    let vs : Watches = set ws i (Some (a, b)) in
    let ina : a.0 < length cs = omega (arith, ha, long) in
    let inb : b.0 < length ds = omega (arith, hb, long, length-set cs a.0 ((2 * i) ∷ get_or cs a.0 [])) in
    let entry : get_or vs i None ≡ Some (a, b) = get_or-set_same ws i (Some (a, b)) None in' in
    let o = old l x below in
    -- as the second, as the first, or from before
    let parts : Contains (get_or (with_front ds b.0 (2 * i + 1)) l.0 []) x → ((l ≡ b) × (x ≡ 2 * i + 1)) ⊎ (((l ≡ a) × (x ≡ 2 * i)) ⊎ Contains (get_or cs l.0 []) x) = λ h. elim (linked_cases ds b.0 (2 * i + 1) l.0 x inb h) [
      | inl p ↦ inl (same_lit l b p.0, sym p.1)
      | inr p ↦ inr (elim (linked_cases cs a.0 (2 * i) l.0 x ina p) [ inl q ↦ inl (same_lit l a q.0, sym q.1) | inr q ↦ inr q ])
    ] in
    let first : x ≡ 2 * i → watch_at vs x ≡ Some a = λ e.
    let half : x / 2 ≡ i = omega (arith, e) in
    let even : x % 2 ≡ 0 = omega (arith, e) in
    ap (λ (j : ℕ). side_of (get_or vs j None) (x % 2)) half ∙ ap (λ (v : Option (Lit × Lit)). side_of v (x % 2)) entry ∙ rw (eq-eqb (x % 2) 0 even) refl in
    let second : x ≡ 2 * i + 1 → watch_at vs x ≡ Some b = λ e.
    let half : x / 2 ≡ i = omega (arith, e) in
    let odd : x % 2 ≢ 0 = λ z. omega (arith, e, z) in
    ap (λ (j : ℕ). side_of (get_or vs j None) (x % 2)) half ∙ ap (λ (v : Option (Lit × Lit)). side_of v (x % 2)) entry ∙ rw (ne_eqb (x % 2) 0 odd) refl in
    let same : x / 2 ≢ i → watch_at vs x ≡ watch_at ws x = λ n. ap (λ (v : Option (Lit × Lit)). side_of v (x % 2)) (get_or-set_other ws i (x / 2) (Some (a, b)) None n) in (
      (λ h. elim (parts h) [
        | inl p ↦ (omega (arith, p.1), second p.1 ∙ ap (λ (y : Lit). Some y) (sym p.0))
        | inr q ↦ elim q [
          | inl p ↦ (omega (arith, p.1), first p.1 ∙ ap (λ (y : Lit). Some y) (sym p.0))
          | inr p ↦ let r = o.0 p in (omega (arith, r.0), same (λ e. omega (arith, e, r.0)) ∙ r.1)
        ]
      ]),
      (λ r. elim (cases_lt (x / 2) i) [
        | inl lt ↦ linked_old ds b.0 (2 * i + 1) l.0 x inb (linked_old cs a.0 (2 * i) l.0 x ina (o.1 (lt, sym (same (λ e. omega (arith, e, lt))) ∙ r.1)))
        | inr ge ↦ elim (cases_eq (x % 2) 0) [
          | inl even ↦
              let e : x ≡ 2 * i = omega (arith, even, ge, r.0) in
              let is : Some a ≡ Some l = sym (first e) ∙ r.1 in
              let q : a ≡ l = cc in
              linked_old ds b.0 (2 * i + 1) l.0 x inb (subst (λ y. Contains (get_or ds l.0 []) y) (sym e) (linked_new cs a.0 (2 * i) l.0 ina (ap (λ (y : Lit). y.0) (sym q))))
          | inr odd ↦
              let e : x ≡ 2 * i + 1 = omega (arith, odd, ge, r.0) in
              let is : Some b ≡ Some l = sym (second e) ∙ r.1 in
              let q : b ≡ l = cc in
              subst (λ y. Contains (get_or (with_front ds b.0 (2 * i + 1)) l.0 []) y) (sym e) (linked_new ds b.0 (2 * i + 1) l.0 inb (ap (λ (y : Lit). y.0) (sym q)))
        ]
      ]),
    )

-- a clause without watches was looked at
pub plain_short : (cs : List (List ℕ)) (vars i : ℕ) (ws : Watches) → get_or ws i None ≡ None → Plain cs vars i ws → Plain cs vars (i + 1) ws
plain_short cs vars i ws none old l x below =
    let o = old l x below in (
      (λ h. let r = o.0 h in (omega (arith, r.0), r.1)),
      (λ r. elim (cases_lt (x / 2) i) [
        | inl lt ↦ o.1 (lt, r.1)
        | inr ge ↦
            let e : x / 2 ≡ i = omega (arith, ge, r.0) in
            let is : watch_at ws x ≡ None = ap (λ (j : ℕ). side_of (get_or ws j None) (x % 2)) e ∙ ap (λ (v : Option (Lit × Lit)). side_of v (x % 2)) none in
            let no' : Some l ≡ None = sym r.1 ∙ is in
            absurd (cc)
      ]),
    )

-- one more clause has watches, and wasn't looked at
pub plain_taken : (cs : List (List ℕ)) (vars looked : ℕ) (ws : Watches) (w : Option (Lit × Lit)) → looked ≤ length ws → Plain cs vars looked ws → Plain cs vars looked (ws ++ w ∷ [])
plain_taken cs vars looked ws w le old l x below =
    let o = old l x below in
    let same : x / 2 < looked → watch_at (ws ++ w ∷ []) x ≡ watch_at ws x = λ lt. ap (λ (v : Option (Lit × Lit)). side_of v (x % 2)) (get_or_append_left ws (w ∷ []) None (x / 2) (omega (arith, lt, le))) in
    ((λ h. let r = o.0 h in (r.0, same r.0 ∙ r.1)), (λ r. o.1 (r.0, sym (same r.0) ∙ r.1)))
