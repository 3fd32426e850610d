-- The chains of the watches.
use Rattle.std.proofs.Common.{◌≡◌, ◌≢◌, ◌⊎◌, ◌↔◌, ℕ, ◌+◌, ◌*◌, ◌/◌, ◌%◌, ◌<◌, List, [], ◌∷◌, length, get_or, set, sym, ◌∙◌, ap, subst, inl, inr, refl, arith, Option, Some, None}
use Rattle.std.specs.List.{Contains}
use Rattle.std.proofs.lemmas.Bool.{cases_eq, eq-eqb, ne_eqb}
use Rattle.std.proofs.lemmas.List.{get_or-set_same, get_or-set_other}
use Rattle.stk_clauses.specs.declared.literal.Lit.{Lit}
use Rattle.stk_clauses.proofs.Values.{same_lit}
use Rattle.stk_propagate.proofs.Numbers.{in_head, in_tail, in_split}
use Rattle.stk_propagate.specs.Linked.{side_of, watch_at, pair_of}
use Rattle.stk_propagate.proofs.Lists.{at_set, at_else}

abbrev pub Watches : Type 0
Watches = List (Option (Lit × Lit))

-- the spare chain
abbrev pub Spare : List (List ℕ) → ℕ → ℕ → Type 0
Spare cs vars x = Contains (get_or cs (2 * vars) []) x

-- the chains hold the places that watch their literals; w's may be in extra too
abbrev pub Links : List (List ℕ) → ℕ → ℕ → Watches → Lit → (ℕ → Type 0) → Type 0
Links cs vars looked ws w extra = (l : Lit) (x : ℕ) → l.0 < 2 * vars → (Contains (get_or cs l.0 []) x ⊎ ((l ≡ w) × extra x)) ↔ ((x / 2 < looked) × (watch_at ws x ≡ Some l))

-- what is in a chain once n is linked to the chain i
pub linked_cases : (cs : List (List ℕ)) (i n m x : ℕ) → i < length cs → Contains (get_or (set cs i (n ∷ get_or cs i [])) m []) x → ((m ≡ i) × (n ≡ x)) ⊎ Contains (get_or cs m []) x
linked_cases cs i n m x lt h =
    elim (cases_eq m i) [
      | inl e ↦ elim (in_split n (get_or cs i []) x (subst (λ ys. Contains ys x) (at_set cs i m (n ∷ get_or cs i []) lt e) h)) [
        | inl f ↦ inl (e, f)
        | inr k ↦ inr (subst (λ j. Contains (get_or cs j []) x) (sym e) k)
      ]
      | inr ne ↦ inr (subst (λ ys. Contains ys x) (at_else cs i m (n ∷ get_or cs i []) ne) h)
    ]

pub linked_old : (cs : List (List ℕ)) (i n m x : ℕ) → i < length cs → Contains (get_or cs m []) x → Contains (get_or (set cs i (n ∷ get_or cs i [])) m []) x
linked_old cs i n m x lt h =
    elim (cases_eq m i) [
      | inl e ↦ subst (λ ys. Contains ys x) (sym (at_set cs i m (n ∷ get_or cs i []) lt e)) (in_tail n (get_or cs i []) x (subst (λ j. Contains (get_or cs j []) x) e h))
      | inr ne ↦ subst (λ ys. Contains ys x) (sym (at_else cs i m (n ∷ get_or cs i []) ne)) h
    ]

pub linked_new : (cs : List (List ℕ)) (i n m : ℕ) → i < length cs → m ≡ i → Contains (get_or (set cs i (n ∷ get_or cs i [])) m []) n
linked_new cs i n m lt e = subst (λ ys. Contains ys n) (sym (at_set cs i m (n ∷ get_or cs i []) lt e)) (in_head n (get_or cs i []))

-- after the first place of w's chain is taken out
pub links_taken : (cs : List (List ℕ)) (vars looked : ℕ) (ws : Watches) (w : Lit) (n : ℕ) (rest : List ℕ) → w.0 < 2 * vars → length cs ≡ 2 * vars + 1 → get_or cs w.0 [] ≡ n ∷ rest
    → Links cs vars looked ws w (Spare cs vars) → Links (set cs w.0 rest) vars looked ws w (λ x. Spare (set cs w.0 rest) vars x ⊎ (x ≡ n))
links_taken cs vars looked ws w n rest lt long first old l x below =
    let in' : w.0 < length cs = omega (arith, lt, long) in
    let apart : 2 * vars ≢ w.0 = λ e. omega (arith, e, lt) in
    let spare : get_or (set cs w.0 rest) (2 * vars) [] ≡ get_or cs (2 * vars) [] = at_else cs w.0 (2 * vars) rest apart in
    let o = old l x below in (
      (λ h. elim h [
        | inl k ↦ elim (cases_eq l.0 w.0) [
          | inl e ↦ o.0 (inl (subst (λ ys. Contains ys x) (sym (ap (λ (j : ℕ). get_or cs j []) e ∙ first)) (in_tail n rest x (subst (λ ys. Contains ys x) (at_set cs w.0 l.0 rest in' e) k))))
          | inr ne ↦ o.0 (inl (subst (λ ys. Contains ys x) (at_else cs w.0 l.0 rest ne) k))
        ]
        | inr k ↦ elim k.1 [
          | inl p ↦ o.0 (inr (k.0, subst (λ ys. Contains ys x) spare p))
          | inr p ↦ o.0 (inl (subst (λ (y : Lit). Contains (get_or cs y.0 []) x) (sym k.0) (subst (λ ys. Contains ys x) (sym first) (subst (λ y. Contains (n ∷ rest) y) (sym p) (in_head n rest)))))
        ]
      ]),
      (λ r. elim (o.1 r) [
        | inl k ↦ elim (cases_eq l.0 w.0) [
          | inl e ↦ elim (in_split n rest x (subst (λ ys. Contains ys x) (ap (λ (j : ℕ). get_or cs j []) e ∙ first) k)) [
            | inl p ↦ inr (same_lit l w e, inr (sym p))
            | inr p ↦ inl (subst (λ ys. Contains ys x) (sym (at_set cs w.0 l.0 rest in' e)) p)
          ]
          | inr ne ↦ inl (subst (λ ys. Contains ys x) (sym (at_else cs w.0 l.0 rest ne)) k)
        ]
        | inr k ↦ inr (k.0, inl (subst (λ ys. Contains ys x) (sym spare) k.1))
      ]),
    )

-- after the place is put into the spare chain
pub links_kept : (cs : List (List ℕ)) (vars looked : ℕ) (ws : Watches) (w : Lit) (n : ℕ) → length cs ≡ 2 * vars + 1 → Links cs vars looked ws w (λ x. Spare cs vars x ⊎ (x ≡ n))
    → Links (set cs (2 * vars) (n ∷ get_or cs (2 * vars) [])) vars looked ws w (Spare (set cs (2 * vars) (n ∷ get_or cs (2 * vars) [])) vars)
links_kept cs vars looked ws w n long old l x below =
    let in' : 2 * vars < length cs = omega (arith, long) in
    let apart : l.0 ≢ 2 * vars = λ e. omega (arith, e, below) in
    let same : get_or (set cs (2 * vars) (n ∷ get_or cs (2 * vars) [])) l.0 [] ≡ get_or cs l.0 [] = at_else cs (2 * vars) l.0 (n ∷ get_or cs (2 * vars) []) apart in
    let o = old l x below in (
      (λ h. elim h [
        | inl k ↦ o.0 (inl (subst (λ ys. Contains ys x) same k))
        | inr k ↦ o.0 (inr (k.0, elim (linked_cases cs (2 * vars) n (2 * vars) x in' k.1) [ inl p ↦ inr (sym p.1) | inr p ↦ inl p ]))
      ]),
      (λ r. elim (o.1 r) [
        | inl k ↦ inl (subst (λ ys. Contains ys x) (sym same) k)
        | inr k ↦ inr (
          k.0,
          elim k.1 [
            | inl p ↦ linked_old cs (2 * vars) n (2 * vars) x in' p
            | inr p ↦ subst (λ y. Contains (get_or (set cs (2 * vars) (n ∷ get_or cs (2 * vars) [])) (2 * vars) []) y) (sym p) (linked_new cs (2 * vars) n (2 * vars) in' refl)
          ],
        )
      ]),
    )

-- the sides of a pair
pub this_side : (x : ℕ) (l o : Lit) → side_of (Some (pair_of x l o)) (x % 2) ≡ Some l
this_side x l o =
    elim (cases_eq (x % 2) 0) [
      | inl e ↦ rw (eq-eqb (x % 2) 0 e) refl
      | inr n ↦ rw (ne_eqb (x % 2) 0 n) refl
    ]

pub other_side : (x y : ℕ) (l o : Lit) → y % 2 ≢ x % 2 → side_of (Some (pair_of x l o)) (y % 2) ≡ Some o
other_side x y l o ne =
    elim (cases_eq (x % 2) 0) [
      | inl e ↦ let n : y % 2 ≢ 0 = λ h. ne (h ∙ sym e) in rw (eq-eqb (x % 2) 0 e, ne_eqb (y % 2) 0 n) refl
      | inr n ↦ let e : y % 2 ≡ 0 = omega arith in rw (ne_eqb (x % 2) 0 n, eq-eqb (y % 2) 0 e) refl
    ]

-- after the place n watches another literal
pub links_moved : (cs : List (List ℕ)) (vars looked : ℕ) (ws : Watches) (w to other : Lit) (n : ℕ) → length cs ≡ 2 * vars + 1 → to.0 < 2 * vars → to ≢ w → n / 2 < looked → n / 2 < length ws → get_or ws (n / 2) None ≡ Some (pair_of n w other)
    → ((m : ℕ) → Contains (get_or cs m []) n → ⊥) → Links cs vars looked ws w (λ x. Spare cs vars x ⊎ (x ≡ n))
    → Links (set cs to.0 (n ∷ get_or cs to.0 [])) vars looked (set ws (n / 2) (Some (pair_of n to other))) w (Spare (set cs to.0 (n ∷ get_or cs to.0 [])) vars)
links_moved cs vars looked ws w to other n long lt ne seen short was free old l x below =
    let ds : List (List ℕ) = set cs to.0 (n ∷ get_or cs to.0 []) in
    let vs : Watches = set ws (n / 2) (Some (pair_of n to other)) in
    let in' : to.0 < length cs = omega (arith, lt, long) in
    let apart : 2 * vars ≢ to.0 = λ e. omega (arith, e, lt) in
    let spare : get_or ds (2 * vars) [] ≡ get_or cs (2 * vars) [] = at_else cs to.0 (2 * vars) (n ∷ get_or cs to.0 []) apart in
    let entry : get_or vs (n / 2) None ≡ Some (pair_of n to other) = get_or-set_same ws (n / 2) (Some (pair_of n to other)) None short in
    elim (cases_eq x n) [
      | inl e ↦
          let now : watch_at vs x ≡ Some to = ap (watch_at vs) e ∙ ap (λ (v : Option (Lit × Lit)). side_of v (n % 2)) entry ∙ this_side n to other in (
            (λ h. elim h [
              | inl k ↦ elim (linked_cases cs to.0 n l.0 x in' k) [
                | inl p ↦ (subst (λ y. y / 2 < looked) (sym e) seen, now ∙ ap (λ (y : Lit). Some y) (sym (same_lit l to p.0)))
                | inr p ↦ absurd (free l.0 (subst (λ y. Contains (get_or cs l.0 []) y) e p))
              ]
              | inr k ↦ absurd (free (2 * vars) (subst (λ y. Contains (get_or cs (2 * vars) []) y) e (subst (λ ys. Contains ys x) spare k.1)))
            ]),
            (λ r.
                let is : Some to ≡ Some l = sym now ∙ r.1 in
                let same : to ≡ l = cc in
                inl (subst (λ y. Contains (get_or ds l.0 []) y) (sym e) (linked_new cs to.0 n l.0 in' (ap (λ (y : Lit). y.0) (sym same))))),
          )
      | inr nx ↦
          let o = old l x below in
          let now : watch_at vs x ≡ watch_at ws x = elim (cases_eq (x / 2) (n / 2)) [
            | inl h ↦
                let odd : x % 2 ≢ n % 2 = λ m. nx (omega (arith, h, m)) in
                ap (λ (j : ℕ). side_of (get_or vs j None) (x % 2)) h ∙ ap (λ (v : Option (Lit × Lit)). side_of v (x % 2)) entry ∙ other_side n x to other odd
                ∙ sym (ap (λ (j : ℕ). side_of (get_or ws j None) (x % 2)) h ∙ ap (λ (v : Option (Lit × Lit)). side_of v (x % 2)) was ∙ other_side n x w other odd)
            | inr h ↦ ap (λ (v : Option (Lit × Lit)). side_of v (x % 2)) (get_or-set_other ws (n / 2) (x / 2) (Some (pair_of n to other)) None h)
          ] in (
            (λ h.
                let r = o.0 (elim h [
                  | inl k ↦ elim (linked_cases cs to.0 n l.0 x in' k) [ inl p ↦ absurd (nx (sym p.1)) | inr p ↦ inl p ]
                  | inr k ↦ inr (k.0, inl (subst (λ ys. Contains ys x) spare k.1))
                ]) in
                (r.0, now ∙ r.1)),
            (λ r. elim (o.1 (r.0, sym now ∙ r.1)) [
              | inl k ↦ inl (linked_old cs to.0 n l.0 x in' k)
              | inr k ↦ elim k.1 [ inl p ↦ inr (k.0, subst (λ ys. Contains ys x) (sym spare) p) | inr p ↦ absurd (nx p) ]
            ]),
          )
    ]
