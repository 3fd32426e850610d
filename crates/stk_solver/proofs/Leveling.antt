-- The levels of a search, as the trail changes.
use Rattle.std.proofs.Common.{◌≡◌, ◌≢◌, ℕ, ◌+◌, ◌-◌, ◌<◌, ◌≤◌, List, [], ◌∷◌, ◌++◌, length, get_or, take, map, sym, ◌∙◌, ap, inl, inr, arith, refl, Option, Some, None, length-append}
use Rattle.std.specs.List.{Contains}
use Rattle.std.proofs.lemmas.Bool.{cases_eq, cases_lt}
use Rattle.std.proofs.lemmas.List.{length-take, get_or-take, get_or_append_left, get_or-append_right, get_or-map, length-map, get_or_at}
use Rattle.stk_clauses.specs.declared.literal.Lit.{Lit}
use Rattle.stk_clauses.specs.Propagation.{IsQuiet, AreQuiet}
use Rattle.stk_propagate.specs.Assigned.{Assigned}
use Rattle.stk_propagate.specs.Trailed.{IsAssumed, IsGrown}
use Rattle.stk_solver.specs.Learnt.{AreLevels}

-- no level is behind the last one
pub last_level : (a : Assigned) (ls : List ℕ) → AreLevels a ls → 0 < length ls → (k : ℕ) → IsAssumed a k → k ≤ get_or ls (length ls - 1) 0
last_level a ls s some k h =
    let e = s.each k h in
    elim (cases_eq e.0 (length ls - 1)) [
      | inl f ↦ omega (arith, e.2, ap (λ n. get_or ls n 0) f)
      | inr n ↦ omega (arith, e.2, s.rising e.0 (length ls - 1) (omega (arith, n, e.1)) (omega (arith, some)))
    ]

-- the levels that are kept
module _ (a b : Assigned) (ls ms : List ℕ) (kept count : ℕ) (s : AreLevels a ls) (fewer : kept < length ls) (place : count ≡ get_or ls kept 0) (em : ms ≡ take kept ls) (el : b.literals ≡ take count a.literals) (er : b.reasons ≡ take count a.reasons) where
  pub many : length ms ≡ kept
  many = omega (arith, ap length em, length-take kept ls, fewer)

  pub same_level : (j : ℕ) → j < kept → get_or ms j 0 ≡ get_or ls j 0
  same_level j lt = ap (λ (xs : List ℕ). get_or xs j 0) em ∙ get_or-take kept ls j 0 lt

  pub count_within : count < length a.literals
  count_within = omega (arith, (s.known kept fewer).0, place)

  pub size : length b.literals ≡ count
  size = omega (arith, ap length el, length-take count a.literals, count_within)

  pub same_reason : (k : ℕ) → k < count → get_or b.reasons k None ≡ get_or a.reasons k None
  same_reason k lt = ap (λ (xs : List (Option ℕ)). get_or xs k None) er ∙ get_or-take count a.reasons k None lt

  -- what is assumed still is one of the levels that are kept
  pub found_level : (k : ℕ) → IsAssumed b k → (j : ℕ) × (j < kept) × (get_or ls j 0 ≡ k)
  found_level k h =
      let lt : k < count = omega (arith, h.0, size) in
      let e = s.each k (omega (arith, lt, count_within), sym (same_reason k lt) ∙ h.1) in
      let j : e.0 < kept = elim (cases_lt e.0 kept) [
        | inl x ↦ x
        | inr x ↦ elim (cases_eq kept e.0) [
          | inl f ↦ let g : get_or ls kept 0 ≡ k = ap (λ n. get_or ls n 0) f ∙ e.2 in absurd (omega (arith, g, place, lt))
          | inr n ↦ absurd (omega (arith, s.rising kept e.0 (omega (arith, x, n)) e.1, e.2, place, lt))
        ]
      ] in
      (e.0, j, e.2)

  pub levels_cut : AreLevels b ms
  levels_cut = record {
    known = λ j lt.
        let jk : j < kept = omega (arith, lt, many) in
        let e = same_level j jk in
        let r : get_or ms j 0 < count = omega (arith, s.rising j kept jk fewer, e, place) in
        (omega (arith, r, size), same_reason (get_or ms j 0) r ∙ ap (λ n. get_or a.reasons n None) e ∙ (s.known j (omega (arith, jk, fewer))).1);
    each = λ k h. let e = found_level k h in (e.0, omega (arith, e.1, many), same_level e.0 e.1 ∙ e.2);
    rising = λ i j ij lt. omega (arith, s.rising i j ij (omega (arith, lt, many, fewer)), same_level i (omega (arith, ij, lt, many)), same_level j (omega (arith, lt, many)));
  }

-- propagation assumes nothing
pub levels_grown : (a b : Assigned) (ls : List ℕ) → length a.reasons ≡ length a.literals → length b.reasons ≡ length b.literals → IsGrown a b → AreLevels a ls → AreLevels b ls
levels_grown a b ls pa pb g s =
    let rs : List (Option ℕ) = map (λ (r : ℕ). Some r) g.why.0 in
    let longer : length a.literals ≤ length b.literals = omega (arith, ap length g.more.1, length-append a.literals g.more.0) in
    let same : (k : ℕ) → k < length a.literals → get_or b.reasons k None ≡ get_or a.reasons k None = λ k lt. ap (λ (xs : List (Option ℕ)). get_or xs k None) g.why.1 ∙ get_or_append_left a.reasons rs None k (omega (arith, lt, pa)) in
    let long : length b.reasons ≡ length a.reasons + length g.why.0 = ap length g.why.1 ∙ length-append a.reasons rs ∙ ap (λ (n : ℕ). length a.reasons + n) (length-map g.why.0 (λ (r : ℕ). Some r)) in
    let added : (k : ℕ) → length a.literals ≤ k → k < length b.literals → get_or b.reasons k None ≢ None = λ k ge lt e.
    let in' : k - length a.reasons < length g.why.0 = omega (arith, lt, ge, long, pa, pb) in
    let is : get_or b.reasons k None ≡ Some (get_or g.why.0 (k - length a.reasons) 0) = ap (λ (ys : List (Option ℕ)). get_or ys k None) g.why.1 ∙ get_or-append_right a.reasons rs (length a.reasons) k None refl (omega (arith, ge, pa)) ∙ get_or-map (λ (r : ℕ). Some r) g.why.0 (k - length a.reasons) 0 None in' in
    let both : Some (get_or g.why.0 (k - length a.reasons) 0) ≡ None = sym is ∙ e in
    cc in
    record {
      known = λ j lt. let h = s.known j lt in (omega (arith, h.0, longer), same (get_or ls j 0) h.0 ∙ h.1);
      each = λ k h. elim (cases_lt k (length a.literals)) [
        | inl lt ↦ s.each k (lt, sym (same k lt) ∙ h.1)
        | inr ge ↦ absurd (added k ge h.0 h.1)
      ];
      rising = s.rising;
    }

-- one level more
pub levels_pushed : (a b : Assigned) (ls : List ℕ) (l : Lit) → length a.reasons ≡ length a.literals → b.literals ≡ a.literals ++ l ∷ [] → b.reasons ≡ a.reasons ++ None ∷ [] → AreLevels a ls → AreLevels b (ls ++ length a.literals ∷ [])
levels_pushed a b ls l paired el er s =
    let n : ℕ = length a.literals in
    let size : length b.literals ≡ n + 1 = ap length el ∙ length-append a.literals (l ∷ []) in
    let len : length (ls ++ n ∷ []) ≡ length ls + 1 = length-append ls (n ∷ []) in
    let same : (k : ℕ) → k < n → get_or b.reasons k None ≡ get_or a.reasons k None = λ k lt. ap (λ (xs : List (Option ℕ)). get_or xs k None) er ∙ get_or_append_left a.reasons (None ∷ []) None k (omega (arith, lt, paired)) in
    let at : (j : ℕ) → j < length ls → get_or (ls ++ n ∷ []) j 0 ≡ get_or ls j 0 = λ j lt. get_or_append_left ls (n ∷ []) 0 j lt in
    let end : (j : ℕ) → length ls ≡ j → get_or (ls ++ n ∷ []) j 0 ≡ n = λ j e. get_or_at ls n [] 0 j e in
    record {
      known = λ j lt. elim (cases_lt j (length ls)) [
        | inl x ↦ let k = s.known j x in rw (at j x) (omega (arith, k.0, size), same (get_or ls j 0) k.0 ∙ k.1)
        | inr x ↦ rw (end j (omega (arith, x, lt, len))) (omega (arith, size), ap (λ (xs : List (Option ℕ)). get_or xs n None) er ∙ get_or_at a.reasons None [] None n paired)
      ];
      each = λ k h. elim (cases_lt k n) [
        | inl x ↦ let e = s.each k (x, sym (same k x) ∙ h.1) in (e.0, omega (arith, e.1, len), at e.0 e.1 ∙ e.2)
        | inr x ↦ let f : n ≡ k = omega (arith, x, h.0, size) in (length ls, omega (arith, len), end (length ls) refl ∙ f)
      ];
      rising = λ i j ij lt.
          let il : i < length ls = omega (arith, ij, lt, len) in
          elim (cases_lt j (length ls)) [
            | inl x ↦ omega (arith, s.rising i j ij x, at i il, at j x)
            | inr x ↦ omega (arith, (s.known i il).0, at i il, end j (omega (arith, x, lt, len)))
          ];
    }

-- no levels, where nothing is assumed
pub levels_none : (a : Assigned) → a.literals ≡ [] → AreLevels a []
levels_none a e = record {
  known = λ j lt. absurd (omega (arith, lt));
  each = λ k h. absurd (omega (arith, h.0, ap length e));
  rising = λ i j ij lt. absurd (omega (arith, lt));
}

-- without levels nothing is assumed
pub none_assumed : (a : Assigned) (ls : List ℕ) → AreLevels a ls → length ls ≡ 0 → (k : ℕ) → IsAssumed a k → ⊥
none_assumed a ls s e k h = let x = s.each k h in omega (arith, x.1, e)

pub none_empty : (t : List Lit) (cs : List (List Lit)) → AreQuiet t cs → Contains cs [] → ⊥
none_empty t cs q h = pick (get_or cs h.0 []) (q h.0 [] h.1) h.2
  where
    pick : (c : List Lit) → IsQuiet t c → c ≡ [] → ⊥
    pick c (inl (l, cl, tl)) e = omega (arith, cl.1, ap length e)
    pick c (inr (x, y, ne, cx, cy, ox, oy)) e = omega (arith, cx.1, ap length e)
