-- What the parts of a term weigh, one after the other.
use Rattle.std.proofs.Common.{◌≡◌, ℕ, zero, suc, ◌+◌, ◌-◌, ◌<◌, ◌≤◌, Bool, true, false, if◌then◌else◌, List, [], ◌∷◌, length, get_or, nat_lt, refl, sym, ap, subst, ◌∙◌, arith, add-one}
use Rattle.std.proofs.lemmas.Bool.{ltb-true, ltb-false}
use Rattle.stk_terms.specs.Terms.{Stored}
use Rattle.stk_terms.specs.Fitting.{IsSound}
use Rattle.stk_terms.specs.Orders.{HasPlace, Rises, AreParts}
use Rattle.stk_terms.specs.Parts.{is_part}
use Rattle.stk_terms.specs.Cost.{bound_at, weight, cost}
use Rattle.stk_terms.proofs.Parting.{told, reached, part_below}
use Rattle.stk_terms.proofs.Weighing.{weight_grows}

-- what isn't chosen weighs nothing
weight_gap : (s : Stored) (c : ℕ → Bool) (n d : ℕ) (m : ℕ) → m ≡ n + d → ((j : ℕ) → n ≤ j → j < m → c j ≡ false) → weight s c m ≡ weight s c n
weight_gap s c n zero m e none = ap (weight s c) (let f : m ≡ n = omega arith in f)
weight_gap s c n (suc d) zero e none = absurd (omega arith)
weight_gap s c n (suc d) (suc m) e none =
    let before = weight_gap s c n d m (omega arith) (λ j l k. none j l (omega (arith, k))) in
    let nothing : (if c m then bound_at s m else 0) ≡ 0 = ap (λ b. if b then bound_at s m else 0) (none m (omega arith) (omega arith)) in
    omega arith

within : (ps : List ℕ) (i d : ℕ) → i < length ps → get_or ps i d ≡ get_or ps i 0
within [] i d h = absurd (omega arith)
within (p ∷ ps) zero d h = refl
within (p ∷ ps) (suc i) d h = within ps i d (omega arith)

beyond : (ps : List ℕ) (i d : ℕ) → length ps ≤ i → get_or ps i d ≡ d
beyond [] i d h = refl
beyond (p ∷ ps) zero d h = absurd (omega arith)
beyond (p ∷ ps) (suc i) d h = beyond ps i d (omega arith)

module _ (s : Stored) (sound : IsSound s) (id : ℕ) (h : id < length s.terms) (ps : List ℕ) (are : AreParts s id ps) where
  abbrev chosen : ℕ → Bool
  chosen = is_part s id

  -- a part is one of the list, so none is below the first or between one and the next
  none_near : (i j : ℕ) → ((m : ℕ) → m < i → m < length ps → get_or ps m 0 < j) → j < get_or ps i (id + 1) → chosen j ≡ false
  none_near i j after before = by (chosen j) refl
    where
      at : (w : HasPlace ps j) → (b : Bool) → nat_lt w.at i ≡ b → ⊥
      at w true e = let a = after w.at (ltb-true w.at i e) w.before in let d = w.is in omega (arith, a, d)
      at w false e = next (ltb-false w.at i e) (nat_lt i w.at) refl
        where
          next : i ≤ w.at → (b : Bool) → nat_lt i w.at ≡ b → ⊥
          next l true f =
              let r = are.rise i w.at (ltb-true i w.at f) w.before in
              let z = w.before in
              let here = within ps i (id + 1) (let g = ltb-true i w.at f in omega (arith, g, z)) in
              let d = w.is in
              omega (arith, r, d, here, before)
          next l false f =
              let g = ltb-false i w.at f in
              let same : i ≡ w.at = omega (arith, l, g) in
              let z = w.before in
              let here = within ps i (id + 1) (omega (arith, same, z)) in
              let there : get_or ps i 0 ≡ get_or ps w.at 0 = ap (λ n. get_or ps n 0) same in
              let d = w.is in
              omega (arith, there, d, here, before)

      by : (b : Bool) → chosen j ≡ b → chosen j ≡ false
      by true e = let w = are.all j (reached id s id j e) in absurd (at w (nat_lt w.at i) refl)
      by false e = e

  pub from_first : weight s chosen (get_or ps 0 (id + 1)) ≡ 0
  from_first = weight_gap s chosen 0 (get_or ps 0 (id + 1)) (get_or ps 0 (id + 1)) (omega arith) (λ j l k. none_near 0 j (λ m q r. absurd (omega (arith, q))) k)

  module _ (i : ℕ) (l : i < length ps) where
    part_here : chosen (get_or ps i 0) ≡ true
    part_here = told s sound id (get_or ps i 0) h (are.only (get_or ps i 0) (record { at = i; before = l; is = refl }))

    -- the part itself comes before what is next
    goes_up : get_or ps i 0 + 1 ≤ get_or ps (i + 1) (id + 1)
    goes_up = by (nat_lt (i + 1) (length ps)) refl
      where
        by : (b : Bool) → nat_lt (i + 1) (length ps) ≡ b → get_or ps i 0 + 1 ≤ get_or ps (i + 1) (id + 1)
        by true e =
            let f = ltb-true (i + 1) (length ps) e in
            let r = are.rise i (i + 1) (omega arith) f in
            let d = within ps (i + 1) (id + 1) f in
            omega (arith, r, d)
        by false e =
            let d = beyond ps (i + 1) (id + 1) (ltb-false (i + 1) (length ps) e) in
            let b = part_below s sound (get_or ps i 0) id (are.only (get_or ps i 0) (record { at = i; before = l; is = refl })) h in
            omega (arith, d, b)

    after_here : (j : ℕ) → get_or ps i 0 + 1 ≤ j → (m : ℕ) → m < i + 1 → m < length ps → get_or ps m 0 < j
    after_here j k m q r = by (nat_lt m i) refl
      where
        by : (b : Bool) → nat_lt m i ≡ b → get_or ps m 0 < j
        by true e = let f = are.rise m i (ltb-true m i e) l in omega (arith, f, k)
        by false e =
            let f = ltb-false m i e in
            let same : m ≡ i = omega (arith, f, q) in
            let d : get_or ps m 0 ≡ get_or ps i 0 = ap (λ n. get_or ps n 0) same in
            omega (arith, d, k)

    pub from_next : weight s chosen (get_or ps (i + 1) (id + 1)) ≡ weight s chosen (get_or ps i (id + 1)) + bound_at s (get_or ps i 0)
    from_next =
        let p = get_or ps i 0 in
        let q = get_or ps (i + 1) (id + 1) in
        let up = goes_up in
        let gap : weight s chosen q ≡ weight s chosen (p + 1) = weight_gap s chosen (p + 1) (q - (p + 1)) q (omega (arith, up)) (λ j a b. none_near (i + 1) j (after_here j a) b) in
        let one : weight s chosen (p + 1) ≡ weight s chosen p + (if chosen p then bound_at s p else 0) = ap (weight s chosen) (add-one p) in
        let own : (if chosen p then bound_at s p else 0) ≡ bound_at s p = ap (λ b. if b then bound_at s p else 0) part_here in
        let same : weight s chosen (get_or ps i (id + 1)) ≡ weight s chosen p = ap (weight s chosen) (within ps i (id + 1) l) in
        omega (arith, gap, one, own, same)

    pub from_within : weight s chosen (get_or ps i (id + 1)) + bound_at s (get_or ps i 0) ≤ cost s id
    from_within =
        let p = get_or ps i 0 in
        let exists : p < length s.terms = let b = part_below s sound p id (are.only p (record { at = i; before = l; is = refl })) h in omega (arith, b, h) in
        let more : weight s chosen p + (if chosen p then bound_at s p else 0) ≤ cost s id = weight_grows s chosen (length s.terms - suc p) (suc p) (length s.terms) (omega (arith, exists)) in
        let own : (if chosen p then bound_at s p else 0) ≡ bound_at s p = ap (λ b. if b then bound_at s p else 0) part_here in
        let same : weight s chosen (get_or ps i (id + 1)) ≡ weight s chosen p = ap (weight s chosen) (within ps i (id + 1) l) in
        omega (arith, more, own, same)

  -- nothing behind the term is a part
  pub from_last : (i : ℕ) → length ps ≤ i → weight s chosen (get_or ps i (id + 1)) ≡ cost s id
  from_last i l = ap (weight s chosen) (beyond ps i (id + 1) l) ∙ sym (weight_gap s chosen (id + 1) (length s.terms - (id + 1)) (length s.terms) (omega (arith, h)) (λ j a b. behind j a (chosen j) refl))
    where
      behind : (j : ℕ) → id + 1 ≤ j → (b : Bool) → chosen j ≡ b → chosen j ≡ false
      behind j a true e = absurd (let b = part_below s sound j id (reached id s id j e) h in omega (arith, a, b))
      behind j a false e = e
