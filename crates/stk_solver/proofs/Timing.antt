-- A learnt clause may be taken in where the search has gone back to.
use Rattle.std.proofs.Common.{◌≡◌, ◌≢◌, ℕ, ◌-◌, ◌<◌, ◌≤◌, List, ◌∷◌, length, get_or, take, sym, ◌∙◌, ap, subst, inl, inr, arith}
use Rattle.std.specs.List.{Contains}
use Rattle.std.proofs.lemmas.Bool.{cases_eq}
use Rattle.std.proofs.lemmas.List.{take-take}
use Rattle.stk_clauses.specs.declared.literal.Lit.{Lit}
use Rattle.stk_clauses.specs.Literals.{negated}
use Rattle.stk_clauses.specs.Propagation.{IsOpen}
use Rattle.stk_clauses.proofs.Members.{contains_head, contains_tail}
use Rattle.stk_propagate.specs.Assigned.{Assigned, AreFresh}
use Rattle.stk_propagate.specs.Trailed.{IsAssumed}
use Rattle.stk_propagate.specs.Fitting.{IsAlive, IsTimely}
use Rattle.stk_solver.specs.Learnt.{AreLevels}
use Rattle.stk_solver.proofs.Leading.{take_grows}
use Rattle.stk_solver.specs.Jumping.{IsDeep}
use Rattle.stk_solver.proofs.Leveling.{size, found_level}

pub low_count : (a : Assigned) (ls : List ℕ) (kept count : ℕ) → AreLevels a ls → kept < length ls → count ≡ get_or ls kept 0 → count ≤ get_or ls (length ls - 1) 0
low_count a ls kept count s fewer place =
    elim (cases_eq kept (length ls - 1)) [
      | inl e ↦ omega (arith, place, ap (λ n. get_or ls n 0) e)
      | inr n ↦ omega (arith, place, s.rising kept (length ls - 1) (omega (arith, n, fewer)) (omega (arith, fewer)))
    ]

module _ (a b : Assigned) (ls ms : List ℕ) (kept count : ℕ) (s : AreLevels a ls) (fewer : kept < length ls) (place : count ≡ get_or ls kept 0) (em : ms ≡ take kept ls) (el : b.literals ≡ take count a.literals) (er : b.reasons ≡ take count a.reasons)
    (fresh : AreFresh a.literals) (c : List Lit) (first : Lit) (rest : List Lit) (ec : c ≡ first ∷ rest) (open' : IsOpen (take (get_or ls (length ls - 1) 0) a.literals) first) (others : (m : Lit) → Contains rest m → Contains (take (get_or ls (length ls - 1) 0) a.literals) (negated m)) where
  loose : Contains b.literals (negated first) → ⊥
  loose h = open'.1 (take_grows a.literals count (get_or ls (length ls - 1) 0) (negated first) (low_count a ls kept count s fewer place) (subst (λ ys. Contains ys (negated first)) el h))

  has_first : Contains c first
  has_first = subst (λ ys. Contains ys first) (sym ec) (contains_head first rest)

  pub alive_back : IsAlive b.literals c
  alive_back = inr (first, has_first, loose)

  pub timely_back : (0 < kept → (k : ℕ) × IsDeep a.literals rest k × (get_or ls (kept - 1) 0 ≤ k)) → IsTimely b c
  timely_back deep u cu live rest_false =
      elim (cases_eq kept 0) [
        | inl z ↦ inl (λ k h. let e = found_level a b ls ms kept count s fewer place em el er k h in omega (arith, e.1, z))
        | inr n ↦
            let d = deep (omega (arith, n)) in
            let t : List Lit = a.literals in
            let m : Lit = d.1.1.0 in
            let k0 : ℕ = d.0 in
            let in' : k0 < length t = d.1.0 in
            let here : get_or t k0 (negated m) ≡ negated m = d.1.1.2 in
            let cm : Contains c m = subst (λ ys. Contains ys m) (sym ec) (contains_tail first rest m d.1.1.1) in
            let other : m ≢ u = λ e.
            let apart : first ≢ u = λ f.
            let g : m ≡ first = e ∙ sym f in
            open'.1 (subst (λ y. Contains (take (get_or ls (length ls - 1) 0) t) (negated y)) g (others m d.1.1.1)) in
            loose (rest_false first has_first apart) in
            let late : (k : ℕ) → IsAssumed b k → Contains (take k b.literals) (negated m) → ⊥ = λ k h v.
            let e = found_level a b ls ms kept count s fewer place em el er k h in
            let le : k ≤ k0 = elim (cases_eq e.0 (kept - 1)) [
              | inl f ↦ omega (arith, d.2, e.2, ap (λ j. get_or ls j 0) f)
              | inr f ↦ omega (arith, d.2, e.2, s.rising e.0 (kept - 1) (omega (arith, f, e.1)) (omega (arith, fewer)))
            ] in
            let kc : k ≤ count = omega (arith, h.0, size a b ls ms kept count s fewer place em el er) in
            let v' : Contains (take k t) (negated m) = subst (λ ys. Contains ys (negated m)) (ap (take k) el ∙ take-take k count t kc) v in
            let o : IsOpen (take k0 t) (negated m) = subst (λ y. IsOpen (take k0 t) y) here (fresh k0 (negated m) in') in
            o.0 (take_grows t k k0 (negated m) le v') in
            inr (m, cm, other, late)
      ]
