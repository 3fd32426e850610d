-- True literals that leave no variable unassigned satisfy quiet clauses.
use Rattle.std.proofs.Common.{◌≡◌, ◌⊎◌, ◌↔◌, ℕ, ◌+◌, ◌-◌, ◌*◌, ◌/◌, ◌%◌, ◌<◌, Bool, true, false, not, List, IsTrue, Option, Some, None, ap, subst, inl, inr, arith, refl}
use Rattle.std.specs.List.{Contains}
use Rattle.std.specs.Bool.{MatchBool}
use Rattle.std.specs.Option.{MatchOption}
use Rattle.std.proofs.lemmas.Bool.{cases_eq, eq-eqb, ne_eqb, cases_Bool}
use Rattle.std.proofs.lemmas.List.Elements.{All-contains}
use Rattle.stk_clauses.specs.declared.literal.Lit.{Lit}
use Rattle.stk_clauses.specs.Literals.{negated, literal_value, IsTrueClause, AreBelow}
use Rattle.stk_clauses.specs.Propagation.{IsOpen, IsQuiet, HasNoPair}
use Rattle.stk_solver.specs.Searching.{AreAllAssigned}

abbrev pub lit_at : ℕ → Lit
lit_at n = record { 0 = n }

module _ (t : List Lit) (vars : ℕ) (v : ℕ → Bool) (ok : HasNoPair t) (all : AreAllAssigned t vars) (values : (k : ℕ) → k < vars → (v k ≡ true) ↔ Contains t (lit_at (2 * k))) where
  literal_true : (l : Lit) → l.0 < 2 * vars → Contains t l → literal_value v l ≡ true
  literal_true l lt tl =
      let k : ℕ = l.0 / 2 in
      let kl : k < vars = omega (arith, lt) in
      elim (cases_eq (l.0 % 2) 0) [
        | inl z ↦
            let e : l.0 ≡ 2 * k = omega (arith, z) in
            let c : Contains t (lit_at (2 * k)) = subst (λ n. Contains t (lit_at n)) e tl in
            rw (eq-eqb (l.0 % 2) 0 z) ((values k kl).1 c)
        | inr n ↦
            let e : l.0 ≡ 2 * k + 1 - 2 * ((2 * k) % 2) = omega (arith, n) in
            let c : Contains t (negated (lit_at (2 * k))) = subst (λ m. Contains t (lit_at m)) e tl in
            let off : v k ≡ false = elim (cases_Bool (v k)) [ inl y ↦ absurd (ok (lit_at (2 * k)) ((values k kl).0 y) c) | inr w ↦ w ] in
            rw (ne_eqb (l.0 % 2) 0 n) (ap not off)
      ]

  not_open : (l : Lit) → l.0 < 2 * vars → IsOpen t l → ⊥
  not_open l lt o =
      let k : ℕ = l.0 / 2 in
      let kl : k < vars = omega (arith, lt) in
      elim (cases_eq (l.0 % 2) 0) [
        | inl z ↦
            let e : 2 * k ≡ l.0 = omega (arith, z) in
            let f : 2 * k + 1 ≡ l.0 + 1 - 2 * (l.0 % 2) = omega (arith, z) in
            elim (all k kl) [ inl x ↦ o.0 (subst (λ n. Contains t (lit_at n)) e x) | inr y ↦ o.1 (subst (λ n. Contains t (lit_at n)) f y) ]
        | inr n ↦
            let e : 2 * k ≡ l.0 + 1 - 2 * (l.0 % 2) = omega (arith, n) in
            let f : 2 * k + 1 ≡ l.0 = omega (arith, n) in
            elim (all k kl) [ inl x ↦ o.1 (subst (λ m. Contains t (lit_at m)) e x) | inr y ↦ o.0 (subst (λ m. Contains t (lit_at m)) f y) ]
      ]

  pub clause_true : (c : List Lit) → AreBelow vars c → IsQuiet t c → IsTrueClause v c
  clause_true c below (inl (l, cl, tl)) = (l, cl, literal_true l (All-contains (λ (y : Lit). y.0 < 2 * vars) c l below cl) tl)
  clause_true c below (inr (x, y, ne, cx, cy, ox, oy)) = absurd (not_open x (All-contains (λ (z : Lit). z.0 < 2 * vars) c x below cx) ox)

-- a literal is true where its value is
pub value_true : (r : Option Bool) (t : List Lit) (l : Lit) (b : Bool) → HasNoPair t → MatchOption r (IsOpen t l) (λ v. MatchBool v (Contains t l) (Contains t (negated l))) → IsTrue b ↔ (r ≡ Some true) → (b ≡ true) ↔ Contains t l
value_true None t l b ok h e = ((λ y. let x = e.0 y in absurd (cc)), (λ k. absurd (h.0 k)))
value_true (Some true) t l b ok h e = ((λ y. h), (λ k. e.1 refl))
value_true (Some false) t l b ok h e = ((λ y. let x = e.0 y in absurd (cc)), (λ k. absurd (ok l k h)))

-- a variable that has a value has a true literal
pub known_cases : (r : Option Bool) (t : List Lit) (l : Lit) (v : ℕ) → l.0 ≡ 2 * v → (r ≡ None → ⊥) → MatchOption r (IsOpen t l) (λ b. MatchBool b (Contains t l) (Contains t (negated l))) → Contains t (lit_at (2 * v)) ⊎ Contains t (lit_at (2 * v + 1))
known_cases None t l v e some h = absurd (some refl)
known_cases (Some true) t l v e some h = inl (subst (λ n. Contains t (lit_at n)) e h)
known_cases (Some false) t l v e some h = let f : l.0 + 1 - 2 * (l.0 % 2) ≡ 2 * v + 1 = omega (arith, e) in inr (subst (λ n. Contains t (lit_at n)) f h)
