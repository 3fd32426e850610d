-- Literals, their negations and their values.
use Rattle.std.proofs.Common.{◌≡◌, ◌≢◌, ◌⊎◌, ℕ, suc, ◌+◌, ◌-◌, ◌*◌, ◌/◌, ◌%◌, Bool, true, false, not, cond, eqb, List, [], ◌∷◌, sym, ◌∙◌, ap, inl, inr, arith, refl}
use Rattle.std.specs.List.{All}
use Rattle.std.proofs.lemmas.Bool.{cases_eq, false≢true}
use Rattle.std.proofs.lemmas.List.Elements.{All-cons}
use Rattle.stk_clauses.specs.declared.literal.Lit.{Lit}
use Rattle.stk_clauses.specs.Literals.{negated, literal_value, IsTrueClause}

abbrev lit_at : ℕ → Lit
lit_at n = record { 0 = n }

pub lit_cases : (a b : Lit) → (a ≡ b) ⊎ (a ≢ b)
lit_cases a b = elim (cases_eq a.0 b.0) [ inl e ↦ inl (ap lit_at e) | inr n ↦ inr (λ e. n (ap (λ (x : Lit). x.0) e)) ]

-- literals are the same where their numbers are
pub same_lit : (a b : Lit) → a.0 ≡ b.0 → a ≡ b
same_lit a b e = ap lit_at e

pub negated-negated : (l : Lit) → negated (negated l) ≡ l
negated-negated l =
    let e : (l.0 + 1 - 2 * (l.0 % 2)) + 1 - 2 * ((l.0 + 1 - 2 * (l.0 % 2)) % 2) ≡ l.0 = omega arith in
    ap lit_at e

pub negated-other : (l : Lit) → negated l ≢ l
negated-other l e =
    let n : l.0 + 1 - 2 * (l.0 % 2) ≡ l.0 = ap (λ (x : Lit). x.0) e in
    omega arith

-- the negation has the opposite value
pub value-negated : (v : ℕ → Bool) (l : Lit) → literal_value v (negated l) ≡ not (literal_value v l)
value-negated v l =
    let n : ℕ = l.0 + 1 - 2 * (l.0 % 2) in
    let e : n / 2 ≡ l.0 / 2 = omega arith in
    elim (cases_eq (l.0 % 2) 0) [
      | inl z ↦
          let o : n % 2 ≡ 1 = omega arith in
          at (v (n / 2)) (v (l.0 / 2)) (n % 2) (l.0 % 2) (ap v e) (inr (o, z))
      | inr z ↦
          let o : n % 2 ≡ 0 = omega arith in
          let p : l.0 % 2 ≡ 1 = omega arith in
          at (v (n / 2)) (v (l.0 / 2)) (n % 2) (l.0 % 2) (ap v e) (inl (o, p))
    ]
  where
    twice : (y : Bool) → y ≡ not (not y)
    twice true = refl
    twice false = refl

    at : (x y : Bool) (m k : ℕ) → x ≡ y → ((m ≡ 0) × (k ≡ 1)) ⊎ ((m ≡ 1) × (k ≡ 0)) → cond (eqb m 0) x (not x) ≡ not (cond (eqb k 0) y (not y))
    at x y m k e (inl (a, b)) = rw (a, b, e) (twice y)
    at x y m k e (inr (a, b)) = rw (a, b, e) refl

pub not_both : (v : ℕ → Bool) (l : Lit) → literal_value v l ≡ true → literal_value v (negated l) ≡ true → ⊥
not_both v l a b = false≢true (sym (ap not a) ∙ sym (value-negated v l) ∙ b)

pub either : (v : ℕ → Bool) (l : Lit) → (literal_value v l ≡ true) ⊎ (literal_value v (negated l) ≡ true)
either v l = pick (literal_value v l) (literal_value v (negated l)) (value-negated v l)
  where
    pick : (a b : Bool) → b ≡ not a → (a ≡ true) ⊎ (b ≡ true)
    pick true b e = inl refl
    pick false b e = inr e

-- a clause has a true literal, or all are false
pub clause_cases : (v : ℕ → Bool) (c : List Lit) → IsTrueClause v c ⊎ All (λ m. literal_value v (negated m) ≡ true) c
clause_cases v [] = inr (λ k d lt. absurd (omega (arith, lt)))
clause_cases v (x ∷ xs) =
    elim (either v x) [
      | inl t ↦ inl (x, (0, omega arith, refl), t)
      | inr f ↦ elim (clause_cases v xs) [
        | inl t ↦ inl (t.0, (suc t.1.0, omega (arith, t.1.1), t.1.2), t.2)
        | inr g ↦ inr (All-cons (λ m. literal_value v (negated m) ≡ true) x xs f g)
      ]
    ]
