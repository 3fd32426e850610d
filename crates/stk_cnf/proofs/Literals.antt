-- Clauses as values, and one more literal.
use Rattle.std.proofs.Common.{◌≡◌, ◌⊎◌, ℕ, Bool, true, false, ◌&&◌, ◌||◌, List, [], ◌∷◌, refl, ap, ◌∙◌, arith, inl, inr}
use Rattle.std.specs.List.{Contains}
use Rattle.std.proofs.lemmas.List.Elements.{All-cons, All-head, All-tail}
use Rattle.std.proofs.lemmas.Bool.{false≢true}
use Rattle.stk_clauses.specs.declared.literal.Lit.{Lit}
use Rattle.stk_clauses.specs.Literals.{literal_value, IsTrueClause, Satisfies}
use Rattle.stk_clauses.proofs.Members.{contains_head, contains_tail, contains_split}
use Rattle.stk_cnf.specs.Clauses.{clause_value, cnf_value}
use Rattle.stk_cnf.proofs.Growing.{or_true}

pub and_left : (a b : Bool) → a && b ≡ true → a ≡ true
and_left true b e = refl
and_left false b e = e

pub and_right : (a b : Bool) → a && b ≡ true → b ≡ true
and_right true b e = e
and_right false b e = absurd cc

pub both_true : (a b : Bool) → a ≡ true → b ≡ true → a && b ≡ true
both_true a b e f = (λ j. e j && f j)

or_cases : (a b : Bool) → a || b ≡ true → (a ≡ true) ⊎ (b ≡ true)
or_cases true b e = inl refl
or_cases false b e = inr e

-- a literal of a clause that is true makes it true
pub among_true : (v : ℕ → Bool) (c : List Lit) (l : Lit) → Contains c l → literal_value v l ≡ true → clause_value v c ≡ true
among_true v [] l h e = absurd (omega (arith, h.1))
among_true v (m ∷ c) l h e =
    elim (contains_split m c l h) [
      | inl same ↦ ap (λ b. clause_value v c || b) (ap (literal_value v) same ∙ e) ∙ or_true (clause_value v c)
      | inr in' ↦ ap (λ b. b || literal_value v m) (among_true v c l in' e)
    ]

clause_is : (v : ℕ → Bool) (c : List Lit) → clause_value v c ≡ true → IsTrueClause v c
clause_is v [] e = absurd (false≢true e)
clause_is v (m ∷ c) e =
    elim (or_cases (clause_value v c) (literal_value v m) e) [
      | inl rest ↦ let t = clause_is v c rest in (t.0, contains_tail m c t.0 t.1, t.2)
      | inr here ↦ (m, contains_head m c, here)
    ]

pub satisfies_from : (v : ℕ → Bool) (cs : List (List Lit)) → cnf_value v cs ≡ true → Satisfies v cs
satisfies_from v [] e = λ k d lt. absurd (omega (arith, lt))
satisfies_from v (c ∷ cs) e = All-cons (IsTrueClause v) c cs (clause_is v c (and_right (cnf_value v cs) (clause_value v c) e)) (satisfies_from v cs (and_left (cnf_value v cs) (clause_value v c) e))

pub value_from : (v : ℕ → Bool) (cs : List (List Lit)) → Satisfies v cs → cnf_value v cs ≡ true
value_from v [] s = refl
value_from v (c ∷ cs) s =
    let t : IsTrueClause v c = All-head (IsTrueClause v) c cs s in
    both_true (cnf_value v cs) (clause_value v c) (value_from v cs (All-tail (IsTrueClause v) c cs s)) (among_true v c t.0 t.1 t.2)
