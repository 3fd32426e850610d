-- Literals in fronts of a list, and chains of a list of chains.
use Rattle.std.proofs.Common.{◌≡◌, ◌≢◌, ℕ, ◌<◌, List, [], length, get_or, take, set, sym, ◌∙◌, ap, subst, inl, inr, arith}
use Rattle.std.specs.List.{Contains}
use Rattle.std.proofs.lemmas.Bool.{cases_order}
use Rattle.std.proofs.lemmas.List.{length-take, get_or-take, get_or_default, get_or-set_same, get_or-set_other}
use Rattle.stk_clauses.specs.declared.literal.Lit.{Lit}
use Rattle.stk_clauses.specs.Literals.{negated}
use Rattle.stk_clauses.specs.Propagation.{IsOpen, HasNoPair}
use Rattle.stk_clauses.proofs.Values.{negated-negated, negated-other}
use Rattle.stk_propagate.specs.Assigned.{AreFresh}

pub in_take : (t : List Lit) (k : ℕ) (x : Lit) → Contains (take k t) x → Contains t x
in_take t k x (j, lt, e) =
    let a : j < k = omega (arith, lt, length-take k t) in
    let b : j < length t = omega (arith, lt, length-take k t) in
    (j, b, sym (get_or-take k t j x a) ∙ e)

pub in_front : (t : List Lit) (x : Lit) (i k : ℕ) → i < k → i < length t → get_or t i x ≡ x → Contains (take k t) x
in_front t x i k lt in' e = (i, omega (arith, lt, in', length-take k t), get_or-take k t i x lt ∙ e)

-- literals that were unassigned when they became true have no pair
pub no_pair : (t : List Lit) → AreFresh t → HasNoPair t
no_pair t s l (i, hi, ei) (j, hj, ej) =
    elim (cases_order i j) [
      | inl e ↦ negated-other l (sym ej ∙ ap (λ (n : ℕ). get_or t n (negated l)) (sym e) ∙ sym (get_or_default t i l (negated l) hi) ∙ ei)
      | inr r ↦ elim r [
        | inl lt ↦
            let o = subst (λ y. IsOpen (take j t) y) ej (s j (negated l) hj) in
            o.1 (subst (λ y. Contains (take j t) y) (sym (negated-negated l)) (in_front t l i j lt hi ei))
        | inr gt ↦
            let o = subst (λ y. IsOpen (take i t) y) ei (s i l hi) in
            o.1 (in_front t (negated l) j i gt hj ej)
      ]
    ]

-- a list of chains with the chain at i changed
pub at_set : (cs : List (List ℕ)) (i m : ℕ) (ys : List ℕ) → i < length cs → m ≡ i → get_or (set cs i ys) m [] ≡ ys
at_set cs i m ys lt e = ap (λ (n : ℕ). get_or (set cs i ys) n []) e ∙ get_or-set_same cs i ys [] lt

pub at_else : (cs : List (List ℕ)) (i m : ℕ) (ys : List ℕ) → m ≢ i → get_or (set cs i ys) m [] ≡ get_or cs m []
at_else cs i m ys ne = get_or-set_other cs i m ys [] ne
