-- There are at most as many true literals as variables; and where there are as many, each variable has a value.
use Rattle.std.proofs.Common.{◌≡◌, ◌≢◌, ◌⊎◌, ℕ, suc, ◌+◌, ◌*◌, ◌/◌, ◌%◌, ◌<◌, ◌≤◌, List, [], ◌∷◌, ◌++◌, length, get_or, take, map, sym, ◌∙◌, subst, inl, inr, arith, Option, Some, None, length-append}
use Rattle.std.specs.List.{Contains, sum_by}
use Rattle.stk_clauses.specs.Propagation.{IsOpen}
use Rattle.std.proofs.lemmas.Bool.{cases_eq}
use Rattle.std.proofs.lemmas.List.Sums.{sum_by-le}
use Rattle.std.proofs.lemmas.List.Elements.{All-push}
use Rattle.std.proofs.lemmas.List.{length-map, get_or-map, get_or_default}
use Rattle.stk_clauses.specs.declared.literal.Lit.{Lit}
use Rattle.stk_clauses.specs.Literals.{AreBelow}
use Rattle.stk_clauses.proofs.Values.{same_lit}
use Rattle.stk_propagate.specs.WatchLists.{AreOnce}
use Rattle.stk_propagate.specs.Assigned.{AreFresh}
use Rattle.stk_propagate.proofs.Numbers.{none_in, in_head, in_tail, in_split, once_short}
use Rattle.stk_propagate.proofs.Lists.{in_front}
use Rattle.stk_propagate.proofs.Pushing.{same_variable, fresh_push}
use Rattle.stk_propagate.specs.Trailed.{one_if_assumed}
use Rattle.stk_propagate.specs.AssignmentInside.{IsInside}
use Rattle.stk_propagate.specs.declared.assignment.Assignment.TheInside.{Inside}

abbrev zero_lit : Lit
zero_lit = record { 0 = 0 }

abbrev variables : List Lit → List ℕ
variables t = map (λ (l : Lit). l.0 / 2) t

once_by : (xs : List ℕ) → ((i j : ℕ) → i < j → j < length xs → get_or xs i 0 ≢ get_or xs j 0) → AreOnce xs
once_by [] h = tt
once_by (x ∷ xs) h = (
  (λ k. h 0 (suc k.0) (omega arith) (omega (arith, k.1)) (sym (get_or_default xs k.0 0 x k.1 ∙ k.2))),
  once_by xs (λ i j ij lt. h (suc i) (suc j) (omega (arith, ij)) (omega (arith, lt))),
)

variable_at : (t : List Lit) (k : ℕ) → k < length t → get_or (variables t) k 0 ≡ (get_or t k zero_lit).0 / 2
variable_at t k lt = get_or-map (λ (l : Lit). l.0 / 2) t k zero_lit 0 lt

many_variables : (t : List Lit) → length (variables t) ≡ length t
many_variables t = length-map t (λ (l : Lit). l.0 / 2)

variables_differ : (t : List Lit) → AreFresh t → (i j : ℕ) → i < j → j < length t → (get_or t i zero_lit).0 / 2 ≢ (get_or t j zero_lit).0 / 2
variables_differ t fresh i j ij lt e =
    let a : Lit = get_or t i zero_lit in
    let b : Lit = get_or t j zero_lit in
    let il : i < length t = omega (arith, ij, lt) in
    let o = fresh j zero_lit lt in
    let here : Contains (take j t) a = in_front t a i j ij il (sym (get_or_default t i zero_lit a il)) in
    elim (same_variable b a (sym e)) [
      | inl f ↦ o.0 (subst (λ y. Contains (take j t) y) f here)
      | inr f ↦ o.1 (subst (λ y. Contains (take j t) y) f here)
    ]

variables_once : (t : List Lit) → AreFresh t → AreOnce (variables t)
variables_once t fresh =
    once_by (variables t) (λ i j ij lt e.
    let jl : j < length t = omega (arith, lt, many_variables t) in
    let il : i < length t = omega (arith, ij, jl) in
    variables_differ t fresh i j ij jl (sym (variable_at t i il) ∙ e ∙ variable_at t j jl))

variables_below : (t : List Lit) (vars : ℕ) → AreBelow vars t → (q : ℕ) → Contains (variables t) q → q < vars
variables_below t vars below q (k, lt, e) =
    let kl : k < length t = omega (arith, lt, many_variables t) in
    let f : (get_or t k zero_lit).0 / 2 ≡ q = sym (variable_at t k kl) ∙ get_or_default (variables t) k 0 q lt ∙ e in
    let b : (get_or t k zero_lit).0 < 2 * vars = below k zero_lit kl in
    omega (arith, f, b)

-- no more true literals than variables
pub fresh_short : (t : List Lit) (vars : ℕ) → AreFresh t → AreBelow vars t → length t ≤ vars
fresh_short t vars fresh below = omega (arith, once_short (variables t) vars (variables_once t fresh) (variables_below t vars below), many_variables t)

has_or_not : (xs : List ℕ) (v : ℕ) → Contains xs v ⊎ (Contains xs v → ⊥)
has_or_not [] v = inr (none_in v)
has_or_not (x ∷ xs) v =
    elim (cases_eq x v) [
      | inl e ↦ inl (subst (λ y. Contains (x ∷ xs) y) e (in_head x xs))
      | inr n ↦ elim (has_or_not xs v) [
        | inl a ↦ inl (in_tail x xs v a)
        | inr b ↦ inr (λ h. elim (in_split x xs v h) [ inl e ↦ n e | inr k ↦ b k ])
      ]
    ]

-- where there are as many true literals as variables, each variable has one
pub fresh_full : (t : List Lit) (vars : ℕ) → AreFresh t → AreBelow vars t → vars ≤ length t → (v : ℕ) → v < vars → Contains t (record { 0 = 2 * v }) ⊎ Contains t (record { 0 = 2 * v + 1 })
fresh_full t vars fresh below many v lt =
    elim (has_or_not (variables t) v) [
      | inl h ↦
          let kl : h.0 < length t = omega (arith, h.1, many_variables t) in
          let l : Lit = get_or t h.0 zero_lit in
          let f : l.0 / 2 ≡ v = sym (variable_at t h.0 kl) ∙ get_or_default (variables t) h.0 0 v h.1 ∙ h.2 in
          let here : Contains t l = (h.0, kl, sym (get_or_default t h.0 zero_lit l kl)) in
          elim (cases_eq (l.0 % 2) 0) [
            | inl z ↦ inl (subst (λ y. Contains t y) (same_lit l (record { 0 = 2 * v }) (omega (arith, f, z))) here)
            | inr z ↦ inr (subst (λ y. Contains t y) (same_lit l (record { 0 = 2 * v + 1 }) (omega (arith, f, z))) here)
          ]
      | inr n ↦
          let all : (q : ℕ) → Contains (v ∷ variables t) q → q < vars = λ q h. elim (in_split v (variables t) q h) [ inl e ↦ omega (arith, e, lt) | inr k ↦ variables_below t vars below q k ] in
          let short : length (v ∷ variables t) ≤ vars = once_short (v ∷ variables t) vars (n, variables_once t fresh) all in
          absurd (omega (arith, short, many_variables t, many))
    ]

at_most_one : (r : Option ℕ) → one_if_assumed r ≤ 1
at_most_one None = omega arith
at_most_one (Some r) = omega arith

-- fewer literals are assumed than there are variables, where one is unassigned
pub depth_left : (f : Inside) (l : Lit) → IsInside f → l.0 < 2 * f.vars → IsOpen f.literals.items l → f.depth < f.vars
depth_left f l s lt o =
    let t : List Lit = f.literals.items in
    let rs : List (Option ℕ) = f.reasons.items in
    let short = fresh_short (t ++ l ∷ []) f.vars (fresh_push t l s.facts.fresh o) (All-push (λ (y : Lit). y.0 < 2 * f.vars) t l s.facts.within lt) in
    let most : sum_by one_if_assumed rs ≤ length rs * 1 = sum_by-le one_if_assumed 1 rs (λ k d h. at_most_one (get_or rs k d)) in
    omega (arith, short, length-append t (l ∷ []), s.facts.paired, s.deep, most)
