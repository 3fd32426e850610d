-- What a goal adds to the cost of a walk's values, where no step says what another one says.
use Rattle.std.proofs.Common.{◌≡◌, ℕ, ◌+◌, ◌*◌, ◌≤◌, Bool, true, false, inl, inr, List, [], ◌∷◌, map, nat_eq, refl, sym, ap, subst, arith, if◌then◌else◌}
use Rattle.stk_numbers.specs.declared.conditions.Condition.{Condition}
use Rattle.stk_meaning.specs.Hits.{has}
use Rattle.stk_run_laws.specs.Visits.{IsIn}
use Rattle.stk_values.specs.declared.walked.Step.{Step}
use Rattle.stk_values.specs.declared.walked.Step.TheVariants.{Broken, Hit}
use Rattle.stk_values.specs.Walks.{is_hit, event_of}
use Rattle.stk_event_laws.specs.Listed.{StandOnce}
use Rattle.stk_symbols.specs.Goals.{goal_charge}
use Rattle.stk_goals.specs.Goals.{violations, most_added}

at_most : (b : Bool) (n : ℕ) → (if b then n else 0) ≤ n
at_most true n = omega arith
at_most false n = omega arith

nothing : (b : Bool) → b ≡ false → (if b then 6 else 0) ≤ 0
nothing true e = absurd (cc)
nothing false e = omega arith

apart : (a b : ℕ) → (a ≡ b → ⊥) → nat_eq a b ≡ false
apart a b f = grind arith

same : (a b : ℕ) → nat_eq a b ≡ true → a ≡ b
same a b e = grind arith

module _ {V : Type 0} (set : List Condition) (c : ℕ) where
  -- where no step tells of a hit of the candidate
  no_hits : (xs : List (Step V)) → (IsIn (is_hit c) (map (λ x. event_of x) xs) → ⊥) → goal_charge set c xs ≤ 3 * violations xs
  no_hits [] n = omega arith
  no_hits (Broken k v ∷ xs) n =
      let h = no_hits xs (λ i. n (inr i)) in
      let b = at_most (has set k) 3 in
      omega (arith, h, b)
  no_hits (Hit j v ∷ xs) n =
      let h = no_hits xs (λ i. n (inr i)) in
      let e : nat_eq j c ≡ false = apart j c (λ e. n (inl (ap is_hit (sym e)))) in
      let b = nothing (nat_eq j c) e in
      omega (arith, h, b)

  -- where one does, and maybe it is the first
  hit_few : (j : ℕ) (xs : List (Step V)) → (IsIn (is_hit j) (map (λ x. event_of x) xs) → ⊥) → goal_charge set c xs ≤ most_added xs → (b : Bool) → nat_eq j c ≡ b → (if nat_eq j c then 6 else 0) + goal_charge set c xs ≤ most_added xs
  hit_few j xs n g true e =
      let here : j ≡ c = same j c e in
      let k = no_hits xs (λ i. n (subst (λ m. IsIn (is_hit m) (map (λ x. event_of x) xs)) (sym here) i)) in
      let b = at_most (nat_eq j c) 6 in
      omega (arith, k, b)
  hit_few j xs n g false e =
      let b = nothing (nat_eq j c) e in
      omega (arith, g, b)

  -- where one does at most
  pub charge_few : (xs : List (Step V)) → StandOnce (map (λ x. event_of x) xs) → goal_charge set c xs ≤ most_added xs
  charge_few [] h = omega arith
  charge_few (Broken k v ∷ xs) h =
      let g = charge_few xs h.1 in
      let b = at_most (has set k) 3 in
      omega (arith, g, b)
  charge_few (Hit j v ∷ xs) h = hit_few j xs h.0 (charge_few xs h.1) (nat_eq j c) refl
