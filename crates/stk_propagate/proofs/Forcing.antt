-- What propagation makes true is what unit propagation gives.
use Rattle.std.proofs.Common.{◌≡◌, ℕ, zero, suc, ◌+◌, ◌-◌, ◌<◌, ◌≤◌, List, [], length, get_or, map, sym, ◌∙◌, ap, subst, inl, inr, refl, arith, Option, Some, None, length-append}
use Rattle.std.specs.List.{Contains}
use Rattle.std.proofs.lemmas.Bool.{cases_lt}
use Rattle.std.proofs.lemmas.List.{length-take, get_or-take, get_or_append_left, get_or-append_right, get_or-map, length-map}
use Rattle.std.proofs.lemmas.List.Elements.{Contains-get_or}
use Rattle.stk_clauses.specs.declared.literal.Lit.{Lit}
use Rattle.stk_clauses.specs.Literals.{negated}
use Rattle.stk_clauses.specs.Propagation.{Forced, assumed, unit, AreQuiet}
use Rattle.stk_clauses.proofs.Units.{forced_in}
use Rattle.stk_propagate.specs.Assigned.{Assigned, AreFresh}
use Rattle.stk_propagate.specs.Trailed.{IsGrown}
use Rattle.stk_propagate.specs.Fitting.{AreReasons}
use Rattle.stk_propagate.proofs.Lists.{no_pair}

-- the reason of a literal that was added
added_reason : (a b : Assigned) (k : ℕ) → length a.reasons ≡ length a.literals → length b.reasons ≡ length b.literals → IsGrown a b → k < length b.literals → length a.literals ≤ k → (r : ℕ) × (get_or b.reasons k None ≡ Some r)
added_reason a b k pa pb g lt ge =
    let rs : List (Option ℕ) = map (λ (r : ℕ). Some r) g.why.0 in
    let long : length b.reasons ≡ length a.reasons + length g.why.0 = ap length g.why.1 ∙ length-append a.reasons rs ∙ ap (λ (n : ℕ). length a.reasons + n) (length-map g.why.0 (λ (r : ℕ). Some r)) in
    let in' : k - length a.reasons < length g.why.0 = omega (arith, lt, ge, long, pa, pb) in (
      get_or g.why.0 (k - length a.reasons) 0,
      ap (λ (ys : List (Option ℕ)). get_or ys k None) g.why.1 ∙ get_or-append_right a.reasons rs (length a.reasons) k None refl (omega (arith, ge, pa)) ∙ get_or-map (λ (r : ℕ). Some r) g.why.0 (k - length a.reasons) 0 None in',
    )

forced_below : (a b : Assigned) (cs : List (List Lit)) → length a.reasons ≡ length a.literals → length b.reasons ≡ length b.literals → IsGrown a b → AreReasons b cs → (n k : ℕ) (d : Lit) → k < n → k < length b.literals → Forced cs (Contains a.literals) (get_or b.literals k d)
forced_below a b cs pa pb g why zero k d lt in' = absurd (omega (arith, lt))
forced_below a b cs pa pb g why (suc n) k d lt in' =
    elim (cases_lt k (length a.literals)) [
      | inl h ↦
          let e : get_or b.literals k d ≡ get_or a.literals k d = ap (λ (xs : List Lit). get_or xs k d) g.more.1 ∙ get_or_append_left a.literals g.more.0 d k h in
          assumed {l = get_or b.literals k d} (subst (λ y. Contains a.literals y) (sym e) (Contains-get_or a.literals k d h))
      | inr ge ↦
          let r = added_reason a b k pa pb g in' ge in
          let w = why k r.0 d in' r.1 in
          let t : List Lit = b.literals in
          unit {c = get_or cs r.0 []} {l = get_or t k d} (Contains-get_or cs r.0 [] w.0) w.1.has
          (λ m cm ne.
          let h = w.1.others m cm ne in
          let j : ℕ = h.0 in
          let jk : j < k = omega (arith, h.1, length-take k t) in
          let jt : j < length t = omega (arith, h.1, length-take k t) in
          subst (λ y. Forced cs (Contains a.literals) y) (sym (get_or-take k t j (negated m) jk) ∙ h.2) (forced_below a b cs pa pb g why n j (negated m) (omega (arith, jk, lt)) jt))
    ]

-- each literal is what unit propagation gives from the old ones
pub forced_grown : (a b : Assigned) (cs : List (List Lit)) → length a.reasons ≡ length a.literals → length b.reasons ≡ length b.literals → IsGrown a b → AreReasons b cs → (l : Lit) → Contains b.literals l → Forced cs (Contains a.literals) l
forced_grown a b cs pa pb g why l h = subst (λ y. Forced cs (Contains a.literals) y) h.2 (forced_below a b cs pa pb g why (length b.literals) h.0 l h.1 h.1)

-- where every clause is quiet, nothing is added
pub nothing_added : (a b : Assigned) (cs : List (List Lit)) → AreFresh b.literals → length a.reasons ≡ length a.literals → length b.reasons ≡ length b.literals → IsGrown a b → AreReasons b cs → AreFresh a.literals → AreQuiet a.literals cs → (l : Lit) → Contains b.literals l → Contains a.literals l
nothing_added a b cs sb pa pb g why sa quiet l h =
    forced_in cs (Contains a.literals) a.literals (λ m k. k) (no_pair a.literals sa) quiet l (forced_grown a b cs pa pb g why l h)
