-- What a look at a clause leaves.
use Rattle.std.proofs.Common.{◌≡◌, ℕ, zero, suc, ◌+◌, ◌-◌, ◌<◌, List, [], length, get_or, take, set, map, sym, ◌∙◌, ap, subst, inl, inr, refl, arith, Option, Some, None, length-append}
use Rattle.std.specs.List.{Contains}
use Rattle.std.proofs.lemmas.Bool.{cases_lt}
use Rattle.std.proofs.lemmas.List.{get_or_default, get_or-set_same, take-append-le, take_all, get_or_append_left, get_or-append_right, get_or-map, length-map}
use Rattle.stk_clauses.specs.declared.literal.Lit.{Lit}
use Rattle.stk_clauses.specs.Literals.{negated}
use Rattle.stk_clauses.specs.Propagation.{AllFalse}
use Rattle.stk_propagate.specs.Assigned.{Assigned}
use Rattle.stk_propagate.specs.Trailed.{Trailed, IsAssumed, IsGrown}
use Rattle.stk_propagate.specs.Fitting.{IsReason, IsSettled, IsWatched, IsCalm, Fits}
use Rattle.stk_propagate.proofs.Fits.{fits_watches, fits_looked}
use Rattle.stk_propagate.proofs.Choose.{AreNotLater}

-- a clause of one literal
pub single : (c : List Lit) (d m : Lit) → length c < 2 → Contains c m → get_or c 0 d ≡ m
single c d m short (zero, lt, e) = get_or_default c 0 d m lt ∙ e
single c d m short (suc k, lt, e) = absurd (omega (arith, short, lt))

pub watched_short : (c : List Lit) (w : Option (Lit × Lit)) → length c < 2 → IsWatched c w → w ≡ None
watched_short c None short s = refl
watched_short c (Some w) short s = absurd (s.2 (sym (single c w.0 w.0 short s.0) ∙ single c w.0 w.1 short s.1))

settled_short : (t c : List Lit) (d : Lit) → length c < 2 → 0 < length c → IsSettled t c → (l : Lit) × Contains c l × Contains t l
settled_short t c d short some (inl (inl q)) = q
settled_short t c d short some (inl (inr (a, b, ne, ca, cb, oa, ob))) = absurd (ne (sym (single c d a short ca) ∙ single c d b short cb))
settled_short t c d short some (inr e) = absurd (omega (arith, some, ap length e))

-- a clause of one literal was looked at, which is true
pub fits_short : (s : Trailed) (cs : List (List Lit)) (d : Lit) → Fits s cs → s.looked < length cs → length (get_or cs s.looked []) < 2 → 0 < length (get_or cs s.looked []) → Contains s.assigned.literals (get_or (get_or cs s.looked []) 0 d) → Fits (record s { looked = s.looked + 1 }) cs
fits_short s cs d f lt short some true' =
    let t : List Lit = s.assigned.literals in
    let c : List Lit = get_or cs s.looked [] in
    let none : get_or s.watches s.looked None ≡ None = watched_short c (get_or s.watches s.looked None) short (f.watched s.looked lt) in
    let first : Contains c (get_or c 0 d) = (0, some, get_or_default c 0 (get_or c 0 d) d some) in
    fits_looked s cs f lt
    (λ k p. subst (λ w. IsCalm (take k t) (take k t) c w) (sym none) (settled_short (take k t) c d short some (f.settled k s.looked p lt)))
    (subst (λ w. IsCalm (take s.propagated t) t c w) (sym none) (get_or c 0 d, first, true'))

-- a clause of two literals or more was looked at, and watches these
pub fits_long : (s : Trailed) (ws : List (Option (Lit × Lit))) (cs : List (List Lit)) (w : Lit × Lit) → Fits s cs → s.looked < length cs → ws ≡ set s.watches s.looked (Some w) → IsWatched (get_or cs s.looked []) (Some w)
    → ((k : ℕ) → IsAssumed s.assigned k → IsCalm (take k s.assigned.literals) (take k s.assigned.literals) (get_or cs s.looked []) (Some w)) → IsCalm (take s.propagated s.assigned.literals) s.assigned.literals (get_or cs s.looked []) (Some w)
    → Fits (record s { watches = ws; looked = s.looked + 1 }) cs
fits_long s ws cs w f lt e watched calm covered =
    let t : List Lit = s.assigned.literals in
    let c : List Lit = get_or cs s.looked [] in
    let in' : s.looked < length s.watches = omega (arith, lt, f.counted) in
    let u : Trailed = record s { watches = ws } in
    let g : Fits u cs = fits_watches s ws cs s.looked (Some w) f lt e watched calm covered in
    let is : get_or ws s.looked None ≡ Some w = ap (λ (xs : List (Option (Lit × Lit))). get_or xs s.looked None) e ∙ get_or-set_same s.watches s.looked (Some w) None in' in
    fits_looked u cs g lt
    (λ k p. subst (λ v. IsCalm (take k t) (take k t) c v) (sym is) (calm k p))
    (subst (λ v. IsCalm (take s.propagated t) t c v) (sym is) covered)

-- where the literals that became false last are false, all are
pub all_false : (t c : List Lit) (a b : Lit) → AreNotLater t c None a → AreNotLater t c (Some a) b → Contains c b → Contains t (negated a) → AllFalse t c
all_false t c a b fa fb cb h m cm =
    let whole : take (length t) t ≡ t = take_all (length t) t (omega arith) in
    let up : (x : Lit) → Contains t x → Contains (take (length t) t) x = λ x k. subst (λ xs. Contains xs x) (sym whole) k in
    let down : (x : Lit) → Contains (take (length t) t) x → Contains t x = λ x k. subst (λ xs. Contains xs x) whole k in
    let none : (x : Lit) → None ≡ Some x → ⊥ = λ x e. cc in
    down (negated m) (fa m cm (none m) (length t) (omega arith) (up (negated a) h))

pub others_false : (t c : List Lit) (a b : Lit) → AreNotLater t c (Some a) b → Contains c a → Contains t (negated b) → IsReason t c a
others_false t c a b fb ca h = record {
  has = ca;
  others = λ m cm ne.
      let whole : take (length t) t ≡ t = take_all (length t) t (omega arith) in
      let other : Some a ≡ Some m → ⊥ = λ e. let q : a ≡ m = cc in ne (sym q) in
      subst (λ xs. Contains xs (negated m)) whole (fb m cm other (length t) (omega arith) (subst (λ xs. Contains xs (negated b)) (sym whole) h));
}

-- what was added by clauses has no assumption
pub grown_assumed : (a b : Assigned) (k : ℕ) → length a.reasons ≡ length a.literals → length b.reasons ≡ length b.literals → IsGrown a b → IsAssumed b k → IsAssumed a k × (take k b.literals ≡ take k a.literals)
grown_assumed a b k pa pb g p =
    let xs : List Lit = g.more.0 in
    let rs : List (Option ℕ) = map (λ (r : ℕ). Some r) g.why.0 in
    let long : length b.reasons ≡ length a.reasons + length g.why.0 = ap length g.why.1 ∙ length-append a.reasons rs ∙ ap (λ (n : ℕ). length a.reasons + n) (length-map g.why.0 (λ (r : ℕ). Some r)) in
    elim (cases_lt k (length a.literals)) [
      | inl lt ↦
          let e : get_or b.reasons k None ≡ get_or a.reasons k None = ap (λ (ys : List (Option ℕ)). get_or ys k None) g.why.1 ∙ get_or_append_left a.reasons rs None k (omega (arith, lt, pa)) in
          ((lt, sym e ∙ p.1), ap (take k) g.more.1 ∙ take-append-le k a.literals xs (omega (arith, lt)))
      | inr ge ↦
          let in' : k - length a.reasons < length g.why.0 = omega (arith, p.0, ge, long, pa, pb) in
          let e : get_or b.reasons k None ≡ Some (get_or g.why.0 (k - length a.reasons) 0) =
          ap (λ (ys : List (Option ℕ)). get_or ys k None) g.why.1 ∙ get_or-append_right a.reasons rs (length a.reasons) k None refl (omega (arith, ge, pa)) ∙ get_or-map (λ (r : ℕ). Some r) g.why.0 (k - length a.reasons) 0 None in' in
          let no' : Some (get_or g.why.0 (k - length a.reasons) 0) ≡ None = sym e ∙ p.1 in
          absurd (cc)
    ]
