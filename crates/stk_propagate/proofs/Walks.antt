-- What a walk through the clauses that a literal's negation falsified leaves.
use Rattle.std.proofs.Common.{◌≡◌, ◌≢◌, ℕ, ◌+◌, ◌*◌, ◌/◌, ◌%◌, ◌<◌, List, [], length, get_or, sym, ◌∙◌, ap, subst, inl, inr, refl, arith, Option, Some, None}
use Rattle.std.specs.List.{Contains}
use Rattle.std.proofs.lemmas.Bool.{eq-eqb, ne_eqb}
use Rattle.std.proofs.lemmas.List.{get_or_default, get_or_append_left}
use Rattle.stk_clauses.specs.declared.literal.Lit.{Lit}
use Rattle.stk_clauses.specs.Literals.{negated, AreBelow}
use Rattle.stk_clauses.proofs.Values.{negated-negated}
use Rattle.stk_propagate.proofs.Numbers.{none_in}
use Rattle.stk_propagate.specs.Assigned.{Assigned}
use Rattle.stk_propagate.specs.declared.inner.Inner.{Inner}
use Rattle.stk_propagate.specs.Trailed.{IsGrown}
use Rattle.stk_propagate.specs.Linked.{trailed, side_of, watch_at, twin, chain_of, InSpare, AreLinked, AreCalmed}
use Rattle.stk_propagate.proofs.Links.{Watches}
use Rattle.stk_propagate.proofs.Fits.{IsDone}

-- the two places of a clause watch its two literals
pub watch_first : (ws : Watches) (x id : ℕ) (w : Lit × Lit) → x ≡ 2 * id → get_or ws id None ≡ Some w → watch_at ws x ≡ Some w.0
watch_first ws x id w ex e =
    let half : x / 2 ≡ id = omega (arith, ex) in
    let even : x % 2 ≡ 0 = omega (arith, ex) in
    ap (λ (j : ℕ). side_of (get_or ws j None) (x % 2)) half ∙ ap (λ (v : Option (Lit × Lit)). side_of v (x % 2)) e ∙ rw (eq-eqb (x % 2) 0 even) refl

pub watch_second : (ws : Watches) (x id : ℕ) (w : Lit × Lit) → x ≡ 2 * id + 1 → get_or ws id None ≡ Some w → watch_at ws x ≡ Some w.1
watch_second ws x id w ex e =
    let half : x / 2 ≡ id = omega (arith, ex) in
    let odd : x % 2 ≢ 0 = λ z. omega (arith, ex, z) in
    ap (λ (j : ℕ). side_of (get_or ws j None) (x % 2)) half ∙ ap (λ (v : Option (Lit × Lit)). side_of v (x % 2)) e ∙ rw (ne_eqb (x % 2) 0 odd) refl

-- each place that watches the literal has a true one beside it
beside : (v : Inner) (l m : Lit) (x : ℕ) → l.0 < 2 * v.assigned.vars → AreLinked v l (InSpare v) → AreCalmed v → chain_of v l ≡ [] → x / 2 < v.looked → watch_at v.watches.items x ≡ Some l → watch_at v.watches.items (twin x) ≡ Some m → Contains v.assigned.literals m
beside v l m x below linked calmed empty seen here there =
    elim ((linked l x below).1 (seen, here)) [
      | inl k ↦ absurd (none_in x (subst (λ ys. Contains ys x) empty k))
      | inr k ↦ calmed x m k.1 there
    ]

-- where the literal's chain is empty, all its clauses are done
pub walked_done : (v : Inner) (l : Lit) → l.0 < 2 * v.assigned.vars → AreLinked v l (InSpare v) → AreCalmed v → chain_of v l ≡ [] → IsDone (trailed v) l
walked_done v l below linked calmed empty id w lt e =
    let ws : Watches = v.watches.items in
    let even : twin (2 * id) ≡ 2 * id + 1 = omega arith in
    let odd : twin (2 * id + 1) ≡ 2 * id = omega arith in
    let low : (2 * id) / 2 < v.looked = omega (arith, lt) in
    let high : (2 * id + 1) / 2 < v.looked = omega (arith, lt) in (
      (λ q. beside v l w.1 (2 * id) below linked calmed empty low (watch_first ws (2 * id) id w refl e ∙ ap (λ (y : Lit). Some y) q) (watch_second ws (twin (2 * id)) id w even e)),
      (λ q. beside v l w.0 (2 * id + 1) below linked calmed empty high (watch_second ws (2 * id + 1) id w refl e ∙ ap (λ (y : Lit). Some y) q) (watch_first ws (twin (2 * id + 1)) id w odd e)),
    )

-- the literal that is gone through, by its negation
pub gone_through : (t r : List Lit) (l d : Lit) (h : ℕ) → r ≡ t → l ≡ negated (get_or r h d) → negated l ≡ get_or t h d
gone_through t r l d h er el = ap negated el ∙ negated-negated (get_or r h d) ∙ ap (λ (ys : List Lit). get_or ys h d) er

pub walked_below : (vars : ℕ) (t : List Lit) (l d : Lit) (h : ℕ) → AreBelow vars t → h < length t → negated l ≡ get_or t h d → l.0 < 2 * vars
walked_below vars t l d h below lt e =
    let b : (negated l).0 < 2 * vars = subst (λ (y : Lit). y.0 < 2 * vars) (sym e) (below h d lt) in
    omega (arith, b)

-- it still stands there
pub stands_still : (a b : Assigned) (p d : Lit) (h : ℕ) → IsGrown a b → h < length a.literals → p ≡ get_or a.literals h d → p ≡ get_or b.literals h p
stands_still a b p d h g lt e = e ∙ sym (get_or_default a.literals h p d lt) ∙ sym (ap (λ (ys : List Lit). get_or ys h p) g.more.1 ∙ get_or_append_left a.literals g.more.0 p h lt)
